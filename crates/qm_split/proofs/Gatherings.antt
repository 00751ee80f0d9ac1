-- What is known of a cell after one solid more.
use Rattle.std.proofs.Common.{◌≡◌, ◌⊎◌, inl, inr, ⊎_elim, ◌+◌, ◌<◌, ◌≤◌, Bool, true, false, nat_lt, Option, Some, None, List, [], ◌∷◌, ◌++◌, length, map, All, Contains, refl, sym, ap, ◌∙◌, subst, arith}
use Rattle.std.specs.List.{filter}
use Rattle.std.proofs.lemmas.Bool.Decides.{nat_tests}
use Rattle.std.proofs.lemmas.List.{map-append}
use Rattle.std.proofs.lemmas.List.Elements.{All-nil, All-push, All-filter, All-weaker, filter_passes, All-contains, Contains-push, Contains-push_cases, Contains-append_left}
use Rattle.qm_space.specs.Plane.{Plane}
use Rattle.qm_contents.specs.declared.contents.Contents.{Contents}
use Rattle.qm_contents.specs.Precedence.{strength}
use Rattle.qm_solids.specs.Solid.{Solid}
use Rattle.qm_solids.specs.Holding.{IsFull}
use Rattle.qm_solids.specs.Cells.{ContainsCell}
use Rattle.qm_solids.specs.Uniform.{LiesOutside}
use Rattle.qm_split.specs.declared.contender.Contender.{Contender}
use Rattle.qm_split.specs.declared.gathering.Gathering.{Gathering}
use Rattle.qm_split.specs.Pieces.{solid_of_contender, IsContender}
use Rattle.qm_split.specs.CellFragments.{pieces_of, IsAtMostKnown, IsAccounted, IsKeptContender}
use Rattle.qm_split.specs.inner.Gathered.{IsGathered, is_stronger_than, Keeps, Raises}
use Rattle.qm_split.specs.inner.Gathered.Keeps.{passed, gained}
use Rattle.qm_split.specs.inner.Gathered.Raises.{known, risen}
use Rattle.qm_lists.proofs.Elements.{Contains-nil, Contains-map, Contains-map_from, Contains-filter}
use Rattle.qm_lists.proofs.Cases.{by_cases}
use Rattle.qm_split.proofs.ListedItems.{all_of_listed}

-- ---- what is reached

pub reached_less : (strongest : Option Contents) (a b : Contents) → IsAtMostKnown strongest b → strength a ≤ strength b → IsAtMostKnown strongest a
reached_less None a b is less = is
reached_less (Some k) a b is less = omega (arith, is)

pub reached_raised : (old : Option Contents) (k c : Contents) → (IsAtMostKnown old k → ⊥) → IsAtMostKnown old c → IsAtMostKnown (Some k) c
reached_raised None k c not is = absurd is
reached_raised (Some s) k c not is = by_order (nat_lt (strength s) (strength k)) refl
  where
    by_order : (b : Bool) → nat_lt (strength s) (strength k) ≡ b → IsAtMostKnown (Some k) c
    by_order true e = let l : strength s < strength k = grind (arith, nat_tests) in omega (arith, is)
    by_order false e = let l : strength k ≤ strength s = grind (arith, nat_tests) in absurd (not l)

-- ---- one solid more

pub no_solids : (book cell : List Plane) (before : Option Contents) (gathering : Gathering) → gathering.strongest ≡ before → gathering.contenders.items ≡ [] → IsGathered book cell before [] gathering
no_solids book cell before gathering same none = record {
  no_weaker = λ c is. subst (λ (s : Option Contents). IsAtMostKnown s c) (sym same) is;
  given = inl same;
  kept = subst (λ (qs : List Contender). All (IsKeptContender [] book cell gathering.strongest) qs) (sym none) (All-nil (IsKeptContender [] book cell gathering.strongest));
  accounted = λ solid among full. absurd (Contains-nil solid among);
}

more_kept : (book cell : List Plane) (done : List Solid) (solid : Solid) (strongest : Option Contents) (contender : Contender) → IsKeptContender done book cell strongest contender → IsKeptContender (done ++ solid ∷ []) book cell strongest contender
more_kept book cell done solid strongest contender is =
    record { listed = Contains-append_left done (solid ∷ []) (solid_of_contender contender) is.listed; contends = is.contends; stronger = is.stronger }

-- the new gathering has the same contents, and what was kept still is
module _ (book cell : List Plane) (before : Option Contents) (done : List Solid) (solid : Solid) (old new : Gathering) (are : IsGathered book cell before done old) where
  -- nothing new is kept
  pub gathered_same : new.strongest ≡ old.strongest → new.contenders.items ≡ old.contenders.items → (IsFull solid → IsAccounted cell old.strongest old.contenders.items solid) → IsGathered book cell before (done ++ solid ∷ []) new
  gathered_same same all this = record {
    no_weaker = λ c is. subst (λ (s : Option Contents). IsAtMostKnown s c) (sym same) (are.no_weaker c is);
    given = ⊎_elim (λ e. inl (same ∙ e)) (λ by. inr (by.0, Contains-append_left done (solid ∷ []) by.0 by.1, by.2, same ∙ by.3)) are.given;
    kept = subst (λ (s : Option Contents). All (IsKeptContender (done ++ solid ∷ []) book cell s) new.contenders.items) (sym same)
        (subst (λ (qs : List Contender). All (IsKeptContender (done ++ solid ∷ []) book cell old.strongest) qs) (sym all)
        (All-weaker (IsKeptContender done book cell old.strongest) (IsKeptContender (done ++ solid ∷ []) book cell old.strongest) (λ q. more_kept book cell done solid old.strongest q) old.contenders.items are.kept));
    accounted = λ s among full. back s (⊎_elim (λ earlier. are.accounted s earlier full) (λ e. subst (λ (t : Solid). IsAccounted cell old.strongest old.contenders.items t) e (this (subst IsFull (sym e) full))) (Contains-push_cases done solid s among));
  }
    where
      back : (s : Solid) → IsAccounted cell old.strongest old.contenders.items s → IsAccounted cell new.strongest new.contenders.items s
      back s is = subst (λ (o : Option Contents). IsAccounted cell o new.contenders.items s) (sym same) (subst (λ (qs : List Contender). IsAccounted cell old.strongest qs s) (sym all) is)

  -- one is kept
  pub gathered_kept : (contender : Contender) → new.strongest ≡ old.strongest → new.contenders.items ≡ old.contenders.items ++ contender ∷ [] →
      (IsAtMostKnown old.strongest contender.contents → ⊥) → IsContender book cell contender → solid_of_contender contender ≡ solid → IsGathered book cell before (done ++ solid ∷ []) new
  gathered_kept contender same all stronger contends stands = record {
    no_weaker = λ c is. subst (λ (s : Option Contents). IsAtMostKnown s c) (sym same) (are.no_weaker c is);
    given = ⊎_elim (λ e. inl (same ∙ e)) (λ by. inr (by.0, Contains-append_left done (solid ∷ []) by.0 by.1, by.2, same ∙ by.3)) are.given;
    kept = subst (λ (s : Option Contents). All (IsKeptContender (done ++ solid ∷ []) book cell s) new.contenders.items) (sym same)
        (subst (λ (qs : List Contender). All (IsKeptContender (done ++ solid ∷ []) book cell old.strongest) qs) (sym all)
        (All-push (IsKeptContender (done ++ solid ∷ []) book cell old.strongest) old.contenders.items contender
        (All-weaker (IsKeptContender done book cell old.strongest) (IsKeptContender (done ++ solid ∷ []) book cell old.strongest) (λ q. more_kept book cell done solid old.strongest q) old.contenders.items are.kept)
        (record { listed = subst (λ (s : Solid). Contains (done ++ solid ∷ []) s) (sym stands) (Contains-push done solid); contends = contends; stronger = stronger })));
    accounted = λ s among full. back s (⊎_elim
        (λ earlier. more s (are.accounted s earlier full))
        (λ e. inr (inl (subst (λ (t : Solid). Contains (map solid_of_contender (old.contenders.items ++ contender ∷ [])) t) (stands ∙ e) last)))
        (Contains-push_cases done solid s among));
  }
    where
      last : Contains (map solid_of_contender (old.contenders.items ++ contender ∷ [])) (solid_of_contender contender)
      last = subst (λ (ss : List Solid). Contains ss (solid_of_contender contender)) (sym (map-append solid_of_contender old.contenders.items (contender ∷ []))) (Contains-push (map solid_of_contender old.contenders.items) (solid_of_contender contender))

      more : (s : Solid) → IsAccounted cell old.strongest old.contenders.items s → IsAccounted cell old.strongest (old.contenders.items ++ contender ∷ []) s
      more s (inl reached) = inl reached
      more s (inr (inl stays)) = inr (inl (subst (λ (ss : List Solid). Contains ss s) (sym (map-append solid_of_contender old.contenders.items (contender ∷ []))) (Contains-append_left (map solid_of_contender old.contenders.items) (solid_of_contender contender ∷ []) s stays)))
      more s (inr (inr outside)) = inr (inr outside)

      back : (s : Solid) → IsAccounted cell old.strongest (old.contenders.items ++ contender ∷ []) s → IsAccounted cell new.strongest new.contenders.items s
      back s is = subst (λ (o : Option Contents). IsAccounted cell o new.contenders.items s) (sym same) (subst (λ (qs : List Contender). IsAccounted cell old.strongest qs s) (sym all) is)

-- ---- contents that rise

not_stronger : (a b : Contents) → nat_lt (strength a) (strength b) ≡ false → strength b ≤ strength a
not_stronger a b weaker = grind (arith, nat_tests)

still_or_weaker : (contents : Contents) (qs : List Contender) (solid : Solid) → Contains (map solid_of_contender qs) solid → IsAtMostKnown (Some contents) solid.contents ⊎ Contains (map solid_of_contender (filter (is_stronger_than contents) qs)) solid
still_or_weaker contents qs solid among =
    let at = Contains-map_from solid_of_contender qs solid among in
    by_cases (is_stronger_than contents at.0)
    (λ stronger. inr (subst (λ (s : Solid). Contains (map solid_of_contender (filter (is_stronger_than contents) qs)) s) at.2 (Contains-map solid_of_contender (filter (is_stronger_than contents) qs) at.0 (Contains-filter (is_stronger_than contents) qs at.0 at.1 stronger))))
    (λ weaker. inl (subst (λ (s : Solid). IsAtMostKnown (Some contents) s.contents) at.2 (not_stronger contents at.0.contents weaker)))

module _ (book cell : List Plane) (before : Option Contents) (done : List Solid) (solid : Solid) (old new : Gathering) (are : IsGathered book cell before done old) where
  pub gathered_risen : (contents : Contents) → (IsAtMostKnown old.strongest contents → ⊥) → new.strongest ≡ Some contents → new.contenders.items ≡ filter (is_stronger_than contents) old.contenders.items →
      contents ≡ solid.contents → ContainsCell solid cell → IsGathered book cell before (done ++ solid ∷ []) new
  gathered_risen contents above rises left same contains = record {
    no_weaker = λ c is. raised c (reached_raised old.strongest contents c above (are.no_weaker c is));
    given = inr (solid, Contains-push done solid, contains, rises ∙ ap (λ (k : Contents). Some k) same);
    kept = subst (λ (s : Option Contents). All (IsKeptContender (done ++ solid ∷ []) book cell s) new.contenders.items) (sym rises)
        (subst (λ (qs : List Contender). All (IsKeptContender (done ++ solid ∷ []) book cell (Some contents)) qs) (sym left)
        (all_of_listed (IsKeptContender (done ++ solid ∷ []) book cell (Some contents)) (filter (is_stronger_than contents) old.contenders.items) one));
    accounted = λ s among full. back s (⊎_elim
        (λ earlier. still s (are.accounted s earlier full))
        (λ e. inl (subst (λ (t : Solid). IsAtMostKnown (Some contents) t.contents) e (let m = ap strength same in omega arith)))
        (Contains-push_cases done solid s among));
  }
    where
      raised : (c : Contents) → IsAtMostKnown (Some contents) c → IsAtMostKnown new.strongest c
      raised c is = subst (λ (s : Option Contents). IsAtMostKnown s c) (sym rises) is

      one : (q : Contender) → Contains (filter (is_stronger_than contents) old.contenders.items) q → IsKeptContender (done ++ solid ∷ []) book cell (Some contents) q
      one q among =
          let was = All-contains (IsKeptContender done book cell old.strongest) (filter (is_stronger_than contents) old.contenders.items) q (All-filter (is_stronger_than contents) (IsKeptContender done book cell old.strongest) old.contenders.items are.kept) among in
          let passes : is_stronger_than contents q ≡ true = All-contains (λ r. is_stronger_than contents r ≡ true) (filter (is_stronger_than contents) old.contenders.items) q (filter_passes (is_stronger_than contents) old.contenders.items) among in
          record {
            listed = Contains-append_left done (solid ∷ []) (solid_of_contender q) was.listed;
            contends = was.contends;
            stronger = λ reached. let l : strength contents < strength q.contents = grind (arith, nat_tests) in absurd (omega (arith, reached));
          }

      still : (s : Solid) → IsAccounted cell old.strongest old.contenders.items s → IsAccounted cell (Some contents) (filter (is_stronger_than contents) old.contenders.items) s
      still s (inl reached) = inl (reached_raised old.strongest contents s.contents above reached)
      still s (inr (inl stays)) = ⊎_elim (λ weaker. inl weaker) (λ kept. inr (inl kept)) (still_or_weaker contents old.contenders.items s stays)
      still s (inr (inr outside)) = inr (inr outside)

      back : (s : Solid) → IsAccounted cell (Some contents) (filter (is_stronger_than contents) old.contenders.items) s → IsAccounted cell new.strongest new.contenders.items s
      back s is = subst (λ (o : Option Contents). IsAccounted cell o new.contenders.items s) (sym rises) (subst (λ (qs : List Contender). IsAccounted cell (Some contents) qs s) (sym left) is)

-- ---- by what code does

module _ (book cell : List Plane) (before : Option Contents) (done : List Solid) (solid : Solid) (old new : Gathering) (are : IsGathered book cell before done old) where
  pub gathered_by_keeping : (contender : Contender) → IsContender book cell contender × (solid_of_contender contender ≡ solid) → Keeps old contender new → IsGathered book cell before (done ++ solid ∷ []) new
  gathered_by_keeping contender is (passed reached same) =
      gathered_same book cell before done solid old new are (ap (λ (g : Gathering). g.strongest) same) (ap (λ (g : Gathering). g.contenders.items) same)
      (λ full. inl (subst (λ (s : Solid). IsAtMostKnown old.strongest s.contents) is.1 reached))
  gathered_by_keeping contender is (gained stronger same all) =
      gathered_kept book cell before done solid old new are contender same all stronger is.0 is.1

  pub gathered_by_raising : (contents : Contents) → (contents ≡ solid.contents) × ContainsCell solid cell → Raises old contents new → IsGathered book cell before (done ++ solid ∷ []) new
  gathered_by_raising contents is (known reached same) =
      gathered_same book cell before done solid old new are (ap (λ (g : Gathering). g.strongest) same) (ap (λ (g : Gathering). g.contenders.items) same)
      (λ full. inl (subst (λ (c : Contents). IsAtMostKnown old.strongest c) is.0 reached))
  gathered_by_raising contents is (risen above rises left) =
      gathered_risen book cell before done solid old new are contents above rises left is.0 is.1

pub gathered_by_passing : (book cell : List Plane) (before : Option Contents) (done : List Solid) (solid : Solid) (gathering : Gathering) → IsGathered book cell before done gathering → LiesOutside solid cell → IsGathered book cell before (done ++ solid ∷ []) gathering
gathered_by_passing book cell before done solid gathering are outside =
    gathered_same book cell before done solid gathering gathering are refl refl (λ full. inr (inr outside))

-- ---- how many pieces

pub pieces_of-push : (qs : List Contender) (q : Contender) → pieces_of (qs ++ q ∷ []) ≡ pieces_of qs + length q.body.value.pieces.items
pieces_of-push [] q = omega arith
pieces_of-push (r ∷ qs) q = let more = pieces_of-push qs q in omega arith

pieces_of-filter : (test : Contender → Bool) (qs : List Contender) → pieces_of (filter test qs) ≤ pieces_of qs
pieces_of-filter test [] = omega arith
pieces_of-filter test (q ∷ qs) =
    let rest = pieces_of-filter test qs in
    by_cases (test q) (λ is. rw is (omega arith)) (λ is. rw is (omega arith))

pub count_by_keeping : (old new : Gathering) (contender : Contender) → Keeps old contender new → pieces_of new.contenders.items ≤ pieces_of old.contenders.items + length contender.body.value.pieces.items
count_by_keeping old new contender (passed reached same) = let e = ap (λ (g : Gathering). pieces_of g.contenders.items) same in omega arith
count_by_keeping old new contender (gained stronger same all) = let e = ap pieces_of all in let p = pieces_of-push old.contenders.items contender in omega arith

pub count_by_raising : (old new : Gathering) (contents : Contents) → Raises old contents new → pieces_of new.contenders.items ≤ pieces_of old.contenders.items
count_by_raising old new contents (known reached same) = let e = ap (λ (g : Gathering). pieces_of g.contenders.items) same in omega arith
count_by_raising old new contents (risen above rises left) = let e = ap pieces_of left in let p = pieces_of-filter (is_stronger_than contents) old.contenders.items in omega arith
