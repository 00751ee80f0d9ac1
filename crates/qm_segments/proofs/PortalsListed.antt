-- The list of portals: it has both of each passage, and from leaf to leaf only one.
use Rattle.std.proofs.Common.{◌≡◌, ◌≢◌, ℕ, ◌&&◌, eqb, Bool, true, false, not, List, [], ◌∷◌, Contains, filter, flat_map, Some, slice_get, cond, refl, sym, ap, ◌∙◌, subst, arith, ◌⊎◌, inl, inr, ⊎_elim}
use Rattle.std.proofs.lemmas.Bool.{eq-eqb}
use Rattle.std.proofs.lemmas.Option.{get_or_from_slice_get}
use Rattle.std.proofs.lemmas.List.Concat.{flat_map-cons}
use Rattle.std.proofs.lemmas.List.Elements.{All-contains, Contains-append_left, Contains-append_right, Contains-append_cases}
use Rattle.qm_lists.proofs.Cases.{by_cases}
use Rattle.qm_lists.proofs.EachPair.{EachPair}
use Rattle.qm_lists.proofs.Elements.{Contains-first, Contains-later, Contains-cons_cases}
use Rattle.qm_contents.specs.declared.contents.Contents.{Contents}
use Rattle.qm_contents.specs.declared.contents.Contents.TheVariants.{Solid}
use Rattle.qm_contents.proofs.SixKinds.{each_but_solid}
use Rattle.qm_contents.specs.Precedence.{strength}
use Rattle.qm_partition.specs.declared.node.Leaf.{Leaf}
use Rattle.qm_partition.specs.Tree.{Tree}
use Rattle.qm_partition.specs.Counting.{leaves_of}
use Rattle.qm_contacts.specs.Meeting.{meetings}
use Rattle.qm_contacts.specs.NumberedLeaves.{is_solid, numbered_leaves}
use Rattle.qm_contacts.specs.Touching.{Touching, AreTouchings}
use Rattle.qm_contacts.specs.Portals.{Portal, leaf_record, leaf_number, is_passage, portal, both_ways, portals_of}
use Rattle.qm_contacts.specs.PortalChain.{IsPortalBetween}
use Rattle.qm_contacts.proofs.Touchings.{ComesBefore, touchings_ascend, pair_order}
use Rattle.qm_contacts.proofs.Passages.{passage_is_portal}
use Rattle.qm_contacts.proofs.FilledLeaves.{portal_back}
use Rattle.qm_contacts.proofs.Numbers.{leaf_at_number}

-- ---- lists

Contains-flat_map : {X A : Type 0} (f : X → List A) (xs : List X) (x : X) (a : A) → Contains xs x → Contains (f x) a → Contains (flat_map f xs) a
Contains-flat_map f [] x a there inside = absurd (let within = there.1 in omega arith)
Contains-flat_map f (first ∷ xs) x a there inside = subst (λ all. Contains all a) (sym (flat_map-cons f first xs)) (⊎_elim
    (λ same. Contains-append_left (f first) (flat_map f xs) a (subst (λ y. Contains (f y) a) (sym same) inside))
    (λ later. Contains-append_right (f first) (flat_map f xs) a (Contains-flat_map f xs x a later inside))
    (Contains-cons_cases first x xs there))

Contains-flat_map_from : {X A : Type 0} (f : X → List A) (xs : List X) (a : A) → Contains (flat_map f xs) a → (x : X) × Contains xs x × Contains (f x) a
Contains-flat_map_from f [] a there = absurd (let within = there.1 in omega arith)
Contains-flat_map_from f (first ∷ xs) a there = ⊎_elim
    (λ here. (first, Contains-first first xs, here))
    (λ later. let found = Contains-flat_map_from f xs a later in (found.0, Contains-later first found.0 xs found.1, found.2))
    (Contains-append_cases (f first) (flat_map f xs) a (subst (λ all. Contains all a) (flat_map-cons f first xs) there))

Contains-filter : {X : Type 0} (test : X → Bool) (xs : List X) (x : X) → Contains xs x → test x ≡ true → Contains (filter test xs) x
Contains-filter test [] x there passes = absurd (let within = there.1 in omega arith)
Contains-filter test (first ∷ xs) x there passes = by_cases (test first)
    (λ yes. rw yes (⊎_elim
    (λ same. subst (λ y. Contains (first ∷ filter test xs) y) same (Contains-first first (filter test xs)))
    (λ later. Contains-later first x (filter test xs) (Contains-filter test xs x later passes))
    (Contains-cons_cases first x xs there)))
    (λ no. rw no (⊎_elim
    (λ same. absurd (let e : true ≡ false = sym passes ∙ ap test (sym same) ∙ no in cc))
    (λ later. Contains-filter test xs x later passes)
    (Contains-cons_cases first x xs there)))

Contains-filter_from : {X : Type 0} (test : X → Bool) (xs : List X) (x : X) → Contains (filter test xs) x → Contains xs x × (test x ≡ true)
Contains-filter_from test [] x there = absurd (let within = there.1 in omega arith)
Contains-filter_from test (first ∷ xs) x there = by_cases (test first)
    (λ yes. ⊎_elim
    (λ same. (subst (λ y. Contains (first ∷ xs) y) same (Contains-first first xs), ap test (sym same) ∙ yes))
    (λ later. let found = Contains-filter_from test xs x later in (Contains-later first x xs found.0, found.1))
    (Contains-cons_cases first x (filter test xs) (subst (λ b. Contains (cond b (first ∷ filter test xs) (filter test xs)) x) yes there)))
    (λ no. let found = Contains-filter_from test xs x (subst (λ b. Contains (cond b (first ∷ filter test xs) (filter test xs)) x) no there) in (Contains-later first x xs found.0, found.1))

-- two elements are the same, or one stands first
pairs_cases : {X : Type 0} (R : X → X → Type 0) (xs : List X) (x y : X) → EachPair R xs → Contains xs x → Contains xs y → (x ≡ y) ⊎ (R x y ⊎ R y x)
pairs_cases R [] x y each x_there y_there = absurd (let within = x_there.1 in omega arith)
pairs_cases R (first ∷ xs) x y each x_there y_there = ⊎_elim
    (λ x_first. ⊎_elim
    (λ y_first. inl (sym x_first ∙ y_first))
    (λ y_later. inr (inl (subst (λ z. R z y) x_first (All-contains (R first) xs y each.0 y_later))))
    (Contains-cons_cases first y xs y_there))
    (λ x_later. ⊎_elim
    (λ y_first. inr (inr (subst (λ z. R z x) y_first (All-contains (R first) xs x each.0 x_later))))
    (λ y_later. pairs_cases R xs x y each.1 x_later y_later)
    (Contains-cons_cases first y xs y_there))
    (Contains-cons_cases first x xs x_there)

-- ---- leaves of one contents

pub numbered_from_contents : (contents : Contents) → contents ≢ Solid → not (is_solid contents) ≡ true
numbered_from_contents = each_but_solid (λ contents. not (is_solid contents) ≡ true) refl refl refl refl refl

-- the leaf of number k is there, with these contents
pub record HasLeaf (tree : Tree) (contents : Contents) (k : ℕ) : Type 0 where
  pub found : Leaf
  pub leaf_is : slice_get (leaves_of tree.shape) k ≡ Some found
  pub contents_are : found.contents ≡ contents

pub number_of_leaf : (tree : Tree) (contents : Contents) (k : ℕ) → contents ≢ Solid → HasLeaf tree contents k → slice_get (numbered_leaves tree) (leaf_number tree k) ≡ Some k
number_of_leaf tree contents k not_solid has =
    leaf_at_number tree k has.found has.leaf_is (ap (λ (c : Contents). not (is_solid c)) has.contents_are ∙ numbered_from_contents contents not_solid)

record_contents : (tree : Tree) (contents : Contents) (k : ℕ) → HasLeaf tree contents k → (leaf_record tree k).contents ≡ contents
record_contents tree contents k has =
    ap (λ (found : Leaf). found.contents) (get_or_from_slice_get (leaves_of tree.shape) k has.found (record { contents = Solid; filled = false }) has.leaf_is) ∙ has.contents_are

-- two leaves of one contents that touch are a passage
pub passage_from_contents : (tree : Tree) (contents : Contents) (found : Touching) → contents ≢ Solid → HasLeaf tree contents found.front → HasLeaf tree contents found.back → is_passage tree found ≡ true
passage_from_contents tree contents found not_solid front back =
    let f = record_contents tree contents found.front front in
    let b = record_contents tree contents found.back back in
    (λ i. not (is_solid (f i)) && eqb (strength (f i)) (strength (b i)))
    ∙ (λ i. numbered_from_contents contents not_solid i && eqb (strength contents) (strength contents))
    ∙ eq-eqb (strength contents) (strength contents) refl

-- ---- the list of portals

abbrev pub to_back : Tree → Touching → Portal
to_back tree found = portal tree found false found.front found.back

abbrev pub to_front : Tree → Touching → Portal
to_front tree found = portal tree found true found.back found.front

module _ (tree : Tree) (touchings : List Touching) where
  portals_there : (found : Touching) (q : Portal) → Contains touchings found → is_passage tree found ≡ true → Contains (both_ways tree found) q → Contains (portals_of tree touchings) q
  portals_there found q listed passage there = Contains-flat_map (both_ways tree) (filter (is_passage tree) touchings) found q (Contains-filter (is_passage tree) touchings found listed passage) there

  pub to_back_listed : (found : Touching) → Contains touchings found → is_passage tree found ≡ true → Contains (portals_of tree touchings) (to_back tree found)
  to_back_listed found listed passage = portals_there found (to_back tree found) listed passage (Contains-first (to_back tree found) (to_front tree found ∷ []))

  pub to_front_listed : (found : Touching) → Contains touchings found → is_passage tree found ≡ true → Contains (portals_of tree touchings) (to_front tree found)
  to_front_listed found listed passage = portals_there found (to_front tree found) listed passage (Contains-later (to_back tree found) (to_front tree found) (to_front tree found ∷ []) (Contains-first (to_front tree found) []))

  -- the passage of a portal, with its direction
  pub record IsOfPassage (q : Portal) : Type 0 where
    pub found : Touching
    pub listed : Contains touchings found
    pub passage : is_passage tree found ≡ true
    pub way : (to_back tree found ≡ q) ⊎ (to_front tree found ≡ q)

  pub passage_of_portal : (q : Portal) → Contains (portals_of tree touchings) q → IsOfPassage q
  passage_of_portal q there =
      let found = Contains-flat_map_from (both_ways tree) (filter (is_passage tree) touchings) q there in
      let kept = Contains-filter_from (is_passage tree) touchings found.0 found.1 in
      record {
        found = found.0;
        listed = kept.0;
        passage = kept.1;
        way = ⊎_elim (λ same. inl same)
            (λ more. ⊎_elim (λ same. inr same) (λ none. absurd (let within = none.1 in omega arith)) (Contains-cons_cases (to_front tree found.0) q [] more))
            (Contains-cons_cases (to_back tree found.0) q (to_front tree found.0 ∷ []) found.2);
      }

  module _ (are : AreTouchings tree.planes (meetings tree) touchings) where
    same_leaf : (a b c d : ℕ) → IsPortalBetween tree a b → IsPortalBetween tree c d → leaf_number tree a ≡ leaf_number tree c → a ≡ c
    same_leaf a b c d one other same =
        let e = leaf_at_number tree a one.from one.from_is one.numbered in
        let f = leaf_at_number tree c other.from other.from_is other.numbered in
        let g : Some a ≡ Some c = sym e ∙ ap (slice_get (numbered_leaves tree)) same ∙ f in
        cc

    same_touching : (s t : Touching) → Contains touchings s → Contains touchings t → s.front ≡ t.front → s.back ≡ t.back → s ≡ t
    same_touching s t s_there t_there front back = ⊎_elim
        (λ same. same)
        (λ order. ⊎_elim (λ before. absurd (before.apart front back)) (λ after. absurd (after.apart (sym front) (sym back))) order)
        (pairs_cases ComesBefore touchings s t (touchings_ascend tree touchings are) s_there t_there)

    -- from one leaf to another leads one portal
    pub one_portal : (p q : Portal) → Contains (portals_of tree touchings) p → Contains (portals_of tree touchings) q → p.from ≡ q.from → p.to ≡ q.to → p ≡ q
    one_portal p q p_there q_there from to =
        let s = passage_of_portal p p_there in
        let t = passage_of_portal q q_there in
        let s_through = passage_is_portal tree touchings are s.found s.listed s.passage in
        let t_through = passage_is_portal tree touchings are t.found t.listed t.passage in
        let s_back = portal_back tree s.found.front s.found.back s_through in
        let t_back = portal_back tree t.found.front t.found.back t_through in
        ⊎_elim
        (λ p_is. ⊎_elim
        (λ q_is.
        let front = same_leaf s.found.front s.found.back t.found.front t.found.back s_through t_through (ap (λ (r : Portal). r.from) p_is ∙ from ∙ sym (ap (λ (r : Portal). r.from) q_is)) in
        let back = same_leaf s.found.back s.found.front t.found.back t.found.front s_back t_back (ap (λ (r : Portal). r.to) p_is ∙ to ∙ sym (ap (λ (r : Portal). r.to) q_is)) in
        sym p_is ∙ ap (to_back tree) (same_touching s.found t.found s.listed t.listed front back) ∙ q_is)
        (λ q_is.
        let front = same_leaf s.found.front s.found.back t.found.back t.found.front s_through t_back (ap (λ (r : Portal). r.from) p_is ∙ from ∙ sym (ap (λ (r : Portal). r.from) q_is)) in
        let back = same_leaf s.found.back s.found.front t.found.front t.found.back s_back t_through (ap (λ (r : Portal). r.to) p_is ∙ to ∙ sym (ap (λ (r : Portal). r.to) q_is)) in
        absurd (omega (arith, front, back, pair_order tree touchings s.found are s.listed, pair_order tree touchings t.found are t.listed)))
        t.way)
        (λ p_is. ⊎_elim
        (λ q_is.
        let back = same_leaf s.found.back s.found.front t.found.front t.found.back s_back t_through (ap (λ (r : Portal). r.from) p_is ∙ from ∙ sym (ap (λ (r : Portal). r.from) q_is)) in
        let front = same_leaf s.found.front s.found.back t.found.back t.found.front s_through t_back (ap (λ (r : Portal). r.to) p_is ∙ to ∙ sym (ap (λ (r : Portal). r.to) q_is)) in
        absurd (omega (arith, front, back, pair_order tree touchings s.found are s.listed, pair_order tree touchings t.found are t.listed)))
        (λ q_is.
        let back = same_leaf s.found.back s.found.front t.found.back t.found.front s_back t_back (ap (λ (r : Portal). r.from) p_is ∙ from ∙ sym (ap (λ (r : Portal). r.from) q_is)) in
        let front = same_leaf s.found.front s.found.back t.found.front t.found.back s_through t_through (ap (λ (r : Portal). r.to) p_is ∙ to ∙ sym (ap (λ (r : Portal). r.to) q_is)) in
        sym p_is ∙ ap (to_front tree) (same_touching s.found t.found s.listed t.listed front back) ∙ q_is)
        t.way)
        s.way
