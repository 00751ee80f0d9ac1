-- The lists of workers.
use Rattle.std.proofs.Common.{◌≡◌, refl, ℕ, ◌+◌, ◌<◌, ◌≤◌, List, [], ◌∷◌, ◌++◌, length, sym, subst, arith}
use Rattle.std.specs.Prelude.{All, Result, Ok, Err, IfOk}
use Rattle.std.proofs.lemmas.List.{length-append}
use Rattle.std.proofs.lemmas.List.Elements.{All-nil, All-cons, All-push, All-append, All-weaker}
use Rattle.qm_contacts.specs.World.{World}
use Rattle.qm_chains.proofs.TurnListLaws.{none_ascends, ascends_more}
use Rattle.qm_shared_rows.specs.Findings.{Findings, found_by_both}
use Rattle.qm_board.specs.inner.WithinCeilings.{more_narrows}
use Rattle.qm_board.proofs.CeilingLaws.{more_by_first, more_by_second}
use Rattle.qm_crew.specs.inner.TurnsTaken.{IsNarrower, HadTurn, LieAlong, IsWorkList, IsWorkBelow, AreWorkLists}
use Rattle.qm_crew.proofs.TakenTurns.{along_narrower, along_turn}

module _ (world : World) where
  pub list_narrower : (old new : Findings) → IsNarrower world old new → (list : List ℕ) → IsWorkList world old list → IsWorkList world new list
  list_narrower old new narrower list is = record {
    along = along_narrower world list old new is.along narrower;
    in_range = is.in_range;
    ascends = is.ascends;
  }

  pub lists_narrower : (old new : Findings) → IsNarrower world old new → (lists : List (List ℕ)) → All (IsWorkList world old) lists → All (IsWorkList world new) lists
  lists_narrower old new narrower lists each = All-weaker (IsWorkList world old) (IsWorkList world new) (list_narrower old new narrower) lists each

  -- ---- one worker's list

  pub no_work : (pass : Findings) → LieAlong world pass [] → IsWorkBelow world pass 0 []
  no_work pass along = record {
    is_list = record { along = along; in_range = All-nil (λ (number : ℕ). number < length world.portals); ascends = none_ascends };
    below = All-nil (λ (number : ℕ). number < 0);
  }

  pub work_narrower : (next : ℕ) (list : List ℕ) (old new : Findings) → IsWorkBelow world old next list → IsNarrower world old new → IsWorkBelow world new next list
  work_narrower next list old new work narrower = record { is_list = list_narrower old new narrower list work.is_list; below = work.below }

  pub work_more : (next portal : ℕ) (list : List ℕ) (old new : Findings) → IsWorkBelow world old next list → HadTurn world portal old new → next ≤ portal → portal < length world.portals →
      IsWorkBelow world new (portal + 1) (list ++ portal ∷ [])
  work_more next portal list old new work turn above inside = record {
    is_list = record {
      along = along_turn world list portal old new work.is_list.along turn;
      in_range = All-push (λ number. number < length world.portals) list portal work.is_list.in_range inside;
      ascends = ascends_more list portal work.is_list.ascends (All-weaker (λ number. number < next) (λ number. number < portal) (λ number less. omega (arith, less, above)) list work.below);
    };
    below = All-push (λ number. number < portal + 1) list portal
        (All-weaker (λ number. number < next) (λ number. number < portal + 1) (λ number less. omega (arith, less, above)) list work.below) (omega arith);
  }

  -- ---- the lists of several

  pub one_list : (pass : Findings) (list : List ℕ) → IsWorkList world pass list → AreWorkLists world pass 1 (list ∷ [])
  one_list pass list is = record { one_each = refl; each = All-cons (IsWorkList world pass) list [] is (All-nil (IsWorkList world pass)) }

  pub lists_joined : (pass other both : Findings) (low high : ℕ) (lists more : List (List ℕ)) → AreWorkLists world pass low lists → AreWorkLists world other high more →
      IsNarrower world pass both → IsNarrower world other both → AreWorkLists world both (low + high) (lists ++ more)
  lists_joined pass other both low high lists more are also first second =
      let long = length-append lists more in
      let one = are.one_each in
      let two = also.one_each in
      record {
        one_each = omega (arith, long, one, two);
        each = All-append (IsWorkList world both) lists more (lists_narrower pass both first lists are.each) (lists_narrower other both second more also.each);
      }

  pub lists_of_one : (pass : Findings) (count : ℕ) (list first : List ℕ) (others : List (List ℕ)) → IsWorkList world pass list → count ≡ 1 → first ≡ list → others ≡ [] → AreWorkLists world pass count (first ∷ others)
  lists_of_one pass count list first others is one first_is others_is =
      subst (λ (n : ℕ). AreWorkLists world pass n (first ∷ others)) (sym one)
      (subst (λ (l : List ℕ). AreWorkLists world pass 1 (l ∷ others)) (sym first_is)
      (subst (λ (ls : List (List ℕ)). AreWorkLists world pass 1 (list ∷ ls)) (sym others_is) (one_list pass list is)))

  pub lists_united : (pass other both : Findings) (low high : ℕ) (lists more all : List (List ℕ)) → AreWorkLists world pass low lists → AreWorkLists world other high more →
      both ≡ found_by_both pass other → all ≡ lists ++ more → AreWorkLists world both (low + high) all
  lists_united pass other both low high lists more all are also found all_is =
      subst (AreWorkLists world both (low + high)) (sym all_is)
      (lists_joined pass other both low high lists more are also
      (subst (IsNarrower world pass) (sym found) (more_narrows world pass (found_by_both pass other) (more_by_first pass other)))
      (subst (IsNarrower world other) (sym found) (more_narrows world other (found_by_both pass other) (more_by_second pass other))))

-- what two promises of a result give together
pub ok_of_both : {T E : Type 0} (P Q R : T → Type 0) (r : Result T E) → ((x : T) → P x → Q x → R x) → IfOk r P → IfOk r Q → IfOk r R
ok_of_both P Q R (Ok x) f p q = f x p q
ok_of_both P Q R (Err e) f p q = p
