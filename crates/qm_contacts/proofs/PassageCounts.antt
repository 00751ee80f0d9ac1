-- Each passage has two portals, one each way.
use Rattle.std.proofs.Common.{◌≡◌, ℕ, ◌+◌, ◌*◌, ◌/◌, Bool, List, [], ◌∷◌, ◌++◌, length, filter, cond, refl, ap, ◌∙◌, arith}
use Rattle.std.specs.Prelude.{count_by}
use Rattle.std.proofs.lemmas.List.Concat.{flat_map-cons}
use Rattle.std.proofs.lemmas.List.Sums.{sum_by-cons}
use Rattle.qm_lists.proofs.Cases.{by_cases}
use Rattle.qm_partition.specs.Tree.{Tree}
use Rattle.qm_contacts.specs.Contacts.{Contacts, AreContacts}
use Rattle.qm_contacts.specs.Portals.{Portal, is_passage, both_ways, portals_of, HasPassages}
use Rattle.qm_contacts.specs.Touching.{Touching}

module _ (tree : Tree) where
  two_each : (touchings : List Touching) → length (portals_of tree touchings) ≡ 2 * count_by (is_passage tree) touchings
  two_each [] = refl
  two_each (found ∷ rest) = by_cases (is_passage tree found)
      (λ test.
      let more : portals_of tree (found ∷ rest) ≡ both_ways tree found ++ portals_of tree rest = rw test (flat_map-cons (both_ways tree) found (filter (is_passage tree) rest)) in
      let one = counted ∙ ap (λ (b : Bool). cond b 1 0 + count_by (is_passage tree) rest) test in
      ap length more ∙ omega (arith, two_each rest, one))
      (λ test.
      let same : portals_of tree (found ∷ rest) ≡ portals_of tree rest = rw test refl in
      let none_more = counted ∙ ap (λ (b : Bool). cond b 1 0 + count_by (is_passage tree) rest) test in
      ap length same ∙ omega (arith, two_each rest, none_more))
    where
      counted : count_by (is_passage tree) (found ∷ rest) ≡ cond (is_passage tree found) 1 0 + count_by (is_passage tree) rest
      counted = sum_by-cons (λ t. cond (is_passage tree t) 1 0) found rest

  -- so half of them are the passages
  pub half_are_passages : (contacts : Contacts) (portals : List Portal) (count : ℕ) → AreContacts tree contacts → portals ≡ portals_of tree contacts.touchings → count ≡ length portals / 2 → HasPassages tree count
  half_are_passages contacts portals count are is half = record {
    touchings = contacts.touchings;
    are_touchings = are.touching;
    counted = let two = two_each contacts.touchings in let long = ap length is in omega (arith, two, long, half);
  }
