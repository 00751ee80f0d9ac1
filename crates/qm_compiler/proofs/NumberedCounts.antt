-- There are as many numbered leaves as leaves that are numbered.
use Rattle.std.proofs.Common.{◌≡◌, ℕ, suc, ◌+◌, List, [], ◌∷◌, length, refl, sym, ap, ◌∙◌}
use Rattle.std.specs.Prelude.{count_by}
use Rattle.qm_lists.proofs.Cases.{by_cases}
use Rattle.qm_partition.specs.declared.node.Leaf.{Leaf}
use Rattle.qm_contacts.specs.NumberedLeaves.{is_numbered, numbered_from}
use Rattle.qm_contacts.proofs.Numbers.{count_yes, count_no, from_yes, from_no}

pub as_many_numbered : (all : List Leaf) (k : ℕ) → length (numbered_from all k) ≡ count_by is_numbered all
as_many_numbered [] k = refl
as_many_numbered (found ∷ all) k =
    by_cases (is_numbered found)
    (λ test. ap length (from_yes found all k test) ∙ ap suc (as_many_numbered all (k + 1)) ∙ sym (count_yes found all test))
    (λ test. ap length (from_no found all k test) ∙ as_many_numbered all (k + 1) ∙ sym (count_no found all test))
