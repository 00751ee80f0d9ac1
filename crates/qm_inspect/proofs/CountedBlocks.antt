-- Numbered leaves, counted block by block.
use Rattle.std.proofs.Common.{◌≡◌, ◌≤◌, ◌<◌, ◌+◌, ◌-◌, ◌*◌, ℕ, zero, suc, List, [], ◌∷◌, ◌++◌, length, take, drop, get_or, slice_get, Some, refl, sym, ap, ap₂, ◌∙◌, ⊎_elim, arith}
use Rattle.std.specs.Prelude.{count_by}
use Rattle.std.proofs.lemmas.Bool.{cases_lt}
use Rattle.std.proofs.lemmas.List.{take-take, drop-take, length-append, length-take-le}
use Rattle.std.proofs.lemmas.List.Sums.{sum_by-take-drop, count_by-le-length}
use Rattle.std.proofs.lemmas.Option.{get_or_from_slice_get}
use Rattle.qm_lists.proofs.Places.{slice_get-push_old, slice_get-push_last}
use Rattle.qm_partition.specs.declared.node.Leaf.{Leaf}
use Rattle.qm_contacts.specs.NumberedLeaves.{is_numbered}
use Rattle.qm_inspect.specs.inner.BlockCounts.{AreBlockCounts}

-- ---- counts of blocks, one by one

first_block : (leaves : List Leaf) (k : ℕ) → k < 1 → slice_get (0 ∷ []) k ≡ Some (count_by is_numbered (take (64 * k) leaves))
first_block leaves zero below = refl
first_block leaves (suc k) below = absurd (omega (arith, below))

pub none_before : (leaves : List Leaf) → AreBlockCounts leaves (0 ∷ [])
none_before leaves = record { some = omega arith; each = first_block leaves }

pub one_block_more :
    (leaves : List Leaf) (counts : List ℕ) (k before : ℕ) → AreBlockCounts leaves counts → length counts ≡ k → before ≡ count_by is_numbered (take (64 * k) leaves) → AreBlockCounts leaves (counts ++ before ∷ [])
one_block_more leaves counts k before are long is =
    let longer = length-append counts (before ∷ []) in
    record {
      some = omega (arith, longer);
      each = λ j below. ⊎_elim
          (λ old. slice_get-push_old counts before _ j (are.each j old))
          (λ not_old.
          let last : j ≡ length counts = omega (arith, below, not_old, longer) in
          ap (slice_get (counts ++ before ∷ [])) last
          ∙ slice_get-push_last counts before
          ∙ ap Some (is ∙ ap (λ (n : ℕ). count_by is_numbered (take (64 * n) leaves)) (sym long ∙ sym last)))
          (cases_lt j (length counts));
    }

-- ---- before a place

-- the leaves before a place are those before an earlier one, and those between
counted_on :
    (leaves : List Leaf) (start end : ℕ) → start ≤ end →
    count_by is_numbered (take start leaves) + count_by is_numbered (take (end - start) (drop start leaves)) ≡ count_by is_numbered (take end leaves)
counted_on leaves start end before =
    ap₂ (λ (a b : List Leaf). count_by is_numbered a + count_by is_numbered b) (sym (take-take start end leaves before)) (sym between) ∙ sum_by-take-drop _ (take end leaves) start
  where
    between : drop start (take end leaves) ≡ take (end - start) (drop start leaves)
    between =
        ap (λ (n : ℕ). drop start (take n leaves)) {x = end} {y = start + (end - start)} (omega (arith, before)) ∙ drop-take start (end - start) leaves

pub counted_before :
    (leaves : List Leaf) (counts : List ℕ) (end block : ℕ) → AreBlockCounts leaves counts → block < length counts → 64 * block ≤ end →
    get_or counts block 0 + count_by is_numbered (take (end - 64 * block) (drop (64 * block) leaves)) ≡ count_by is_numbered (take end leaves)
counted_before leaves counts end block are within before =
    ap (λ (n : ℕ). n + count_by is_numbered (take (end - 64 * block) (drop (64 * block) leaves))) (get_or_from_slice_get counts block _ 0 (are.each block within))
    ∙ counted_on leaves (64 * block) end before

-- not more are numbered before a place than stand there
pub few_before : (leaves : List Leaf) (end : ℕ) → end ≤ length leaves → count_by is_numbered (take end leaves) ≤ end
few_before leaves end within =
    let most = count_by-le-length is_numbered (take end leaves) in
    let long = length-take-le end leaves within in
    omega (arith, most, long)
