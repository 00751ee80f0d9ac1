use Rattle.std.proofs.Common.{◌≡◌, ⊎_elim, ℕ, ◌+◌, ◌*◌, ◌/◌, ◌%◌, ◌^◌, ◌<◌, true, false, Bool, List, length, get_or, set, bit_or, sym, ap, ◌∙◌, arith}
use Rattle.std.proofs.lemmas.Bool.{cases_eq}
use Rattle.std.proofs.lemmas.List.{get_or-set_same, get_or-set_other}
use Rattle.qm_lists.specs.Word.{has_bit, IsWord}
use Rattle.qm_lists.proofs.Bits.{has_bit-set_same, has_bit-set_other}
use Rattle.qm_flow.proofs.masks.word_with.Goals as goal

-- the word in which the place lies
with_place : (row : List Bool) (place k word : ℕ) → place < length row → k ≡ place / 64 → IsWord row k word → IsWord (set row place true) k (bit_or word (1 * 2 ^ (place % 64) % 2 ^ 64))
with_place row place k word within here is_word bit inside = ⊎_elim
    (λ same.
    let at : place ≡ 64 * k + bit = omega (arith, here, same) in
    ap (has_bit (bit_or word (1 * 2 ^ (place % 64) % 2 ^ 64))) same ∙ has_bit-set_same word (place % 64) (omega arith) ∙ sym (get_or-set_same row place true false within) ∙ ap (λ (n : ℕ). get_or (set row place true) n false) at)
    (λ other. has_bit-set_other word (place % 64) bit (omega arith) other ∙ is_word bit inside ∙ sym (get_or-set_other row place (64 * k + bit) true false (λ at. other (omega (arith, at, here, inside)))))
    (cases_eq bit (place % 64))

-- and another one
without_place : (row : List Bool) (place k word : ℕ) → (k ≡ place / 64 → ⊥) → IsWord row k word → IsWord (set row place true) k word
without_place row place k word other is_word bit inside =
    is_word bit inside ∙ sym (get_or-set_other row place (64 * k + bit) true false (λ at. other (omega (arith, at, inside))))

pub returns-then-k-place : goal.returns-then-k-place
returns-then-k-place c = with_place c.args.row.now c.args.place c.args.k c.word-word.result c.requires.place c.if-k-place.true c.word-word.ensures

pub returns-else-k-place : goal.returns-else-k-place
returns-else-k-place c = without_place c.args.row.now c.args.place c.args.k c.word-word.result c.if-k-place.false c.word-word.ensures
