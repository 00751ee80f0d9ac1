use Rattle.std.proofs.Common.{◌≡◌, ℕ, ◌+◌, ◌*◌, ◌^◌, ◌<◌, true, false, not, Bool, List, w64, sym, ap, ◌∙◌, arith}
use Rattle.std.specs.Int.{bit_not}
use Rattle.qm_lists.specs.Word.{has_bit, IsWord}
use Rattle.qm_lists.specs.WorkList.{IsIn}
use Rattle.qm_lists.proofs.Bits.{has_bit-not}
use Rattle.qm_chains.proofs.Narrowing.{narrowed_none, narrowed_more, narrowed_all}
use Rattle.qm_chains.proofs.TriedPortals.{clear_if_not_in}
use Rattle.qm_flow.proofs.masks.take_out.Goals as goal

-- a bit of the turned word is set where the row lacks the leaf
lacks : (row : List Bool) (k word bit : ℕ) → IsWord row k word → word < 2 ^ 64 → bit < 64 → has_bit (bit_not w64 word) bit ≡ true → IsIn row (64 * k + bit) → ⊥
lacks row k word bit is_word small within is there =
    let never : true ≡ false = sym is ∙ has_bit-not word bit small within ∙ ap not (is_word bit within ∙ there) in
    cc

stays : (row : List Bool) (k word bit : ℕ) → IsWord row k word → word < 2 ^ 64 → bit < 64 → (IsIn row (64 * k + bit) → ⊥) → has_bit (bit_not w64 word) bit ≡ true
stays row k word bit is_word small within never = has_bit-not word bit small within ∙ ap not (is_word bit within ∙ clear_if_not_in row (64 * k + bit) never)

pub loop-k-init : goal.loop-k-init
loop-k-init c = narrowed_none (λ n. IsIn c.args.other.now n → ⊥) (λ n. IsIn c.args.other.now n → ⊥) c.args.row.now

pub loop-k-preserved : goal.loop-k-preserved
loop-k-preserved c =
    narrowed_more (λ n. IsIn c.args.other.now n → ⊥) (λ n. IsIn c.args.other.now n → ⊥) c.loop-k.k (bit_not w64 c.word-word.result) c.args.row.now c.loop-k.row c.and_word.new.self c.loop-k.invariant c.and_word.ensures
    (λ bit within is. lacks c.args.other.now c.loop-k.k c.word-word.result bit c.word-word.ensures c.word-word.type_inv within is)
    (λ bit within never. stays c.args.other.now c.loop-k.k c.word-word.result bit c.word-word.ensures c.word-word.type_inv within never)

pub returns : goal.returns
returns c =
    let end = c.loop-k-test.false in
    let words = c.div_ceil-k-end.ensures in
    let long = c.len.ensures in
    narrowed_all (λ n. IsIn c.args.other.now n → ⊥) (λ n. IsIn c.args.other.now n → ⊥) c.loop-k.k c.args.row.now c.loop-k.row (omega (arith, end, words, long)) c.loop-k.invariant
