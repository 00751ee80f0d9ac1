use Rattle.std.proofs.Common.{◌≡◌, ℕ, ◌%◌, List, [], ◌∷◌, ◌++◌, length, map, get_or, ap, sym, ◌∙◌, append_assoc, arith}
use Rattle.std.specs.Int.{div_ceil}
use Rattle.std.specs.List.{range_with_len}
use Rattle.std.proofs.lemmas.List.FromFn.{map-range_with_len_more}
use Rattle.qm_formats.specs.RowBits.{row_byte, packed}
use Rattle.qm_file.proofs.RowWords.{word_byte}
use Rattle.qm_file.proofs.row_bytes.append_bits.Goals as goal

pub loop-k-preserved : goal.loop-k-preserved
loop-k-preserved c =
    let row = c.args.row.now in
    let k = c.loop-k.k in
    let old = c.args.bytes.now.items in
    let done = map (row_byte row) (range_with_len 0 k) in
    let byte = ap (λ (bytes : List ℕ). get_or bytes (k % 8) 0) c.to_le_bytes.ensures ∙ word_byte row k c.word.result c.word.ensures in
    c.in_ok-push.ensures.items
    ∙ ap (λ (bytes : List ℕ). bytes ++ get_or c.to_le_bytes.result (k % 8) 0 ∷ []) c.loop-k.invariant
    ∙ ap (λ (b : ℕ). (old ++ done) ++ b ∷ []) byte
    ∙ append_assoc old done (row_byte row k ∷ [])
    ∙ ap (λ (bytes : List ℕ). old ++ bytes) (sym (map-range_with_len_more (row_byte row) 0 k k (omega arith)))

pub returns : goal.returns
unfolding packed
returns c =
    let row = c.args.row.now in
    let all : c.loop-k.k ≡ div_ceil (length row) 8 = omega (arith, c.loop-k-test.false, c.loop-k.auto.k-end, c.div_ceil-k-end.ensures, ap (λ (n : ℕ). div_ceil n 8) c.len.ensures) in
    c.loop-k.invariant ∙ ap (λ (n : ℕ). c.args.bytes.now.items ++ map (row_byte row) (range_with_len 0 n)) all
