-- The line ends of bytes that are counted run by run, and byte by byte.
use Rattle.std.proofs.Common.{◌≡◌, ℕ, ◌+◌, ◌-◌, ◌<◌, ◌≤◌, List, [], ◌∷◌, length, get_or, take, drop, take-add, ap, ◌∙◌, arith}
use Rattle.std.proofs.lemmas.List.{take_more}
use Rattle.qm_tokens.specs.Lexeme.{line_ends}
use Rattle.qm_tokens.proofs.PieceRuns.{line_ends-append}

-- those of a run are added to those before it
pub line_ends_further : (bytes : List ℕ) (from to : ℕ) → from ≤ to → line_ends (take to bytes) ≡ line_ends (take from bytes) + line_ends (take (to - from) (drop from bytes))
line_ends_further bytes from to further =
    let whole : to ≡ from + (to - from) = omega (arith, further) in
    ap (λ (n : ℕ). line_ends (take n bytes)) whole
    ∙ ap line_ends (take-add from (to - from) bytes)
    ∙ line_ends-append (take from bytes) (take (to - from) (drop from bytes))

-- and those of one more byte
pub line_ends_more : (bytes : List ℕ) (at : ℕ) → at < length bytes → line_ends (take (at + 1) bytes) ≡ line_ends (take at bytes) + line_ends (get_or bytes at 0 ∷ [])
line_ends_more bytes at inside =
    ap line_ends (take_more bytes at 0 inside) ∙ line_ends-append (take at bytes) (get_or bytes at 0 ∷ [])
