use Rattle.std.proofs.Common.{◌≡◌, ◌++◌, ◌*◌, string_bytes}
use Rattle.qm_inspect.specs.inner.RunWords.{run_words}
use Rattle.qm_inspect.proofs.row_places.put_word.Given as goal

-- the places of the first bits are gone through
abbrev pub invariant-loop-bit : goal.invariant-loop-bit
invariant-loop-bit l = string_bytes l.text ≡ string_bytes l.fn.text ++ run_words l.row (64 * l.k) l.bit
