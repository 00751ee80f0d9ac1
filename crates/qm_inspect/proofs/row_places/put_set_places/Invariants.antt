use Rattle.std.proofs.Common.{◌≡◌, ◌++◌, ◌*◌, string_bytes}
use Rattle.qm_inspect.specs.inner.RunWords.{run_words}
use Rattle.qm_inspect.proofs.row_places.put_set_places.Given as goal

-- the places of the first words are gone through
abbrev pub invariant-loop-k : goal.invariant-loop-k
invariant-loop-k l = string_bytes l.text ≡ string_bytes l.fn.text ++ run_words l.row 0 (64 * l.k)
