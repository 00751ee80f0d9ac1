-- The command line of `compile`, as the parser of words has it.
use Rattle.std.proofs.Common.{◌≡◌, true, refl, List}
use Rattle.clap.specs.Walk.{Text}
use Rattle.clap.specs.Simple.{Shape, built, matches_of}
use Rattle.clap.specs.Faults.{fault_of, is_simple_and_free}
use Rattle.qm_words.specs.inner.CommandLines.{compile_app}
use Rattle.qm_words.proofs.Walks.{fault_from, leaf_fault_from, rows_from, start}

pub compile_is_free : is_simple_and_free compile_app ≡ true
compile_is_free = refl

abbrev pub compile_shape : Shape
compile_shape = (built compile_app).top

pub compile_fault : (words : List Text) → fault_of compile_app words ≡ fault_from compile_shape start words
compile_fault words = leaf_fault_from (built compile_app) words refl

pub compile_rows : (words : List Text) → matches_of compile_app words ≡ rows_from compile_shape start words
unfolding rows_from
compile_rows words = refl
