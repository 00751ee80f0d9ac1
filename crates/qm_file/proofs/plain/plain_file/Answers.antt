use Rattle.std.proofs.Common.{◌≡◌, ℕ, List, Option, Result, Ok, Err, sym, ap, ◌∙◌, arith}
use Rattle.std.specs.Prelude.{IfOk, MatchOption}
use Rattle.qm_formats.specs.Fields.{AreBytes}
use Rattle.qm_formats.specs.TreeFile.{TreeFile}
use Rattle.qm_formats.specs.FileLayout.{read_file}
use Rattle.qm_plain.specs.PlainFile.{ArePlainBytes, plain_of, read_plain}
use Rattle.qm_plain.proofs.PlainFiles.{plain_means}
use Rattle.qm_file.proofs.plain.plain_file.Goals as goal

-- what is answered, unless memory ran out
means_if_ok : {E : Type 0} (bound : ℕ) (bytes : List ℕ) (answer : Result (Option TreeFile) E) → AreBytes bytes →
    IfOk answer (λ found. found ≡ read_plain bound bytes) → IfOk answer (λ found. MatchOption found ((file : TreeFile) → ArePlainBytes bound bytes file → ⊥) (ArePlainBytes bound bytes))
means_if_ok bound bytes (Ok found) are is = plain_means bound bytes found are is
means_if_ok bound bytes (Err fault) are is = tt

pub returns-in-Ok-clause-exact : goal.returns-in-Ok-clause-exact
unfolding read_plain
returns-in-Ok-clause-exact c = c.kept_if_plain.ensures ∙ sym (ap (plain_of c.args.bound) c.in-Ok.ensures.exact)

pub returns-in-Ok-clause-plain : goal.returns-in-Ok-clause-plain
returns-in-Ok-clause-plain c = plain_means c.args.bound c.args.bytes.now _ (λ i. omega (arith, c.type_inv.bytes i)) (returns-in-Ok-clause-exact c)

pub returns-in-Err-clause-exact : goal.returns-in-Err-clause-exact
unfolding read_plain
returns-in-Err-clause-exact c = c.not_read.ensures c.args.bound (read_file c.args.bytes.now) c.in-Err.ensures.exact

pub returns-in-Err-clause-plain : goal.returns-in-Err-clause-plain
returns-in-Err-clause-plain c = means_if_ok c.args.bound c.args.bytes.now c.not_read.result (λ i. omega (arith, c.type_inv.bytes i)) (returns-in-Err-clause-exact c)
