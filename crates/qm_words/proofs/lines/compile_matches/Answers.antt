use Rattle.std.proofs.Common.{◌∙◌, ap}
use Rattle.std.proofs.lemmas.Result.{IfOk-weaker}
use Rattle.clap.specs.Faults.{is_simple_and_free}
use Rattle.qm_words.specs.inner.CommandLines.{compile_app}
use Rattle.qm_words.proofs.CompileCommand.{compile_is_free}
use Rattle.qm_words.proofs.lines.compile_matches.Goals as goal

pub matches_by-requires : goal.matches_by-requires
matches_by-requires c = IfOk-weaker c.compile_command.result _ _ (λ line is. ap is_simple_and_free is ∙ compile_is_free) c.compile_command.ensures

pub returns : goal.returns
returns c = c.matches_by.ensures compile_app c.compile_command.ensures
