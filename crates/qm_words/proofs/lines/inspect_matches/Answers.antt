use Rattle.std.proofs.Common.{◌∙◌, ap}
use Rattle.std.proofs.lemmas.Result.{IfOk-weaker}
use Rattle.clap.specs.Faults.{is_simple_and_free}
use Rattle.qm_words.specs.inner.CommandLines.{inspect_app}
use Rattle.qm_words.proofs.InspectLaws.{inspect_is_free}
use Rattle.qm_words.proofs.lines.inspect_matches.Goals as goal

pub matches_by-requires : goal.matches_by-requires
matches_by-requires c = IfOk-weaker c.inspect_command.result _ _ (λ line is. ap is_simple_and_free is ∙ inspect_is_free) c.inspect_command.ensures

pub returns : goal.returns
returns c = c.matches_by.ensures inspect_app c.inspect_command.ensures
