use Rattle.std.proofs.Common.{◌∙◌, ap}
use Rattle.std.proofs.lemmas.Result.{IfOk-weaker}
use Rattle.clap.specs.Faults.{is_simple_and_free}
use Rattle.qm_words.specs.inner.CommandLines.{pair_app}
use Rattle.qm_words.proofs.PairLaws.{pair_is_free}
use Rattle.qm_words.proofs.lines.pair_matches.Goals as goal

pub matches_by-requires : goal.matches_by-requires
matches_by-requires c = IfOk-weaker c.names_command.result _ _ (λ line is. ap is_simple_and_free is ∙ pair_is_free c.args.verb.now) c.names_command.ensures

pub returns : goal.returns
returns c = c.matches_by.ensures (pair_app c.args.verb.now) c.names_command.ensures
