use Rattle.std.proofs.Common.{◌∙◌, ap₂}
use Rattle.std.proofs.lemmas.Result.{IfOk-weaker}
use Rattle.clap.specs.Simple.{with_rule}
use Rattle.qm_words.proofs.lines.named_command.Goals as goal

pub returns : goal.returns
returns c = IfOk-weaker c.arg.result _ _ (λ command adds. adds.shape c.arg_of.ensures.own ∙ ap₂ with_rule c.plain_command.ensures c.arg_of.ensures.rule) c.arg.ensures
