use Rattle.std.proofs.Common.{◌≡◌, ◌∙◌, ap₂}
use Rattle.std.proofs.lemmas.Result.{IfOk-at_ok, IfOk-weaker}
use Rattle.clap.specs.Simple.{app_of, with_rule}
use Rattle.clap.specs.declared.builder.command.Command.{Command}
use Rattle.qm_words.proofs.lines.with_arg.Goals as goal

pub returns-in-Ok : goal.returns-in-Ok
returns-in-Ok c = λ app is.
    let line = IfOk-at_ok (λ (command : Command). app_of command ≡ app) c.in-Ok.is is in
    IfOk-weaker c.arg.result _ _ (λ command adds. adds.shape c.arg_of.ensures.own ∙ ap₂ with_rule line c.arg_of.ensures.rule) c.arg.ensures

pub returns-in-Err : goal.returns-in-Err
returns-in-Err c = λ app is. tt
