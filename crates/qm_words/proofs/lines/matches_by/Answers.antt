use Rattle.std.proofs.Common.{◌≡◌, subst, true}
use Rattle.std.proofs.lemmas.Result.{IfOk-at_ok}
use Rattle.clap.specs.Simple.{App, app_of}
use Rattle.clap.specs.Faults.{is_simple_and_free}
use Rattle.clap.specs.declared.builder.command.Command.{Command}
use Rattle.qm_words.specs.SeenWords.{bytes_of_words}
use Rattle.qm_words.specs.inner.Parsed.{IsParsedBy}
use Rattle.qm_words.proofs.lines.matches_by.Goals as goal

pub parse-requires : goal.parse-requires
parse-requires c = IfOk-at_ok (λ (command : Command). is_simple_and_free (app_of command) ≡ true) c.in-Ok.is c.requires

pub returns-in-Ok : goal.returns-in-Ok
returns-in-Ok c = λ app is.
    let line = IfOk-at_ok (λ (command : Command). app_of command ≡ app) c.in-Ok.is is in
    subst (λ (a : App). IsParsedBy a (bytes_of_words c.args.words.now) c.parse.result) line c.parse.ensures

pub returns-in-Err : goal.returns-in-Err
returns-in-Err c = λ app is. tt
