use Rattle.qm_words.specs.inner.CommandLines.{named_app}
use Rattle.qm_words.proofs.lines.names_command.Goals as goal

pub returns : goal.returns
returns c = c.with_arg.ensures (named_app c.args.verb.now c.args.first.now) c.named_command-named.ensures
