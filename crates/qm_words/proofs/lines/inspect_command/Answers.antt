use Rattle.std.proofs.Common.{codes}
use Rattle.qm_words.specs.inner.CommandLines.{named_app}
use Rattle.qm_words.proofs.lines.inspect_command.Goals as goal

pub returns : goal.returns
returns c = c.with_arg.ensures (named_app (codes "inspect") (codes "tree")) c.named_command-tree.ensures
