use Rattle.qm_mapout.proofs.ReadAgain.{printed_means}
use Rattle.qm_mapout.proofs.printer.print.Goals as goal

pub returns-in_err-text-clause-read_again : goal.returns-in_err-text-clause-read_again
returns-in_err-text-clause-read_again c = printed_means _ c.requires

pub returns-then-is_empty-clause-read_again : goal.returns-then-is_empty-clause-read_again
returns-then-is_empty-clause-read_again c = printed_means _ c.requires

pub returns-clause-read_again : goal.returns-clause-read_again
returns-clause-read_again c = printed_means _ c.requires
