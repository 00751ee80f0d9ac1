use Rattle.qm_board.specs.inner.WithinCeilings.{more_narrows}
use Rattle.qm_board.proofs.CeilingLaws.{more_by_first, more_by_second}
use Rattle.qm_board.proofs.laws.ceilings_only_narrow.Goals as goal

pub returns-clause-narrow : goal.returns-clause-narrow
returns-clause-narrow c = more_narrows

pub returns-clause-first : goal.returns-clause-first
returns-clause-first c = more_by_first

pub returns-clause-second : goal.returns-clause-second
returns-clause-second c = more_by_second
