use Rattle.std.proofs.Common.{refl}
use Rattle.qm_board.specs.PassOf.{findings_of}
use Rattle.qm_shared_rows.specs.Findings.{ceiling}
use Rattle.qm_board.specs.BoardSource.{world_on}
use Rattle.qm_board.proofs.CeilingLaws.{read_within, more_with_ceiling}
use Rattle.qm_board.proofs.board_rows.BoardRowsRowSource.word.Goals as goal

pub returns-clause-within : goal.returns-clause-within
returns-clause-within c = read_within (world_on c.args.self.now) (findings_of c.args.self.now.pass) c.args.portal c.args.k c.word.result c.requires.portal_in_range c.word.ensures.read

pub returns-clause-on : goal.returns-clause-on
returns-clause-on c = record {
  same_board = refl;
  more = more_with_ceiling (ceiling c.args.portal c.args.k c.word.result) (findings_of c.args.self.now.pass) (findings_of c.word.new.pass) c.word.ensures.ceiling;
}
