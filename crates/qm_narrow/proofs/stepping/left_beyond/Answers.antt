use Rattle.qm_separators.specs.Separator.{IsSeparatorFrom}
use Rattle.qm_narrow.proofs.Steps.{left_by}
use Rattle.qm_narrow.proofs.stepping.left_beyond.Goals as goal

pub returns : goal.returns
returns c = left_by c.keep_all.result c.args.winding c.list_separators_from.new.planes.items c.as_slice.result.now (IsSeparatorFrom c.args.last.now c.args.other.now) c.in_ok-list_separators_from.ensures c.as_slice.ensures.value c.keep_all.ensures
