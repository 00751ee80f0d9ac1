use Rattle.qm_chains.proofs.LeftToEnter.{cleared}
use Rattle.qm_flow.proofs.masks.take_one.Goals as goal

pub returns : goal.returns
returns c = cleared c.args.leaf c.args.row.now c.and_word.new.self c.and_word.ensures
