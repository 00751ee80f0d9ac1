use Rattle.qm_solids.specs.InBook.{solids_in}
use Rattle.qm_split.proofs.MadeFragments.{whole_fragments}
use Rattle.qm_split.proofs.fragments.Fragments.of.Goals as goal

pub returns : goal.returns
returns c = whole_fragments c.args.book.now (solids_in c.args.book.now c.args.list.now) _ c.len-planes.ensures.planes c.new.ensures c.in_ok-gathering.ensures
