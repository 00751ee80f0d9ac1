use Rattle.qm_split.proofs.KnownFragments.{contents_known, contents_unknown}
use Rattle.qm_split.proofs.fragments.Fragments.contents.Goals as goal

pub returns-in-Some : goal.returns-in-Some
returns-in-Some c = λ solids book cell are. contents_known solids book cell c.args.self.now are c.in-Some.contents c.in-Some.is

pub returns-in-None : goal.returns-in-None
returns-in-None c = λ solids book cell are. contents_unknown solids book cell c.args.self.now are c.in-None.is
