use Rattle.qm_split.proofs.KnownFragments.{all_contend, no_candidate, least_of_ranks}
use Rattle.qm_split.proofs.fragments.Fragments.least_candidate.Goals as goal

pub returns-in_err-least : goal.returns-in_err-least
returns-in_err-least c = λ solids book cell are. rw c.from_residual.ensures (no_candidate solids book cell c.args.self.now are (c.in_err-least.ensures book cell (all_contend solids book cell c.args.self.now are)))

pub returns : goal.returns
returns c = λ solids book cell are. least_of_ranks solids book cell c.args.self.now are c.in_ok-least.least (c.in_ok-least.ensures book cell (all_contend solids book cell c.args.self.now are))
