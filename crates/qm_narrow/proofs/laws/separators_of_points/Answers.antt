use Rattle.qm_separators.proofs.SameSeparators.{separator_too}
use Rattle.qm_narrow.proofs.laws.separators_of_points.Goals as goal

pub returns : goal.returns
returns c = λ s t p q h s_convex t_convex p_convex q_convex same_source same_pass is. separator_too s t p q s_convex t_convex p_convex q_convex same_source same_pass h is
