use Rattle.std.proofs.Common.{ℕ, ◌<◌}
use Rattle.qm_convex.specs.Winding.{corner_at}
use Rattle.qm_narrow.specs.inner.Beam.{SeesThrough}
use Rattle.qm_narrow.proofs.seeing.all_see.Given as goal

-- the corners before do
abbrev pub invariant-loop-i : goal.invariant-loop-i
invariant-loop-i l = (k : ℕ) → k < l.i → SeesThrough l.pass l.target (corner_at l.source k)
