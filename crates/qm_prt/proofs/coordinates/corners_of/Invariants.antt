use Rattle.std.proofs.Common.{◌≡◌}
use Rattle.qm_listing.specs.inner.GoneRound.{first_corners}
use Rattle.qm_prt.proofs.coordinates.corners_of.Given as goal

-- the first corners are listed
abbrev pub invariant-loop-i : goal.invariant-loop-i
invariant-loop-i l = l.corners.items ≡ first_corners l.winding l.i
