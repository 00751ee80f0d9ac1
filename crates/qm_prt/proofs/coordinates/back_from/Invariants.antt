use Rattle.std.proofs.Common.{◌≡◌}
use Rattle.qm_listing.specs.inner.GoneRound.{steps_back}
use Rattle.qm_prt.proofs.coordinates.back_from.Given as goal

-- so many steps back are made
abbrev pub invariant-loop-i : goal.invariant-loop-i
invariant-loop-i l = l.turned.items ≡ steps_back l.corners l.first l.i
