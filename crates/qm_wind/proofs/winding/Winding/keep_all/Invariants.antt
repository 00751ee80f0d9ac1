use Rattle.std.proofs.Common.{take}
use Rattle.qm_convex.specs.Cut.{IsPartWithin}
use Rattle.qm_wind.proofs.winding.Winding.keep_all.Given as goal

abbrev pub invariant-loop-plane : goal.invariant-loop-plane
invariant-loop-plane l = IsPartWithin l.left l.fn.self (take l.plane-index l.planes)
