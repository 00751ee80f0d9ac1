use Rattle.std.proofs.Common.{take}
use Rattle.qm_portal.specs.inner.WorldExits.{AreExits}
use Rattle.qm_portal.proofs.making.exits_at.Given as goal

-- the portals at the places so far, as exits
abbrev pub invariant-loop-place : goal.invariant-loop-place
invariant-loop-place l = AreExits l.portals (take l.place-index l.places) l.exits.items
