use Rattle.std.proofs.Common.{◌≡◌, take}
use Rattle.qm_contacts.specs.Portals.{portals_of}
use Rattle.qm_portal.proofs.passages.portals.Given as goal

-- the portals of the pairs so far
abbrev pub invariant-loop-pair : goal.invariant-loop-pair
invariant-loop-pair l = l.portals.items ≡ portals_of l.tree (take l.pair-index l.pairs)
