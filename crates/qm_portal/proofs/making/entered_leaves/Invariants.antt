use Rattle.std.proofs.Common.{◌≡◌, take}
use Rattle.qm_contacts.specs.inner.WorldParts.{leaves_to}
use Rattle.qm_portal.proofs.making.entered_leaves.Given as goal

-- the leaves that the portals so far enter
abbrev pub invariant-loop-portal : goal.invariant-loop-portal
invariant-loop-portal l = l.entered.items ≡ leaves_to (take l.portal-index l.portals)
