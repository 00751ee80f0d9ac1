use Rattle.std.proofs.Common.{List, Bool, refl, sym, subst}
use Rattle.qm_contacts.specs.Contacts.{AreContacts}
use Rattle.qm_contacts.specs.inner.Due.{IsDueCell}
use Rattle.qm_contacts.proofs.CellsDue.{root_due, root_known, all_contacts}
use Rattle.qm_portal.proofs.finding.touches.Goals as goal
use Rattle.qm_portal.proofs.finding.touches.Goals.{In_ok-cube, After-deref}

cube_known : (c : In_ok-cube) → IsDueCell c.args.tree.now (root_due c.args.tree.now c.in_ok-cube.cube)
cube_known c = root_known c.args.tree.now c.in_ok-cube.cube c.requires.points c.in_ok-cube.ensures.child_is c.in_ok-cube.ensures.bounds c.in_ok-cube.ensures.facets

all : (c : After-deref) → IsDueCell c.args.tree.now (root_due c.args.tree.now c.in_ok-cube.cube) → AreContacts c.args.tree.now (record { touchings = c.in_ok-found.found.pairs.items; outside = c.deref.result.now })
all c known =
    subst (λ (row : List Bool). AreContacts c.args.tree.now (record { touchings = c.in_ok-found.found.pairs.items; outside = row })) (sym c.deref.ensures.value)
    (all_contacts c.args.tree.now c.in_ok-cube.cube (record { touchings = c.in_ok-found.found.pairs.items; outside = c.in_ok-found.found.outside.items }) c.requires.points
    (c.in_ok-found.ensures.touchings (root_due c.args.tree.now c.in_ok-cube.cube) refl known)
    (c.in_ok-found.ensures.outside (root_due c.args.tree.now c.in_ok-cube.cube) refl known))

pub found_below-requires : goal.found_below-requires
found_below-requires c = (root_due c.args.tree.now c.in_ok-cube.cube, refl, cube_known (goal.at.found_below-requires c).In_ok-cube)

pub of-requires : goal.of-requires
of-requires c = (c.args.tree.now, all (goal.at.of-requires c).After-deref (cube_known (goal.at.of-requires c).In_ok-cube))

pub returns : goal.returns
returns c = subst (AreContacts c.args.tree.now) (sym c.in_ok-list.ensures) (all (goal.at.returns c).After-deref (cube_known (goal.at.returns c).In_ok-cube))
