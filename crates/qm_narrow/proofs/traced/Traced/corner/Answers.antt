use Rattle.std.proofs.Common.{arith, refl}
use Rattle.qm_narrow.proofs.Traces.{corner_at_place, corner_listed}
use Rattle.qm_narrow.proofs.traced.Traced.corner.Goals as goal

pub index-requires : goal.index-requires
index-requires c =
    let listed = corner_listed c.self.inside.winding c.args.self.now c.self.inside.lists.corners.items c.self.inside.lists.spots.items c.args.i c.self.invariant c.self.view_is c.requires in
    let fits = c.self.inside.lists.corners.ok.0 in
    omega (arith, listed, fits)

pub returns-clause-value : goal.returns-clause-value
returns-clause-value c = (corner_at_place c.self.inside.winding c.args.self.now c.self.inside.lists.corners.items c.self.inside.lists.corners.items c.self.inside.lists.spots.items c.args.i c.index.result.now c.self.invariant c.self.view_is refl c.len-corners.ensures.in_world c.requires c.index.ensures).0

pub returns-clause-small : goal.returns-clause-small
returns-clause-small c = (corner_at_place c.self.inside.winding c.args.self.now c.self.inside.lists.corners.items c.self.inside.lists.corners.items c.self.inside.lists.spots.items c.args.i c.index.result.now c.self.invariant c.self.view_is refl c.len-corners.ensures.in_world c.requires c.index.ensures).1
