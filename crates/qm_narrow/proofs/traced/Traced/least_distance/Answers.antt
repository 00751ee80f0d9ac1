use Rattle.std.proofs.Common.{rules, ◌<◌, ◌+◌, ℤ, ◌≤ℤ◌, [], ◌∷◌, length, ap, sym, subst, ◌∙◌, w64, to_z, arith}
use Rattle.std.specs.Int.{int_max}
use Rattle.std.proofs.lemmas.Int.{to_z-of_z}
use Rattle.qm_space.specs.Point.{Point}
use Rattle.qm_space.specs.LeastDistance.{IsLeastDistance}
use Rattle.qm_geom.specs.Vectors.{direction_of}
use Rattle.qm_space.proofs.LeastDistances.{IsLeastSoFar, so_far_ended}
use Rattle.qm_convex.specs.Winding.{corners}
use Rattle.qm_convex.proofs.Corners.{corners_length}
use Rattle.qm_narrow.proofs.KeptNormals.{own_small}
use Rattle.qm_narrow.proofs.RaisedDistances.{raised_begins, raised_past, raised_by, at_most_where}
use Rattle.qm_narrow.proofs.traced.Traced.least_distance.Goals as goal
use Rattle.qm_narrow.proofs.traced.Traced.least_distance.Goals.{then-greatest-least, else-greatest-least}

pub reach-least-requires : goal.reach-least-requires
reach-least-requires c = own_small c.normal-normal.result c.normal-normal.ensures.size

pub greatest-requires-clause-small : goal.greatest-requires-clause-small
greatest-requires-clause-small c = own_small c.normal-normal.result c.normal-normal.ensures.size

pub loop-i-init : goal.loop-i-init
loop-i-init c =
    rw (to_z-of_z w64 c.reach-least.result.low (search rules))
    (raised_begins c.args.self.now c.len-count.ensures.in_world.convex c.args.along.now c.normal-normal.result (ap direction_of c.normal-normal.ensures.exact) c.reach-least.result c.reach-least.ensures)

pub loop-i-preserved : goal.loop-i-preserved
loop-i-preserved c = elim c.if-greatest-least.branch [
  | then-greatest-least w ↦
      subst (λ (d : ℤ). IsLeastSoFar (c.args.along.now.nx ∷ c.args.along.now.ny ∷ c.args.along.now.nz ∷ []) (corners c.args.self.now) (c.loop-i.i + 1) d)
      (sym (w.least-is ∙ to_z-of_z w64 w.max-least.result (record { sfits = w.max-least.type_inv }) ∙ w.max-least.ensures.value ∙ ap (λ (d : ℤ). int_max (to_z w64 c.loop-i.least-bits) d) (to_z-of_z w64 w.distance_of.result (record { sfits = w.distance_of.type_inv }))))
      (raised_by c.args.self.now c.len-count.ensures.in_world.convex c.args.along.now c.normal-normal.result (ap direction_of c.normal-normal.ensures.exact) c.loop-i.i (below c) (to_z w64 c.loop-i.least-bits) c.loop-i.invariant w.distance_of.result
      (subst (λ (p : Point). IsLeastDistance (c.args.along.now.nx ∷ c.args.along.now.ny ∷ c.args.along.now.nz ∷ []) (p ∷ []) w.distance_of.result) w.corner.ensures.value w.distance_of.ensures))
  | else-greatest-least w ↦
      subst (λ (d : ℤ). IsLeastSoFar (c.args.along.now.nx ∷ c.args.along.now.ny ∷ c.args.along.now.nz ∷ []) (corners c.args.self.now) (c.loop-i.i + 1) d)
      (sym w.least-is)
      (raised_past c.args.self.now c.len-count.ensures.in_world.convex c.args.along.now c.normal-normal.result (ap direction_of c.normal-normal.ensures.exact) c.loop-i.i (below c) (to_z w64 c.loop-i.least-bits) c.loop-i.invariant c.spot.result.now c.spot.ensures
      (subst (λ (d : ℤ). d ≤ℤ to_z w64 c.loop-i.least-bits) (to_z-of_z w64 c.greatest.result (record { sfits = c.greatest.type_inv }) ∙ c.greatest.ensures.exact) (at_most_where _ _ w.if-greatest-least.false)))
]
  where
    below : (c : goal.Joined-greatest-least) → c.loop-i.i < length c.args.self.now.edges
    below c = let n = c.len-count.ensures.count in let t = c.loop-i-test.true in omega arith

pub returns : goal.returns
returns c =
    let a = c.loop-i-test.false in let b = c.loop-i.auto.i-end in let n = c.len-count.ensures.count in let m = corners_length c.args.self.now in
    so_far_ended (c.args.along.now.nx ∷ c.args.along.now.ny ∷ c.args.along.now.nz ∷ []) (corners c.args.self.now) c.loop-i.i _ (omega arith) c.loop-i.invariant
