use Rattle.std.proofs.Common.{◌≡◌, ℤ, to_z, w64, ◌∙◌, ap}
use Rattle.std.specs.Int.{int_max}
use Rattle.std.proofs.lemmas.Int.{to_z-of_z}
use Rattle.qm_space.proofs.LeastDistances.{so_far_begun, so_far_gained, so_far_ended}
use Rattle.qm_geom.proofs.distance.least_distance.Goals as goal

pub loop-corner-init : goal.loop-corner-init
loop-corner-init c =
    let fits = c.least_distance-least.type_inv in
    rw (to_z-of_z w64 c.least_distance-least.result (record { sfits = fits })) (so_far_begun _ _ _ _ c.index-corners-0.is c.requires.some_corner c.least_distance-least.ensures)

pub loop-corner-preserved : goal.loop-corner-preserved
loop-corner-preserved c =
    let next = to_z-of_z w64 c.least_distance.result (record { sfits = c.least_distance.type_inv }) in
    let greatest : c.max-least.result ≡ int_max (to_z w64 c.loop-corner.least-bits) c.least_distance.result = c.max-least.ensures.value ∙ ap (λ (x : ℤ). int_max (to_z w64 c.loop-corner.least-bits) x) next in
    rw (to_z-of_z w64 c.max-least.result (record { sfits = c.max-least.type_inv }), greatest)
    (so_far_gained _ _ _ _ _ _ c.corner-item.is c.loop-corner-test.true c.loop-corner.invariant c.least_distance.ensures)

pub returns : goal.returns
returns c = so_far_ended _ _ _ _ c.loop-corner-test.false c.loop-corner.invariant
