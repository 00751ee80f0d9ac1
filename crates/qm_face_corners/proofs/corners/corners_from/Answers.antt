use Rattle.std.proofs.Common.{ℕ, ℤ, List, w64, ap, sym, subst, ◌∙◌}
use Rattle.std.proofs.lemmas.Int.{to_z-of_z}
use Rattle.qm_space.specs.Bounds.{world_extent}
use Rattle.qm_space.specs.Plane.{Plane}
use Rattle.qm_face_layout.specs.FaceCorners.{place_on, IsNumberedCorner}
use Rattle.qm_face_layout.specs.PlaneNumbers.{IsPlaneNumber}
use Rattle.qm_face_corners.specs.NamedPlanes.{HasNamedPlanes}
use Rattle.qm_face_corners.proofs.CornersFrom.{no_corners, one_corner_more}
use Rattle.qm_face_corners.proofs.corners.corners_from.Goals as goal

pub loop-i-init : goal.loop-i-init
loop-i-init c = record {
  same = c.number-own.ensures.same;
  corners = no_corners c.args.numbers.now c.args.winding.now c.args.backward c.args.first _ c.in_ok-corners.ensures.items;
}

pub corner_numbers-requires-clause-named : goal.corner_numbers-requires-clause-named
corner_numbers-requires-clause-named c = subst (λ (planes : List Plane). HasNamedPlanes planes c.args.winding.now) (sym c.loop-i.invariant.same) c.requires.named

pub corner_numbers-requires-clause-own : goal.corner_numbers-requires-clause-own
corner_numbers-requires-clause-own c =
    subst (λ (n : ℤ). IsPlaneNumber c.loop-i.numbers world_extent c.args.winding.now.plane n) (sym (to_z-of_z w64 c.number-own.result (record { sfits = c.number-own.type_inv })))
    (subst (λ (planes : List Plane). IsPlaneNumber planes world_extent c.args.winding.now.plane c.number-own.result) (sym c.loop-i.invariant.same)
    (subst (λ (plane : Plane). IsPlaneNumber c.args.numbers.now world_extent plane c.number-own.result) c.plane.ensures c.number-own.ensures.number))

pub loop-i-preserved : goal.loop-i-preserved
loop-i-preserved c =
    let place = c.place_on-place.ensures.value ∙ ap (λ (count : ℕ). place_on c.args.backward count c.args.first c.loop-i.i) c.len-count.ensures.count in
    let corner = subst (λ (planes : List Plane). IsNumberedCorner planes world_extent c.args.winding.now c.args.backward c.place_on-place.result c.corner_numbers.result) c.loop-i.invariant.same c.corner_numbers.ensures.corner in
    record {
      same = c.corner_numbers.ensures.same ∙ c.loop-i.invariant.same;
      corners = one_corner_more c.args.numbers.now c.args.winding.now c.args.backward c.args.first c.loop-i.corners.items c.push.new.self.items c.loop-i.i c.place_on-place.result c.corner_numbers.result c.loop-i.invariant.corners place corner c.in_ok-push.ensures.items;
    }
