use Rattle.std.proofs.Common.{◌≡◌, ◌<◌, ℕ, ℤ, List, length, w64, sym, subst, ◌∙◌}
use Rattle.std.proofs.lemmas.Int.{to_z-of_z}
use Rattle.std.proofs.lemmas.List.{length-set}
use Rattle.std.proofs.lemmas.List.Elements.{All-set}
use Rattle.qm_space.specs.Bounds.{world_extent}
use Rattle.qm_space.specs.Plane.{Plane}
use Rattle.qm_face_layout.specs.PlaneNumbers.{IsPlaneNumber}
use Rattle.qm_face_file.proofs.PlanesOnWalls.{same_from_test}
use Rattle.qm_face_corners.specs.inner.KeptNumbers.{HasItsNumber}
use Rattle.qm_face_corners.proofs.plane_numbers.PlaneNumbers.number.Goals as goal

pub returns-then-eq-clause-number : goal.returns-then-eq-clause-number
returns-then-eq-clause-number c =
    let kept = c.index.result.now in
    let there : c.place_of-place.result < length c.self.inside.kept.items = subst (λ (n : ℕ). c.place_of-place.result < n) (sym c.self.invariant.count) c.place_of-place.ensures in
    let own = subst (HasItsNumber c.self.inside.book.now) (sym c.index.ensures) (c.self.invariant.each c.place_of-place.result kept there) in
    let same : kept.plane ≡ c.args.plane.now = same_from_test kept.plane c.args.plane.now (sym c.eq.ensures ∙ c.if-eq.true) in
    subst (λ (n : ℤ). IsPlaneNumber c.args.self.now world_extent c.args.plane.now n) (sym (to_z-of_z w64 c.own_number.result (record { sfits = c.own_number.type_inv })))
    (subst (λ (planes : List Plane). IsPlaneNumber planes world_extent c.args.plane.now c.own_number.result) c.self.view_is
    (subst (λ (h : Plane). IsPlaneNumber c.self.inside.book.now world_extent h c.own_number.result) same
    (subst (λ (n : ℤ). IsPlaneNumber c.self.inside.book.now world_extent kept.plane n) (sym c.own_number.ensures) own)))

pub invariant_of-self : goal.invariant_of-self
invariant_of-self c =
    let number = c.plane_number-number.result in
    let own = subst (λ (n : ℤ). IsPlaneNumber c.self.inside.book.now world_extent c.args.plane.now n) (sym (to_z-of_z w64 number (record { sfits = c.plane_number-number.type_inv }))) c.plane_number-number.ensures in
    record {
      count = length-set c.self.inside.kept.items c.place_of-place.result _ ∙ c.self.invariant.count;
      each = All-set (HasItsNumber c.self.inside.book.now) c.self.inside.kept.items c.place_of-place.result _ own c.self.invariant.each;
    }
