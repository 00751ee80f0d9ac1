-- A box that meets a solid is set at a point strictly behind each of the solid's moved planes.
use Rattle.std.proofs.Common.{◌≡◌, ℤ, ◌+ℤ◌, ◌-ℤ◌, ◌*ℤ◌, ◌≤ℤ◌, [], ◌∷◌, All, ap, ◌∙◌, arith}
use Rattle.std.proofs.lemmas.List.Elements.{All-map}
use Rattle.qm_numbers.proofs.IntegerProducts.{linear, +ℤ-*ℤ}
use Rattle.qm_numbers.proofs.Signs.{negative_beside, positive_times_negative}
use Rattle.qm_numbers.proofs.Ring.{variable, ◌⊕◌, ◌⊖◌, ◌⊗◌, solved}
use Rattle.qm_space.specs.Point.{Point}
use Rattle.qm_space.specs.Plane.{Plane, value, IsBehind}
use Rattle.qm_space.specs.Cuboid.{Cuboid, least_product}
use Rattle.qm_space.proofs.Cuboids.{least_product_bound}
use Rattle.qm_space.proofs.PlaneSymbols.{plane_from, point_from, numbers_of_plane, numbers_of_point, symbol_value}
use Rattle.qm_solids.specs.Solid.{Solid}
use Rattle.qm_solids.specs.Holding.{IsInside}
use Rattle.qm_solids.proofs.Insides.{behind_all}
use Rattle.qm_blocking.specs.Moved.{least_over, moved_by}
use Rattle.qm_blocking.specs.Boxes.{way_between, IsInBoxAt}
use Rattle.qm_blocking.specs.MovedSolids.{moved_solid}
use Rattle.qm_blocking.proofs.MovedPlanes.{value_moved}

module _ (box : Cuboid) (h : Plane) (x q : Point) (in_box : IsInBoxAt box x q) where
  -- along the way the normal gives the least at least
  least_of_way : (least_over box h *ℤ (x.w *ℤ q.w)) ≤ℤ (((h.nx *ℤ (way_between x q).x) +ℤ (h.ny *ℤ (way_between x q).y)) +ℤ (h.nz *ℤ (way_between x q).z))
  least_of_way =
      let way = way_between x q in
      let of_x = least_product_bound h.nx box.x way.x way.w in_box.within.x in
      let of_y = least_product_bound h.ny box.y way.y way.w in_box.within.y in
      let of_z = least_product_bound h.nz box.z way.z way.w in_box.within.z in
      let two = +ℤ-*ℤ (least_product h.nx box.x) (least_product h.ny box.y) (x.w *ℤ q.w) in
      let three = +ℤ-*ℤ (least_product h.nx box.x +ℤ least_product h.ny box.y) (least_product h.nz box.z) (x.w *ℤ q.w) in
      omega (arith, linear)

  -- the way leads from the value at its beginning to that at its end
  values_of_way : ((h.nx *ℤ (way_between x q).x) +ℤ (h.ny *ℤ (way_between x q).y)) +ℤ (h.nz *ℤ (way_between x q).z) ≡ (x.w *ℤ value h q) -ℤ (q.w *ℤ value h x)
  unfolding value
  values_of_way =
      let g = plane_from 0 in let a = point_from 4 in let b = point_from 8 in
      solved (numbers_of_plane h (numbers_of_point x (numbers_of_point q [])))
      ((g.nx ⊗ (b.x ⊗ a.w ⊖ a.x ⊗ b.w)) ⊕ (g.ny ⊗ (b.y ⊗ a.w ⊖ a.y ⊗ b.w)) ⊕ (g.nz ⊗ (b.z ⊗ a.w ⊖ a.z ⊗ b.w)))
      (a.w ⊗ symbol_value g b ⊖ b.w ⊗ symbol_value g a) tt

  -- where the box has a point behind a plane, the point at which it is set is behind the moved plane
  pub set_behind_moved : IsBehind h q → IsBehind (moved_by box h) x
  set_behind_moved behind =
      let least = least_of_way in
      let way = values_of_way in
      let is = value_moved box h x in
      let times : q.w *ℤ value (moved_by box h) x ≡ (q.w *ℤ value h x) +ℤ (least_over box h *ℤ (x.w *ℤ q.w)) = spread (value (moved_by box h) x) (value h x) is in
      let before = positive_times_negative x.w (value h q) in_box.set_weight behind in
      negative_beside q.w (value (moved_by box h) x) in_box.weight (omega (arith, linear))
    where
      spread : (v u : ℤ) → v ≡ u +ℤ (least_over box h *ℤ x.w) → q.w *ℤ v ≡ (q.w *ℤ u) +ℤ (least_over box h *ℤ (x.w *ℤ q.w))
      spread v u is =
          let e = solved (q.w ∷ u ∷ least_over box h ∷ x.w ∷ []) (variable 0 ⊗ (variable 1 ⊕ variable 2 ⊗ variable 3)) (variable 0 ⊗ variable 1 ⊕ variable 2 ⊗ (variable 3 ⊗ variable 0)) tt in
          let f = ap (λ (z : ℤ). q.w *ℤ z) is in
          f ∙ e

-- a box that has a point strictly inside a solid is set strictly behind all its moved planes
pub set_behind_all_moved : (box : Cuboid) (solid : Solid) (x q : Point) → IsInBoxAt box x q → IsInside solid q → All (λ h. IsBehind h x) (moved_solid box solid).outward
set_behind_all_moved box solid x q in_box inside =
    All-map (λ h. IsBehind h x) (moved_by box) solid.outward (λ k h within. set_behind_moved box _ x q in_box (behind_all solid.outward q inside k h within))
