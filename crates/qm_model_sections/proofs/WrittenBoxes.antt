-- The box of a model can be written: it lies in the closed cube, and no low end is above its high end.
use Rattle.std.proofs.Common.{◌≡◌, ◌≤◌, ◌^◌, ℤ, pos, negsuc, ◌+ℤ◌, ◌≤ℤ◌, ◌<ℤ◌, true, List, unsigned_abs, arith}
use Rattle.std.specs.Int.{w32}
use Rattle.std.proofs.Math.IntN.{*ℤ_comm}
use Rattle.std.proofs.lemmas.Bool.{lt-ltb}
use Rattle.qm_numbers.proofs.IntegerProducts.{linear}
use Rattle.qm_numbers.proofs.Signs.{by_least, cancel_at_most}
use Rattle.qm_space.specs.Bounds.{world_extent}
use Rattle.qm_space.specs.Point.{Point, IsCoordinate}
use Rattle.qm_space.specs.Cuboid.{Stretch, Cuboid, IsInStretch, whole_stretch, whole_cuboid}
use Rattle.qm_space.proofs.CoordinateSizes.{coordinate_small}
use Rattle.qm_space.proofs.Cuboids.{closed_cube_in_whole}
use Rattle.qm_solids.specs.Solid.{Solid}
use Rattle.qm_facets.specs.Extent.{IsStretchWithin, IsCuboidWithin}
use Rattle.qm_formats.specs.Fields.{fits_signed}
use Rattle.qm_outlines.specs.HeldPoints.{IsHeldPoint, IsModelBox}
use Rattle.qm_model_layout.specs.BrushModel.{IsWrittenStretch, IsWrittenBox}

-- ---- one stretch

small_fits : (c : ℤ) → unsigned_abs c ≤ world_extent → fits_signed w32 c ≡ true
small_fits (pos n) small = lt-ltb n (2 ^ 31) (omega (arith, small))
small_fits (negsuc n) small = lt-ltb n (2 ^ 31) (omega (arith, small))

-- a stretch that has a coordinate is in order
in_order : (stretch : Stretch) (c w : ℤ) → pos 0 <ℤ w → IsInStretch stretch c w → stretch.low ≤ℤ stretch.high
in_order stretch c w weight has =
    let above = has.above in let below = has.below in
    let low = *ℤ_comm w stretch.low in let high = *ℤ_comm w stretch.high in
    cancel_at_most w stretch.low stretch.high weight (omega (arith, linear))

written : (stretch : Stretch) → IsStretchWithin stretch whole_stretch → stretch.low ≤ℤ stretch.high → IsWrittenStretch stretch
written stretch within order =
    let low = within.low in let high = within.high in
    let low_in : IsCoordinate stretch.low = record { low = low; high = omega (arith, linear) } in
    let high_in : IsCoordinate stretch.high = record { low = omega (arith, linear); high = high } in
    record {
      in_order = order;
      low_fits = small_fits stretch.low (coordinate_small stretch.low low_in);
      high_fits = small_fits stretch.high (coordinate_small stretch.high high_in);
    }

-- ---- the box

module _ (solids : List Solid) (box : Cuboid) (is : IsModelBox solids box) where
  in_whole : IsCuboidWithin box whole_cuboid
  in_whole = is.least whole_cuboid (λ x held. closed_cube_in_whole x held.in_cube)

  -- some point is held: else the box would lie in each cuboid
  pub some_held : ((x : Point) → IsHeldPoint solids x → ⊥) → ⊥
  some_held none =
      let past = is.least (record { x = record { low = box.x.low +ℤ pos 1; high = box.x.high }; y = box.y; z = box.z }) (λ x held. absurd (none x held)) in
      let low = past.x.low in
      omega (arith, linear)

  x_in_order : box.x.low ≤ℤ box.x.high
  x_in_order = by_least box.x.high box.x.low
      (λ less. absurd (some_held (λ x held. let order = in_order box.x x.x x.w held.in_cube.weight (is.has_all x held).x in omega (arith, linear)))) (λ order. order)

  y_in_order : box.y.low ≤ℤ box.y.high
  y_in_order = by_least box.y.high box.y.low
      (λ less. absurd (some_held (λ x held. let order = in_order box.y x.y x.w held.in_cube.weight (is.has_all x held).y in omega (arith, linear)))) (λ order. order)

  z_in_order : box.z.low ≤ℤ box.z.high
  z_in_order = by_least box.z.high box.z.low
      (λ less. absurd (some_held (λ x held. let order = in_order box.z x.z x.w held.in_cube.weight (is.has_all x held).z in omega (arith, linear)))) (λ order. order)

  pub box_written : IsWrittenBox box
  box_written = record { x = written box.x in_whole.x x_in_order; y = written box.y in_whole.y y_in_order; z = written box.z in_whole.z z_in_order }
