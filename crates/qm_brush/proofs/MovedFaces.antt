-- Faces whose planes are moved by a box: how near their planes are, and what the code makes of them.
use Rattle.std.proofs.Common.{◌≡◌, ◌≤◌, ◌*◌, ◌^◌, w32, w64, lit≤, FitsSigned, Bool, true, false, ℤ, pos, neg_ℤ, ◌-ℤ◌, List, [], ◌∷◌, map, get_or, All, refl, sym, ap, ◌∙◌, subst, arith, unsigned_abs}
use Rattle.std.specs.List.{AllZip}
use Rattle.std.proofs.lemmas.Int.{ints}
use Rattle.qm_numbers.proofs.Bits.{kept_32, kept_64, negated_64}
use Rattle.qm_numbers.proofs.IntegerProducts.{linear}
use Rattle.qm_numbers.proofs.Kept.{kept, fits_64}
use Rattle.qm_numbers.proofs.Signs.{abs_neg, abs_difference, zero_beside_positive}
use Rattle.qm_space.specs.Bounds.{normal_bound, cube_distance_bound}
use Rattle.qm_space.specs.Point.{AreThousandths}
use Rattle.qm_space.specs.Plane.{Plane, value, IsOn}
use Rattle.qm_space.specs.Multiple.{IsPositiveMultiple}
use Rattle.qm_space.specs.Reduced.{IsReduced}
use Rattle.qm_space.specs.Turned.{turned}
use Rattle.qm_space.specs.Cuboid.{Cuboid, least_value}
use Rattle.qm_space.proofs.CoordinateSizes.{thousandths_in_closed_cube}
use Rattle.qm_space.proofs.CubeDistances.{cube_distance_small}
use Rattle.qm_space.proofs.Multiples.{multiple_value}
use Rattle.qm_space.proofs.ReducedPlanes.{same_plane, flipped_twice}
use Rattle.qm_space.proofs.SpannedPlanes.{spanned_holds}
use Rattle.qm_space.proofs.TurnedPlanes.{turned_on}
use Rattle.qm_mapfile.specs.declared.face.Face.{Face}
use Rattle.qm_mapfile.specs.Face.{face_point, face_outward, face_plane, HasPlane}
use Rattle.qm_grammar.specs.Valid.{IsValidFace}
use Rattle.qm_blocking.specs.Moved.{least_over, moved_by}
use Rattle.qm_blocking.specs.MovedSolids.{moved_side}
use Rattle.qm_blocking.proofs.MovedPlanes.{moved_multiples}
use Rattle.qm_brush.specs.inner.Entered.{turned_outward}
use Rattle.qm_brush.proofs.AddedBrushes.{coordinates_at, face_through, outward_multiples}

-- ---- how near the plane of a face is

-- it holds the second of the points
face_on : (face : Face) → All AreThousandths face.points → HasPlane face → IsOn (face_plane face).0 (face_point face 1)
face_on face coordinates plane =
    let through = face_through face coordinates plane in
    let m = through.multiple in
    let outward : Plane = turned (face_plane face).1 (face_plane face).0 in
    let x = face_point face 1 in
    let times = sym (multiple_value (face_outward face) outward x m) ∙ spanned_holds (face_point face 0) x (face_point face 2) in
    (turned_on (face_plane face).1 (face_plane face).0 x).0 (zero_beside_positive m.factor (value outward x) m.positive times)

pub face_near : (face : Face) → All AreThousandths face.points → HasPlane face → unsigned_abs (face_plane face).0.d ≤ cube_distance_bound
face_near face coordinates plane =
    let reduced = (face_through face coordinates plane).is_reduced in
    cube_distance_small (face_plane face).0 (face_point face 1)
    (thousandths_in_closed_cube (get_or face.points 1 []) (coordinates_at face.points 1 coordinates))
    (face_on face coordinates plane)
    (record { x = reduced.nx_small; y = reduced.ny_small; z = reduced.nz_small })

-- ---- planes that are turned

turned_twice : (side : Bool) (h : Plane) → turned side (turned side h) ≡ h
turned_twice true h = refl
turned_twice false h = flipped_twice h

-- the moved plane, turned outward again
pub moved_outward : (box : Cuboid) (face : Face) → turned_outward (moved_side box) face ≡ moved_by box (turned_outward face_plane face)
moved_outward box face = turned_twice (face_plane face).1 (moved_by box (turned_outward face_plane face))

moved_outwards : (box : Cuboid) (faces : List Face) → map (turned_outward (moved_side box)) faces ≡ map (moved_by box) (map (turned_outward face_plane) faces)
moved_outwards box [] = refl
moved_outwards box (face ∷ faces) = λ i. moved_outward box face i ∷ moved_outwards box faces i

-- the planes of valid faces, as the text gives them and moved, are positive multiples of those in lowest terms
pub moved_outward_multiples : (box : Cuboid) (faces : List Face) → All IsValidFace faces → AllZip IsPositiveMultiple (map (moved_by box) (map face_outward faces)) (map (turned_outward (moved_side box)) faces)
moved_outward_multiples box faces valid =
    subst (λ (planes : List Plane). AllZip IsPositiveMultiple (map (moved_by box) (map face_outward faces)) planes) (sym (moved_outwards box faces))
    (moved_multiples box (map face_outward faces) (map (turned_outward face_plane) faces) (outward_multiples faces valid))

-- ---- numbers, as the code keeps them

pub least_small : (box : Cuboid) (h : Plane) → unsigned_abs (least_over box h) ≤ 3 * 2 ^ 32 → unsigned_abs h.d ≤ cube_distance_bound → unsigned_abs (least_value h box) ≤ 2 ^ 44
unfolding least_value
least_small box h small near = let difference = abs_difference (least_over box h) h.d in omega (arith, difference, small, near)

pub negation_is : (r : ℤ) → unsigned_abs r ≤ 2 ^ 44 → kept w64 (pos 0 -ℤ kept w64 r) ≡ neg_ℤ r
negation_is r small = negated_64 r (2 ^ 44) small (lit≤ tt)

pub negation_fits : (r : ℤ) → unsigned_abs r ≤ 2 ^ 44 → FitsSigned w64 (pos 0 -ℤ kept w64 r)
negation_fits r small =
    let same : kept w64 r ≡ r = kept_64 r (2 ^ 44) small (lit≤ tt) in
    let apart : unsigned_abs (pos 0 -ℤ r) ≤ 2 ^ 44 = omega (arith, ints, small) in
    rw same (fits_64 (pos 0 -ℤ r) (2 ^ 44) apart (lit≤ tt))

least_negated : (box : Cuboid) (h : Plane) → neg_ℤ (least_value h box) ≡ h.d -ℤ least_over box h
unfolding least_value
least_negated box h = omega (arith, linear)

-- the plane that the code makes is the moved one
pub moved_fields : (box : Cuboid) (g h : Plane) (r : ℤ) → g ≡ h → IsReduced g → unsigned_abs (least_over box h) ≤ 3 * 2 ^ 32 → unsigned_abs h.d ≤ cube_distance_bound → r ≡ neg_ℤ (least_value h box) →
    record { nx = kept w32 g.nx; ny = kept w32 g.ny; nz = kept w32 g.nz; d = kept w64 r } ≡ moved_by box h
moved_fields box g h r same reduced small near is =
    same_plane (record { nx = kept w32 g.nx; ny = kept w32 g.ny; nz = kept w32 g.nz; d = kept w64 r }) (moved_by box h)
    (kept_32 g.nx normal_bound reduced.nx_small (lit≤ tt) ∙ ap (λ (p : Plane). p.nx) same)
    (kept_32 g.ny normal_bound reduced.ny_small (lit≤ tt) ∙ ap (λ (p : Plane). p.ny) same)
    (kept_32 g.nz normal_bound reduced.nz_small (lit≤ tt) ∙ ap (λ (p : Plane). p.nz) same)
    (kept_64 r (2 ^ 44) r_small (lit≤ tt) ∙ is ∙ least_negated box h)
  where
    r_small : unsigned_abs r ≤ 2 ^ 44
    r_small = subst (λ (z : ℤ). unsigned_abs z ≤ 2 ^ 44) (sym is) (rw (abs_neg (least_value h box)) (least_small box h small near))
