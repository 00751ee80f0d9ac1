-- The meeting point by cross products of the normals.
use Rattle.std.proofs.Common.{◌≡◌, ◌≤◌, ◌*◌, ◌^◌, ◌∙◌, [], ℤ, w64, lit≤, refl, unsigned_abs}
use mir.Syntax.{w128}
use Rattle.std.proofs.lemmas.Int.{to_z-of_z}
use Rattle.qm_space.specs.Point.{Point}
use Rattle.qm_space.specs.Plane.{Plane}
use Rattle.qm_space.specs.Meet.{meet}
use Rattle.qm_space.specs.Determinant.{determinant}
use Rattle.qm_space.proofs.Planes.{same_point}
use Rattle.qm_numbers.proofs.Ring.{◌⊕◌, ◌⊗◌, solved}
use Rattle.qm_space.proofs.PlaneSymbols.{plane_from, numbers_of_plane, symbol_meet, symbol_along}
use Rattle.qm_geom.specs.Vectors.{cross_vector, dot, normal_vector, HasSmallComponents}
use Rattle.qm_geom.specs.declared.vector.Vector.{Vector}
use Rattle.qm_numbers.proofs.Kept.{kept, fits_64, fits_128}
use Rattle.qm_geom.proofs.Vectors.{vector, point, vector_kept, small_vector, HasSmallComponents-more}

-- the cross products of the normals in pairs, by the distances, over the triple product
abbrev by_crosses : Plane → Plane → Plane → Point
by_crosses a b c =
    let u = cross_vector (normal_vector b) (normal_vector c) in
    let v = cross_vector (normal_vector c) (normal_vector a) in
    let w = cross_vector (normal_vector a) (normal_vector b) in
    let d = vector a.d b.d c.d in
    record {
      x = dot d (vector u.x v.x w.x);
      y = dot d (vector u.y v.y w.y);
      z = dot d (vector u.z v.z w.z);
      w = dot (normal_vector a) u;
    }

by_crosses_is : (a b c : Plane) → by_crosses a b c ≡ meet a b c
unfolding meet determinant cross_vector dot
by_crosses_is a b c =
    let f = plane_from 0 in let g = plane_from 4 in let h = plane_from 8 in
    let zs = numbers_of_plane a (numbers_of_plane b (numbers_of_plane c [])) in
    let u = symbol_along g h in let v = symbol_along h f in let w = symbol_along f g in
    let m = symbol_meet f g h in
    same_point (by_crosses a b c) (meet a b c)
    (solved zs (f.d ⊗ u.x ⊕ g.d ⊗ v.x ⊕ h.d ⊗ w.x) m.x tt)
    (solved zs (f.d ⊗ u.y ⊕ g.d ⊗ v.y ⊕ h.d ⊗ w.y) m.y tt)
    (solved zs (f.d ⊗ u.z ⊕ g.d ⊗ v.z ⊕ h.d ⊗ w.z) m.z tt)
    (solved zs (f.nx ⊗ u.x ⊕ f.ny ⊗ u.y ⊕ f.nz ⊗ u.z) m.w tt)

-- ---- as the code computes it, from distances da, db and dc, crosses u, v and w, and the first normal n

pub distances_small : (da db dc : ℤ) → unsigned_abs da ≤ 2 ^ 44 → unsigned_abs db ≤ 2 ^ 44 → unsigned_abs dc ≤ 2 ^ 44 → HasSmallComponents (vector (kept w64 da) (kept w64 db) (kept w64 dc)) (2 ^ 53)
distances_small da db dc a b c =
    HasSmallComponents-more _ (2 ^ 44) (2 ^ 53) (small_vector da db dc (2 ^ 44) (lit≤ tt) a b c) (lit≤ tt)

one_axis : (da db dc x y z r : ℤ) → unsigned_abs da ≤ 2 ^ 44 → unsigned_abs db ≤ 2 ^ 44 → unsigned_abs dc ≤ 2 ^ 44 → unsigned_abs x ≤ 2 ^ 53 → unsigned_abs y ≤ 2 ^ 53 → unsigned_abs z ≤ 2 ^ 53 → r ≡ dot (vector (kept w64 da) (kept w64 db) (kept w64 dc)) (vector (kept w64 x) (kept w64 y) (kept w64 z)) → unsigned_abs r ≤ 3 * 2 ^ 116 → kept w128 r ≡ dot (vector da db dc) (vector x y z)
one_axis da db dc x y z r a b c k l m e s =
    to_z-of_z w128 r (fits_128 r (3 * 2 ^ 116) s (lit≤ tt))
    ∙ (e ∙ rw (vector_kept da db dc (fits_64 da _ a (lit≤ tt)) (fits_64 db _ b (lit≤ tt)) (fits_64 dc _ c (lit≤ tt)), vector_kept x y z (fits_64 x _ k (lit≤ tt)) (fits_64 y _ l (lit≤ tt)) (fits_64 z _ m (lit≤ tt))) refl)

-- what the code's four dot products are given, and what they answer
pub record AreMeetingParts (a b c : Plane) (da db dc : ℤ) (u v w n : Vector) : Type 0 where
  pub of_a : da ≡ a.d
  pub of_b : db ≡ b.d
  pub of_c : dc ≡ c.d
  pub across_a : u ≡ cross_vector (normal_vector b) (normal_vector c)
  pub across_b : v ≡ cross_vector (normal_vector c) (normal_vector a)
  pub across_c : w ≡ cross_vector (normal_vector a) (normal_vector b)
  pub normal : n ≡ normal_vector a
  pub a_small : unsigned_abs da ≤ 2 ^ 44
  pub b_small : unsigned_abs db ≤ 2 ^ 44
  pub c_small : unsigned_abs dc ≤ 2 ^ 44
  pub u_small : HasSmallComponents u (2 ^ 53)
  pub v_small : HasSmallComponents v (2 ^ 53)
  pub w_small : HasSmallComponents w (2 ^ 53)

pub record AreMeetingSums (da db dc : ℤ) (u v w n : Vector) (r s t q : ℤ) : Type 0 where
  pub of_x : r ≡ dot (vector (kept w64 da) (kept w64 db) (kept w64 dc)) (vector (kept w64 u.x) (kept w64 v.x) (kept w64 w.x))
  pub of_y : s ≡ dot (vector (kept w64 da) (kept w64 db) (kept w64 dc)) (vector (kept w64 u.y) (kept w64 v.y) (kept w64 w.y))
  pub of_z : t ≡ dot (vector (kept w64 da) (kept w64 db) (kept w64 dc)) (vector (kept w64 u.z) (kept w64 v.z) (kept w64 w.z))
  pub of_w : q ≡ dot n u
  pub x_small : unsigned_abs r ≤ 3 * 2 ^ 116
  pub y_small : unsigned_abs s ≤ 3 * 2 ^ 116
  pub z_small : unsigned_abs t ≤ 3 * 2 ^ 116
  pub w_small : unsigned_abs q ≤ 3 * 2 ^ 116

pub meeting_is : (a b c : Plane) (da db dc : ℤ) (u v w n : Vector) (r s t q : ℤ) → AreMeetingParts a b c da db dc u v w n → AreMeetingSums da db dc u v w n r s t q → point (kept w128 r) (kept w128 s) (kept w128 t) (kept w128 q) ≡ meet a b c
meeting_is a b c da db dc u v w n r s t q p m =
    same_point (point (kept w128 r) (kept w128 s) (kept w128 t) (kept w128 q)) (by_crosses a b c)
    (one_axis da db dc u.x v.x w.x r p.a_small p.b_small p.c_small p.u_small.x_small p.v_small.x_small p.w_small.x_small m.of_x m.x_small ∙ rw (p.of_a, p.of_b, p.of_c, p.across_a, p.across_b, p.across_c) refl)
    (one_axis da db dc u.y v.y w.y s p.a_small p.b_small p.c_small p.u_small.y_small p.v_small.y_small p.w_small.y_small m.of_y m.y_small ∙ rw (p.of_a, p.of_b, p.of_c, p.across_a, p.across_b, p.across_c) refl)
    (one_axis da db dc u.z v.z w.z t p.a_small p.b_small p.c_small p.u_small.z_small p.v_small.z_small p.w_small.z_small m.of_z m.z_small ∙ rw (p.of_a, p.of_b, p.of_c, p.across_a, p.across_b, p.across_c) refl)
    (to_z-of_z w128 q (fits_128 q (3 * 2 ^ 116) m.w_small (lit≤ tt)) ∙ (m.of_w ∙ rw (p.across_a, p.normal) refl))
    ∙ by_crosses_is a b c
