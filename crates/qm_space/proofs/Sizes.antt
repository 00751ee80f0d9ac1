-- How large values and meeting points are: each fits into 128 bits.
use Rattle.std.proofs.Common.{ℕ, ◌+◌, ◌*◌, ◌≤◌, ℤ, ◌+ℤ◌, ◌-ℤ◌, ◌*ℤ◌, arith, unsigned_abs}
use Rattle.qm_space.specs.Bounds.{normal_bound, distance_bound, meet_bound, meet_weight_bound, meet_value_bound}
use Rattle.qm_space.specs.Point.{Point}
use Rattle.qm_space.specs.Plane.{Plane, value}
use Rattle.qm_space.specs.Determinant.{determinant}
use Rattle.qm_space.specs.Meet.{meet, HasMeetSizes}
use Rattle.qm_space.specs.Reduced.{IsReduced}
use Rattle.qm_numbers.proofs.Signs.{abs_sum, abs_difference, abs_product_bound}

-- a determinant whose columns have the bounds l, m and n
pub determinant_small : (a1 a2 a3 b1 b2 b3 c1 c2 c3 : ℤ) (l m n : ℕ) →
    unsigned_abs a1 ≤ l → unsigned_abs a2 ≤ m → unsigned_abs a3 ≤ n →
    unsigned_abs b1 ≤ l → unsigned_abs b2 ≤ m → unsigned_abs b3 ≤ n →
    unsigned_abs c1 ≤ l → unsigned_abs c2 ≤ m → unsigned_abs c3 ≤ n →
    unsigned_abs (determinant a1 a2 a3 b1 b2 b3 c1 c2 c3) ≤ 6 * (l * m * n)
unfolding determinant
determinant_small a1 a2 a3 b1 b2 b3 c1 c2 c3 l m n ka1 ka2 ka3 kb1 kb2 kb3 kc1 kc2 kc3 =
    let p = two b2 b3 c2 c3 m n kb2 kb3 kc2 kc3 in
    let q = two b1 b3 c1 c3 l n kb1 kb3 kc1 kc3 in
    let r = two b1 b2 c1 c2 l m kb1 kb2 kc1 kc2 in
    let x = abs_product_bound a1 ((b2 *ℤ c3) -ℤ (b3 *ℤ c2)) l (2 * (m * n)) ka1 p in
    let y = abs_product_bound a2 ((b1 *ℤ c3) -ℤ (b3 *ℤ c1)) m (2 * (l * n)) ka2 q in
    let z = abs_product_bound a3 ((b1 *ℤ c2) -ℤ (b2 *ℤ c1)) n (2 * (l * m)) ka3 r in
    let s = abs_difference (a1 *ℤ ((b2 *ℤ c3) -ℤ (b3 *ℤ c2))) (a2 *ℤ ((b1 *ℤ c3) -ℤ (b3 *ℤ c1))) in
    let t = abs_sum ((a1 *ℤ ((b2 *ℤ c3) -ℤ (b3 *ℤ c2))) -ℤ (a2 *ℤ ((b1 *ℤ c3) -ℤ (b3 *ℤ c1)))) (a3 *ℤ ((b1 *ℤ c2) -ℤ (b2 *ℤ c1))) in
    omega arith
  where
    two : (b d c e : ℤ) (m n : ℕ) → unsigned_abs b ≤ m → unsigned_abs d ≤ n → unsigned_abs c ≤ m → unsigned_abs e ≤ n → unsigned_abs ((b *ℤ e) -ℤ (d *ℤ c)) ≤ 2 * (m * n)
    two b d c e m n h i j k =
        let s = abs_difference (b *ℤ e) (d *ℤ c) in
        let x = abs_product_bound b e m n h k in
        let y = abs_product_bound d c n m i j in
        omega arith

-- the point in which three planes of the bounded numbers meet
pub meet_sizes : (a b c : Plane) → IsReduced a → IsReduced b → IsReduced c → HasMeetSizes (meet a b c)
unfolding meet
meet_sizes a b c h k l =
    let x = determinant_small a.d a.ny a.nz b.d b.ny b.nz c.d c.ny c.nz distance_bound normal_bound normal_bound h.d_small h.ny_small h.nz_small k.d_small k.ny_small k.nz_small l.d_small l.ny_small l.nz_small in
    let y = determinant_small a.nx a.d a.nz b.nx b.d b.nz c.nx c.d c.nz normal_bound distance_bound normal_bound h.nx_small h.d_small h.nz_small k.nx_small k.d_small k.nz_small l.nx_small l.d_small l.nz_small in
    let z = determinant_small a.nx a.ny a.d b.nx b.ny b.d c.nx c.ny c.d normal_bound normal_bound distance_bound h.nx_small h.ny_small h.d_small k.nx_small k.ny_small k.d_small l.nx_small l.ny_small l.d_small in
    let w = determinant_small a.nx a.ny a.nz b.nx b.ny b.nz c.nx c.ny c.nz normal_bound normal_bound normal_bound h.nx_small h.ny_small h.nz_small k.nx_small k.ny_small k.nz_small l.nx_small l.ny_small l.nz_small in
    record { x_small = x; y_small = y; z_small = z; w_small = w }

-- a reduced plane's value at a point whose first three numbers have the bound m, and whose w has the bound n
pub value_small : (h : Plane) (p : Point) (m n : ℕ) → IsReduced h → unsigned_abs p.x ≤ m → unsigned_abs p.y ≤ m → unsigned_abs p.z ≤ m → unsigned_abs p.w ≤ n → unsigned_abs (value h p) ≤ 3 * normal_bound * m + distance_bound * n
unfolding value
value_small h p m n r kx ky kz kw =
    let x = abs_product_bound h.nx p.x normal_bound m r.nx_small kx in
    let y = abs_product_bound h.ny p.y normal_bound m r.ny_small ky in
    let z = abs_product_bound h.nz p.z normal_bound m r.nz_small kz in
    let w = abs_product_bound h.d p.w distance_bound n r.d_small kw in
    let s = abs_sum (h.nx *ℤ p.x) (h.ny *ℤ p.y) in
    let t = abs_sum ((h.nx *ℤ p.x) +ℤ (h.ny *ℤ p.y)) (h.nz *ℤ p.z) in
    let u = abs_difference (((h.nx *ℤ p.x) +ℤ (h.ny *ℤ p.y)) +ℤ (h.nz *ℤ p.z)) (h.d *ℤ p.w) in
    omega arith

-- at the point in which three reduced planes meet
pub value_at_meet_small : (h a b c : Plane) → IsReduced h → IsReduced a → IsReduced b → IsReduced c → unsigned_abs (value h (meet a b c)) ≤ meet_value_bound
value_at_meet_small h a b c r i j k =
    let s = meet_sizes a b c i j k in
    let v = value_small h (meet a b c) meet_bound meet_weight_bound r s.x_small s.y_small s.z_small s.w_small in
    omega arith
