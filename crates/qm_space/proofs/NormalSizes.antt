-- Whether some component of a normal is beyond its bound.
use Rattle.std.proofs.Common.{ℕ, ◌≤◌, Bool, true, false, unsigned_abs, arith, ⊎_elim}
use Rattle.std.proofs.lemmas.Bool.{cases_lt}
use Rattle.qm_space.specs.Bounds.{normal_bound}
use Rattle.qm_space.specs.Plane.{Plane, flipped}
use Rattle.qm_space.specs.Reduced.{HasNormalUpTo, HasSmallNormal, HasLargeNormal, large_x, large_y, large_z}
use Rattle.qm_space.specs.Turned.{turned}
use Rattle.qm_space.specs.ThreePoints.{common_factor, reduced}
use Rattle.qm_numbers.proofs.Kept.{quotient_small}
use Rattle.qm_numbers.proofs.Signs.{abs_neg}

-- one is, or none is
pub by_normal_size : {P : Type 0} (h : Plane) → (HasSmallNormal h → P) → (HasLargeNormal h → P) → P
by_normal_size h small large =
    ⊎_elim (λ x. large (large_x x)) (λ x.
    ⊎_elim (λ y. large (large_y y)) (λ y.
    ⊎_elim (λ z. large (large_z z)) (λ z. small (record { x = x; y = y; z = z }))
    (cases_lt normal_bound (unsigned_abs h.nz))) (cases_lt normal_bound (unsigned_abs h.ny))) (cases_lt normal_bound (unsigned_abs h.nx))

pub large_not_small : (h : Plane) → HasLargeNormal h → HasSmallNormal h → ⊥
large_not_small h (large_x beyond) small = let x = small.x in absurd (omega arith)
large_not_small h (large_y beyond) small = let y = small.y in absurd (omega arith)
large_not_small h (large_z beyond) small = let z = small.z in absurd (omega arith)

-- a lesser bound
pub normal_up_to_more : (m n : ℕ) (h : Plane) → m ≤ n → HasNormalUpTo m h → HasNormalUpTo n h
normal_up_to_more m n h less small = let x = small.x in let y = small.y in let z = small.z in record { x = omega arith; y = omega arith; z = omega arith }

-- the same in lowest terms
pub reduced_up_to : (n : ℕ) (h : Plane) → HasNormalUpTo n h → HasNormalUpTo n (reduced h)
unfolding reduced
reduced_up_to n h small = let k = common_factor h in record {
  x = let l = small.x in let q = quotient_small h.nx k in omega arith;
  y = let l = small.y in let q = quotient_small h.ny k in omega arith;
  z = let l = small.z in let q = quotient_small h.nz k in omega arith;
}

-- the same with the sides exchanged
pub flipped_up_to : (n : ℕ) (h : Plane) → HasNormalUpTo n h → HasNormalUpTo n (flipped h)
flipped_up_to n h small = record {
  x = let l = small.x in let e = abs_neg h.nx in omega arith;
  y = let l = small.y in let e = abs_neg h.ny in omega arith;
  z = let l = small.z in let e = abs_neg h.nz in omega arith;
}

pub turned_small : (side : Bool) (h : Plane) → HasSmallNormal h → HasSmallNormal (turned side h)
turned_small true h small = small
turned_small false h small = flipped_up_to normal_bound h small

pub flipped_large : (h : Plane) → HasLargeNormal h → HasLargeNormal (flipped h)
flipped_large h (large_x beyond) = large_x (let e = abs_neg h.nx in omega arith)
flipped_large h (large_y beyond) = large_y (let e = abs_neg h.ny in omega arith)
flipped_large h (large_z beyond) = large_z (let e = abs_neg h.nz in omega arith)

pub turned_large : (side : Bool) (h : Plane) → HasLargeNormal h → HasLargeNormal (turned side h)
turned_large true h large = large
turned_large false h large = flipped_large h large
