-- Boxes that move, by their ends.
use Rattle.std.proofs.Common.{ℕ, w32, lit≤, ℤ, pos, ◌≤◌, List, length, slice_index_or, arith, unsigned_abs, subst, sym, inl, inr}
use Rattle.std.proofs.lemmas.Int.{ints}
use Rattle.std.proofs.lemmas.Bool.{cases_lt}
use Rattle.std.proofs.lemmas.List.{get_or_past}
use Rattle.qm_numbers.proofs.Bits.{kept_32}
use Rattle.qm_numbers.proofs.Kept.{kept}
use Rattle.qm_space.specs.Point.{IsCoordinate}
use Rattle.qm_space.proofs.CoordinateSizes.{coordinate_kept}
use Rattle.qm_blocking.specs.Moved.{IsMovingBox}
use Rattle.qm_blocking.specs.Boxes.{IsLowEnd, IsHighEnd, AreLowEnds, AreHighEnds, box_between}

-- an end of a box, be it one that is not there
low_at : (lo : List ℤ) → AreLowEnds lo → ((k : ℕ) → IsLowEnd (slice_index_or lo k (pos 0)))
low_at lo low k = elim (cases_lt k (length lo)) [
  | inl within ↦ low k (pos 0) within
  | inr past ↦ subst IsLowEnd (sym (get_or_past lo k (pos 0) past)) (record { low = omega (arith, ints); high = omega (arith, ints) })
]

high_at : (hi : List ℤ) → AreHighEnds hi → ((k : ℕ) → IsHighEnd (slice_index_or hi k (pos 0)))
high_at hi high k = elim (cases_lt k (length hi)) [
  | inl within ↦ high k (pos 0) within
  | inr past ↦ subst IsHighEnd (sym (get_or_past hi k (pos 0) past)) (record { low = omega (arith, ints); high = omega (arith, ints) })
]

low_coordinate : (c : ℤ) → IsLowEnd c → IsCoordinate c
low_coordinate c is = let low = is.low in let high = is.high in record { low = omega (arith, ints); high = omega (arith, ints) }

high_coordinate : (c : ℤ) → IsHighEnd c → IsCoordinate c
high_coordinate c is = let low = is.low in let high = is.high in record { low = omega (arith, ints); high = omega (arith, ints) }

low_small : (c : ℤ) → IsLowEnd c → unsigned_abs c ≤ 64
low_small c is = let low = is.low in let high = is.high in omega (arith, ints)

high_small : (c : ℤ) → IsHighEnd c → unsigned_abs c ≤ 64
high_small c is = let low = is.low in let high = is.high in omega (arith, ints)

-- as the code keeps them
pub low_in_cube : (c : ℤ) → IsLowEnd c → IsCoordinate (kept w32 c)
low_in_cube c is = coordinate_kept c (low_coordinate c is)

pub high_in_cube : (c : ℤ) → IsHighEnd c → IsCoordinate (kept w32 c)
high_in_cube c is = coordinate_kept c (high_coordinate c is)

pub low_kept : (lo : List ℤ) → AreLowEnds lo → (k : ℕ) → IsLowEnd (kept w32 (slice_index_or lo k (pos 0)))
low_kept lo low k = subst IsLowEnd (sym (kept_32 (slice_index_or lo k (pos 0)) 64 (low_small (slice_index_or lo k (pos 0)) (low_at lo low k)) (lit≤ tt))) (low_at lo low k)

-- a box between such ends moves
pub box_moves : (lo hi : List ℤ) → AreLowEnds lo → AreHighEnds hi → IsMovingBox (box_between lo hi)
box_moves lo hi low high = record {
  has_origin = record {
    x = record { low = (low_at lo low 0).high; high = (high_at hi high 0).low };
    y = record { low = (low_at lo low 1).high; high = (high_at hi high 1).low };
    z = record { low = (low_at lo low 2).high; high = (high_at hi high 2).low };
  };
  short = record {
    x = record { low = low_small _ (low_at lo low 0); high = high_small _ (high_at hi high 0) };
    y = record { low = low_small _ (low_at lo low 1); high = high_small _ (high_at hi high 1) };
    z = record { low = low_small _ (low_at lo low 2); high = high_small _ (high_at hi high 2) };
  };
}
