-- The boxes of the hulls move: each has the point that it is set at, and does not reach far.
use Rattle.std.proofs.Common.{◌≡◌, ℕ, zero, suc, refl, arith}
use Rattle.std.proofs.lemmas.Int.{ints}
use Rattle.qm_blocking.specs.Moved.{IsMovingBox}
use Rattle.qm_hull_trees.specs.HullBoxes.{hull_box}

first_moves : IsMovingBox (hull_box 1)
first_moves = record {
  has_origin = record {
    x = record { low = omega (arith, ints); high = omega (arith, ints) };
    y = record { low = omega (arith, ints); high = omega (arith, ints) };
    z = record { low = omega (arith, ints); high = omega (arith, ints) };
  };
  short = record {
    x = record { low = omega (arith, ints); high = omega (arith, ints) };
    y = record { low = omega (arith, ints); high = omega (arith, ints) };
    z = record { low = omega (arith, ints); high = omega (arith, ints) };
  };
}

other_moves : IsMovingBox (hull_box 2)
other_moves = record {
  has_origin = record {
    x = record { low = omega (arith, ints); high = omega (arith, ints) };
    y = record { low = omega (arith, ints); high = omega (arith, ints) };
    z = record { low = omega (arith, ints); high = omega (arith, ints) };
  };
  short = record {
    x = record { low = omega (arith, ints); high = omega (arith, ints) };
    y = record { low = omega (arith, ints); high = omega (arith, ints) };
    z = record { low = omega (arith, ints); high = omega (arith, ints) };
  };
}

pub hull_box_moves : (n : ℕ) → IsMovingBox (hull_box n)
hull_box_moves zero = other_moves
hull_box_moves (suc zero) = first_moves
hull_box_moves (suc (suc n)) = other_moves

-- a number other than 1 has the box of 2
pub other_box : (n : ℕ) → (n ≡ 1 → ⊥) → hull_box n ≡ hull_box 2
other_box zero not = refl
other_box (suc zero) not = absurd (not refl)
other_box (suc (suc n)) not = refl
