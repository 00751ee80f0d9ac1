use Rattle.std.specs.Prelude.{ℕ, zero, suc, pos, neg_ℤ}
use Rattle.qm_space.specs.Cuboid.{Cuboid}

-- The boxes of the hulls, each about the point at which it is set.

-- hull 1 is that of a player, and the other one that of what is larger
abbrev pub hull_box : ℕ → Cuboid
hull_box (suc zero) = record {
  x = record { low = neg_ℤ (pos 16); high = pos 16 };
  y = record { low = neg_ℤ (pos 16); high = pos 16 };
  z = record { low = neg_ℤ (pos 24); high = pos 32 };
}
hull_box _ = record {
  x = record { low = neg_ℤ (pos 32); high = pos 32 };
  y = record { low = neg_ℤ (pos 32); high = pos 32 };
  z = record { low = neg_ℤ (pos 24); high = pos 64 };
}
