-- Worked rows: which leaves ascend below the number of leaves, and which six numbers are a box.
use Rattle.std.proofs.Common.{◌≡◌, pos, neg_ℤ, true, false, [], ◌∷◌, refl}
use Rattle.qm_space.specs.Cuboid.{Cuboid, Stretch}
use Rattle.qm_model_layout.specs.ModelLayout.{ascend_from, is_box}

-- no leaf comes twice, and each is below the limit
ascending_row : ascend_from 0 3 (0 ∷ 2 ∷ []) ≡ true
unfolding ascend_from
ascending_row = refl

same_leaf_row : ascend_from 0 3 (2 ∷ 2 ∷ []) ≡ false
unfolding ascend_from
same_leaf_row = refl

limit_row : ascend_from 0 3 (0 ∷ 3 ∷ []) ≡ false
unfolding ascend_from
limit_row = refl

abbrev box_of : Stretch → Cuboid
box_of stretch = record { x = record { low = pos 0; high = pos 8 }; y = stretch; z = record { low = neg_ℤ (pos 8); high = pos 0 } }

-- a box may be flat, but no low end is above its high end
flat_row : is_box (box_of (record { low = pos 4; high = pos 4 })) ≡ true
unfolding is_box
flat_row = refl

turned_row : is_box (box_of (record { low = pos 4; high = pos 3 })) ≡ false
unfolding is_box
turned_row = refl
