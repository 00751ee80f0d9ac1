use Rattle.std.specs.Prelude.{ℕ, suc, List, [], ◌∷◌}
use Rattle.qm_solids.specs.Solid.{Solid}
use Rattle.qm_solids.specs.Holding.{IsFull}

-- a solid that is not full is flat
abbrev pub IsFlat : Solid → Type 0
IsFlat solid = IsFull solid → ⊥

-- of these solids so many are flat, and the others are full
pub data HasFlat : List Solid → ℕ → Type 0 where
  none : HasFlat [] 0
  one_full : {solid : Solid} {solids : List Solid} {n : ℕ} →
      IsFull solid → HasFlat solids n → HasFlat (solid ∷ solids) n
  one_flat : {solid : Solid} {solids : List Solid} {n : ℕ} →
      IsFlat solid → HasFlat solids n → HasFlat (solid ∷ solids) (suc n)
