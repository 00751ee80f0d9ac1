use Rattle.std.specs.Prelude.{◌≡◌, ◌⊎◌, List, Contains}
use Rattle.qm_contents.specs.declared.contents.Contents.{Contents}
use Rattle.qm_contents.specs.declared.contents.Contents.TheVariants.{Empty}
use Rattle.qm_contents.specs.Precedence.{IsAtMost}
use Rattle.qm_solids.specs.Solid.{Solid}

-- one of the solids has a property, this one
pub record IsOneThat (Has : Solid → Type 0) (solids : List Solid) (solid : Solid) : Type 0 where
  pub listed : Contains solids solid
  pub has : Has solid

-- these contents are empty, or those of a solid that has the property
abbrev pub AreGiven : (Solid → Type 0) → List Solid → Contents → Type 0
AreGiven Has solids contents =
    (contents ≡ Empty) ⊎ ((solid : Solid) × IsOneThat Has solids solid × (solid.contents ≡ contents))

-- the strongest contents of the solids that have a property, else empty
pub record AreStrongest (Has : Solid → Type 0) (solids : List Solid) (contents : Contents) : Type 0 where
  pub given : AreGiven Has solids contents
  pub strongest : (solid : Solid) → IsOneThat Has solids solid → IsAtMost solid.contents contents
