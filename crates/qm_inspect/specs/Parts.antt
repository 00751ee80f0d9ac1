use Rattle.std.specs.Prelude.{◌≡◌, ◌↔◌, ℕ, zero, suc, Bool, IsTrue}
use Rattle.qm_spans.specs.SegmentTrace.{FitsTraces}
use Rattle.qm_formats.specs.TreeFile.{TreeFile}
use Rattle.qm_answers.specs.declared.decoded_section.DecodedSection.{DecodedSection}
use Rattle.qm_answers.specs.declared.decoded_section.DecodedSection.TheVariants.{Missing, Bad, Known}
use Rattle.qm_answers.specs.DecodedSections.{decoded_hull, decoded_models, decoded_faces, AscendByEntity}
use Rattle.qm_inspect.specs.declared.parts.Parts.{Parts}

-- what holds of the content of a section, where it is known
abbrev pub IfKnown : {X : Type 0} → DecodedSection X → (X → Type 0) → Type 0
IfKnown Missing Holds = Unit {0}
IfKnown Bad Holds = Unit {0}
IfKnown (Known content) Holds = Holds content

-- whether segments can be traced through a hull that is known
abbrev pub FitsIfKnown : DecodedSection TreeFile → Bool → Type 0
FitsIfKnown section fits = IfKnown section (λ hull. IsTrue fits ↔ FitsTraces hull.tree)

-- what the sections of a file are decoded to, and through which of its trees segments can be traced
pub record ArePartsOf (file : TreeFile) (parts : Parts) : Type 0 where
  pub fits : IsTrue parts.fits ↔ FitsTraces file.tree
  pub first_hull : parts.first_hull ≡ decoded_hull file 1
  pub first_fits : FitsIfKnown parts.first_hull parts.first_fits
  pub second_hull : parts.second_hull ≡ decoded_hull file 2
  pub second_fits : FitsIfKnown parts.second_hull parts.second_fits
  pub models : parts.models ≡ decoded_models file
  pub models_ascend : IfKnown parts.models (AscendByEntity 0)
  pub faces : parts.faces ≡ decoded_faces file

-- the hull of a number
abbrev pub hull_in : Parts → ℕ → DecodedSection TreeFile
hull_in parts (suc zero) = parts.first_hull
hull_in parts _ = parts.second_hull

-- whether segments can be traced through it, where it is known
abbrev pub fits_in : Parts → ℕ → Bool
fits_in parts (suc zero) = parts.first_fits
fits_in parts _ = parts.second_fits
