-- The bytes of a kind among the sections that are asked for: those of other kinds are passed.
use Rattle.std.proofs.Common.{◌≡◌, ◌≢◌, ◌≤◌, ℕ, Bool, cond, true, false, List, [], ◌∷◌, ◌++◌, Some, None, ap, ◌∙◌, arith}
use Rattle.std.proofs.lemmas.Bool.{ne_eqb}
use Rattle.qm_mapfile.specs.declared.entity.MapFile.{MapFile}
use Rattle.qm_partition.specs.Tree.{Tree}
use Rattle.qm_formats.specs.TreeFile.{Section}
use Rattle.qm_answers.specs.DecodedSections.{section_bytes, kind_of_models, kind_of_faces}
use Rattle.qm_statement.specs.AskedSections.{AreHullsAsAsked, AreModelsAsAsked, AreFacesAsAsked}

passed : (section : Section) (rest : List Section) (kind : ℕ) → section.kind ≢ kind → section_bytes (section ∷ rest) kind ≡ section_bytes rest kind
passed section rest kind other = ap (λ (same : Bool). cond same (Some section.bytes) (section_bytes rest kind)) (ne_eqb section.kind kind other)

module _ (map : MapFile) (rest : List Section) (kind : ℕ) where
  -- the hulls, where the kind is none of theirs
  pub past_hulls : (asked : Bool) (hulls : List Section) → kind_of_models ≤ kind → AreHullsAsAsked asked map hulls → section_bytes (hulls ++ rest) kind ≡ section_bytes rest kind
  past_hulls true hulls above both =
      ap (λ (s : List Section). section_bytes (s ++ rest) kind) both.are_both
      ∙ passed both.first (both.second ∷ rest) kind (λ same. omega (arith, above, both.is_first.kind_is, same))
      ∙ passed both.second rest kind (λ same. omega (arith, above, both.is_second.kind_is, same))
  past_hulls false hulls above none = ap (λ (s : List Section). section_bytes (s ++ rest) kind) none

  module _ (world : Tree) where
    -- the models
    pub past_models : (asked : Bool) (models : List Section) → kind ≢ kind_of_models → AreModelsAsAsked asked map world models → section_bytes (models ++ rest) kind ≡ section_bytes rest kind
    past_models true models other alone =
        ap (λ (s : List Section). section_bytes (s ++ rest) kind) alone.are_alone
        ∙ passed alone.section rest kind (λ same. other (omega (arith, alone.is_section.kind_is, same)))
    past_models false models other none = ap (λ (s : List Section). section_bytes (s ++ rest) kind) none

-- the faces, behind which there is none
pub past_faces : (map : MapFile) (world : Tree) (kind : ℕ) (asked : Bool) (faces : List Section) → kind ≢ kind_of_faces → AreFacesAsAsked asked map world faces → section_bytes faces kind ≡ None
past_faces map world kind true faces other alone =
    ap (λ (s : List Section). section_bytes s kind) alone.are_alone ∙ passed alone.section [] kind (λ same. other (omega (arith, alone.is_section.kind_is, same)))
past_faces map world kind false faces other none = ap (λ (s : List Section). section_bytes s kind) none
