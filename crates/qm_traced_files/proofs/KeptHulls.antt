-- A hull that is read in a section of a compiled file is the map's hull for its box.
use Rattle.std.proofs.Common.{◌≡◌, ◌≤◌, ℕ, zero, suc, Bool, true, false, List, ◌∷◌, ◌++◌, Option, Some, None, refl, ◌∙◌, subst, arith}
use Rattle.qm_space.specs.Bounds.{world_extent}
use Rattle.qm_mapfile.specs.declared.entity.MapFile.{MapFile}
use Rattle.qm_formats.specs.TreeFile.{Section, TreeFile}
use Rattle.qm_plain.specs.PlainFile.{ArePlainBytes}
use Rattle.qm_hull_trees.specs.HullBoxes.{hull_box}
use Rattle.qm_hull_trees.specs.Hull.{IsHull}
use Rattle.qm_answers.specs.declared.decoded_section.DecodedSection.{DecodedSection}
use Rattle.qm_answers.specs.declared.decoded_section.DecodedSection.TheVariants.{Missing, Known}
use Rattle.qm_answers.specs.DecodedSections.{IsOnlyOne, section_bytes, decoded_by, kind_of_hull, plain_answer, decoded_hull}
use Rattle.qm_answers.proofs.OnlyContents.{one_plain, known_content}
use Rattle.qm_commands.specs.declared.options.Options.{Options}
use Rattle.qm_statement.specs.AskedSections.{IsHullSection, AreHullsAsAsked, AreSectionsAsked}
use Rattle.qm_statement.proofs.SectionsOfKinds.{past_models, past_faces}

-- a section as a plain file of the world's cube
abbrev decoded_plain : Option (List ℕ) → DecodedSection TreeFile
decoded_plain bytes = decoded_by (λ b. (plain_answer world_extent b).0) bytes

few_kinds : (hull : ℕ) → kind_of_hull hull ≤ 2
few_kinds zero = omega arith
few_kinds (suc zero) = omega arith
few_kinds (suc (suc n)) = omega arith

module _ (map : MapFile) where
  -- the plain file whose bytes a hull has is that hull
  hull_of_bytes : (hull : ℕ) (section : Section) (found : TreeFile) → IsHullSection map hull section → ArePlainBytes world_extent section.bytes found → IsHull map (hull_box hull) found
  hull_of_bytes hull section found is plain =
      let own : ArePlainBytes world_extent section.bytes is.file = record { is_plain = is.is_hull.is_plain; is_valid = is.is_hull.is_valid; bytes_are = is.bytes_are.exactly; fits = plain.fits } in
      subst (IsHull map (hull_box hull)) (one_plain world_extent section.bytes is.file found own plain) is.is_hull

  hull_of_section : (hull : ℕ) (section : Section) (bytes : Option (List ℕ)) (found : TreeFile) → IsHullSection map hull section → bytes ≡ Some section.bytes → decoded_plain bytes ≡ Known found → IsHull map (hull_box hull) found
  hull_of_section hull section bytes found is there decoded =
      let answer = plain_answer world_extent section.bytes in
      let known = known_content answer.0 found (subst (λ (b : Option (List ℕ)). decoded_plain b ≡ Known found) there decoded) in
      hull_of_bytes hull section found is (subst (IsOnlyOne (ArePlainBytes world_extent section.bytes)) known answer.1)

  module _ (first second : Section) (rest : List Section) (is_first : IsHullSection map 1 first) (is_second : IsHullSection map 2 second) (found : TreeFile) where
    first_there : section_bytes (first ∷ second ∷ rest) 1 ≡ Some first.bytes
    first_there = rw is_first.kind_is refl

    second_there : section_bytes (first ∷ second ∷ rest) 2 ≡ Some second.bytes
    second_there = rw (is_first.kind_is, is_second.kind_is) refl

    of_both : (hull : ℕ) → decoded_plain (section_bytes (first ∷ second ∷ rest) (kind_of_hull hull)) ≡ Known found → IsHull map (hull_box hull) found
    of_both zero decoded = hull_of_section 2 second (section_bytes (first ∷ second ∷ rest) 2) found is_second second_there decoded
    of_both (suc zero) decoded = hull_of_section 1 first (section_bytes (first ∷ second ∷ rest) 1) found is_first first_there decoded
    of_both (suc (suc n)) decoded = hull_of_section 2 second (section_bytes (first ∷ second ∷ rest) 2) found is_second second_there decoded

  -- behind both hulls stand others, of which none has the kind of a hull
  module _ (later : List Section) (no_hull : (hull : ℕ) → section_bytes later (kind_of_hull hull) ≡ None) where
    as_asked : (asked : Bool) (hulls : List Section) (hull : ℕ) (found : TreeFile) → AreHullsAsAsked asked map hulls → decoded_plain (section_bytes (hulls ++ later) (kind_of_hull hull)) ≡ Known found → IsHull map (hull_box hull) found
    as_asked true hulls hull found both decoded =
        of_both both.first both.second later both.is_first both.is_second found hull
        (subst (λ (s : List Section). decoded_plain (section_bytes (s ++ later) (kind_of_hull hull)) ≡ Known found) both.are_both decoded)
    as_asked false hulls hull found no_hulls decoded = absurd (
        let beside = subst (λ (s : List Section). decoded_plain (section_bytes (s ++ later) (kind_of_hull hull)) ≡ Known found) no_hulls decoded in
        let missing : ◌≡◌ {A = DecodedSection TreeFile} Missing (Known found) = subst (λ (b : Option (List ℕ)). decoded_plain b ≡ Known found) (no_hull hull) beside in cc
        )

  -- no section of models or of faces has the kind of a hull
  no_later : (options : Options) (file : TreeFile) (asked : AreSectionsAsked map file.tree options file.sections) (hull : ℕ) → section_bytes (asked.models ++ asked.faces) (kind_of_hull hull) ≡ None
  no_later options file asked hull =
      past_models map asked.faces (kind_of_hull hull) file.tree options.models asked.models (λ same. omega (arith, few_kinds hull, same)) asked.are_models
      ∙ past_faces map file.tree (kind_of_hull hull) options.faces asked.faces (λ same. omega (arith, few_kinds hull, same)) asked.are_faces

  pub kept_hull : (options : Options) (file : TreeFile) (hull : ℕ) (found : TreeFile) → AreSectionsAsked map file.tree options file.sections → file.bound ≡ world_extent → decoded_hull file hull ≡ Known found → IsHull map (hull_box hull) found
  kept_hull options file hull found asked bound decoded =
      let here = subst (λ (n : ℕ). decoded_by (λ b. (plain_answer n b).0) (section_bytes file.sections (kind_of_hull hull)) ≡ Known found) bound decoded in
      as_asked (asked.models ++ asked.faces) (no_later options file asked) options.hulls asked.hulls hull found asked.are_hulls
      (subst (λ (s : List Section). decoded_plain (section_bytes s (kind_of_hull hull)) ≡ Known found) asked.are_all here)
