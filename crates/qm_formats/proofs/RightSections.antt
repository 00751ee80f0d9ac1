-- Which versions, bounds and sections can stand in a tree file.
use Rattle.std.proofs.Common.{◌≡◌, ◌<◌, ℕ, zero, suc, ◌+◌, ◌^◌, true, eqb, ltb, ◌&&◌, List, [], ◌∷◌, length, refl, sym, ap, subst, arith, inl, inr}
use Rattle.std.proofs.lemmas.Bool.{and_parts, and_from, or_cases, or_left, or_right, lt-ltb, ltb-true, eq-eqb, eqb-true}
use Rattle.std.proofs.lemmas.List.{nil_from_length}
use Rattle.qm_formats.specs.Layout.{right_each_after}
use Rattle.qm_formats.specs.Fields.{are_bytes, raw, unsigned, unwritten}
use Rattle.qm_formats.specs.TreeFile.{Section, TreeFile, small_bound, large_bound, IsFirstVersion, IsSecondVersion, IsOfVersion, IsSectionAbove, AreSectionsAbove}
use Rattle.qm_formats.specs.FileLayout.{is_version, is_bound, bound_layout, section_count_layout, section_head_layout, section_layout}
use Rattle.qm_formats.proofs.ExactFields.{are_bytes-from, bytes-are}

-- ---- versions

-- the version, the bound and the count of sections in a header, where they can stand there
pub record IsRightVersion (version bound sections : ℕ) : Type 0 where
  pub of_version : is_version version ≡ true
  pub of_bound : (bound_layout version).right bound ≡ true
  pub of_sections : (section_count_layout version).right sections ≡ true

first_of_right : (file : TreeFile) → file.version ≡ 1 → IsRightVersion file.version file.bound (length file.sections) → IsFirstVersion file
unfolding bound_layout section_count_layout unwritten
first_of_right file is right =
    let bound = subst (λ (version : ℕ). (bound_layout version).right file.bound ≡ true) is right.of_bound in
    let sections = subst (λ (version : ℕ). (section_count_layout version).right (length file.sections) ≡ true) is right.of_sections in
    record {
      version = is;
      bound = eqb-true file.bound small_bound bound;
      sections = nil_from_length file.sections (eqb-true (length file.sections) 0 sections);
    }

second_of_right : (file : TreeFile) → file.version ≡ 2 → IsRightVersion file.version file.bound (length file.sections) → IsSecondVersion file
unfolding bound_layout unsigned
second_of_right file is right =
    let bound = subst (λ (version : ℕ). (bound_layout version).right file.bound ≡ true) is right.of_bound in
    let known = (and_parts (ltb file.bound (2 ^ 32)) (is_bound file.bound) bound).1 in
    record {
      version = is;
      bound = elim (or_cases (eqb file.bound small_bound) (eqb file.bound large_bound) known) [
        | inl small ↦ inl (eqb-true file.bound small_bound small)
        | inr large ↦ inr (eqb-true file.bound large_bound large)
      ];
    }

pub version_of_right : (file : TreeFile) → IsRightVersion file.version file.bound (length file.sections) → IsOfVersion file
version_of_right file right =
    elim (or_cases (eqb file.version 1) (eqb file.version 2) right.of_version) [
      | inl first ↦ inl (first_of_right file (eqb-true file.version 1 first) right)
      | inr second ↦ inr (second_of_right file (eqb-true file.version 2 second) right)
    ]

right_of_first : (file : TreeFile) → IsFirstVersion file → IsRightVersion 1 file.bound (length file.sections)
unfolding bound_layout section_count_layout unwritten
right_of_first file first =
    record {
      of_version = refl;
      of_bound = eq-eqb file.bound small_bound first.bound;
      of_sections = eq-eqb (length file.sections) 0 (ap length first.sections);
    }

right_of_second : (file : TreeFile) → IsSecondVersion file → length file.sections < 2 ^ 32 → IsRightVersion 2 file.bound (length file.sections)
unfolding bound_layout section_count_layout unsigned
right_of_second file second few =
    record {
      of_version = refl;
      of_bound = elim second.bound [
        | inl small ↦ and_from (ltb file.bound (2 ^ 32)) (is_bound file.bound) (lt-ltb file.bound (2 ^ 32) (omega (arith, small))) (or_left (eqb file.bound small_bound) (eqb file.bound large_bound) (eq-eqb file.bound small_bound small))
        | inr large ↦ and_from (ltb file.bound (2 ^ 32)) (is_bound file.bound) (lt-ltb file.bound (2 ^ 32) (omega (arith, large))) (or_right (eqb file.bound small_bound) (eqb file.bound large_bound) (eq-eqb file.bound large_bound large))
      ];
      of_sections = lt-ltb (length file.sections) (2 ^ 32) few;
    }

pub right_of_version : (file : TreeFile) → IsOfVersion file → length file.sections < 2 ^ 32 → IsRightVersion file.version file.bound (length file.sections)
right_of_version file is few =
    elim is [
      | inl first ↦ subst (λ (version : ℕ). IsRightVersion version file.bound (length file.sections)) (sym first.version) (right_of_first file first)
      | inr second ↦ subst (λ (version : ℕ). IsRightVersion version file.bound (length file.sections)) (sym second.version) (right_of_second file second few)
    ]

-- ---- sections

-- sections whose kinds ascend are fewer than kinds
few_above : (before : ℕ) (sections : List Section) → AreSectionsAbove before sections → before < 2 ^ 32 → before + length sections < 2 ^ 32
few_above before [] are small = omega (arith, small)
few_above before (section ∷ sections) are small =
    let above = are.0.above in
    let rest = few_above section.kind sections are.1 are.0.kind_fits in
    omega (arith, above, rest)

pub few_sections : (sections : List Section) → AreSectionsAbove 0 sections → length sections < 2 ^ 32
few_sections sections are = let few = few_above 0 sections are (omega arith) in omega (arith, few)

right_section : (before : ℕ) (section : Section) → (section_layout before).right section ≡ true → IsSectionAbove before section
unfolding section_layout section_head_layout unsigned raw
right_section before section right =
    let kind = ltb section.kind (2 ^ 32) in
    let long = ltb (length section.bytes) (2 ^ 64) in
    let bytes = (eqb (length section.bytes) (length section.bytes)) && are_bytes section.bytes in
    let both = and_parts ((kind && long) && ltb before section.kind) bytes right in
    let head = and_parts (kind && long) (ltb before section.kind) both.0 in
    let sizes = and_parts kind long head.0 in
    record {
      above = ltb-true before section.kind head.1;
      kind_fits = ltb-true section.kind (2 ^ 32) sizes.0;
      length_fits = ltb-true (length section.bytes) (2 ^ 64) sizes.1;
      are_bytes = bytes-are section.bytes (and_parts (eqb (length section.bytes) (length section.bytes)) (are_bytes section.bytes) both.1).1;
    }

section_right : (before : ℕ) (section : Section) → IsSectionAbove before section → (section_layout before).right section ≡ true
unfolding section_layout section_head_layout unsigned raw
section_right before section is =
    let kind = ltb section.kind (2 ^ 32) in
    let long = ltb (length section.bytes) (2 ^ 64) in
    let bytes = (eqb (length section.bytes) (length section.bytes)) && are_bytes section.bytes in
    and_from ((kind && long) && ltb before section.kind) bytes
    (and_from (kind && long) (ltb before section.kind) (and_from kind long (lt-ltb section.kind (2 ^ 32) is.kind_fits) (lt-ltb (length section.bytes) (2 ^ 64) is.length_fits)) (lt-ltb before section.kind is.above))
    (and_from (eqb (length section.bytes) (length section.bytes)) (are_bytes section.bytes) (eq-eqb (length section.bytes) (length section.bytes) refl) (are_bytes-from section.bytes is.are_bytes))

-- the kind of a section, which the next one is above
abbrev kind_of : Section → ℕ
kind_of section = section.kind

pub right_sections : (before count : ℕ) (sections : List Section) → right_each_after (λ (section : Section). section.kind) section_layout before count sections ≡ true → AreSectionsAbove before sections
right_sections before count [] right = tt
right_sections before zero (section ∷ sections) right = absurd cc
right_sections before (suc count) (section ∷ sections) right =
    let both = and_parts ((section_layout before).right section) (right_each_after kind_of section_layout section.kind count sections) right in
    (right_section before section both.0, right_sections section.kind count sections both.1)

pub sections_right : (before : ℕ) (sections : List Section) → AreSectionsAbove before sections → right_each_after (λ (section : Section). section.kind) section_layout before (length sections) sections ≡ true
sections_right before [] are = refl
sections_right before (section ∷ sections) are =
    and_from ((section_layout before).right section) (right_each_after kind_of section_layout section.kind (length sections) sections) (section_right before section are.0) (sections_right section.kind sections are.1)
