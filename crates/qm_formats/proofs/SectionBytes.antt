-- The bytes of sections one behind the other.
use Rattle.std.proofs.Common.{◌≡◌, ℕ, List, [], ◌∷◌, ◌++◌, refl, ap}
use Rattle.std.specs.List.{flat_map}
use Rattle.qm_formats.specs.Layout.{bytes_of_each_after}
use Rattle.qm_formats.specs.TreeFile.{Section}
use Rattle.qm_formats.specs.FileLayout.{section_head_layout, section_layout}

-- the kind that a section is above does not show in its bytes
pub section_bytes : (before other : ℕ) (sections : List Section) → bytes_of_each_after (λ (section : Section). section.kind) section_layout before sections ≡ flat_map (section_layout other).bytes_of sections
unfolding section_layout section_head_layout
section_bytes before other [] = refl
section_bytes before other (section ∷ sections) = ap (λ (rest : List ℕ). (section_layout other).bytes_of section ++ rest) (section_bytes section.kind other sections)
