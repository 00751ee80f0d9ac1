-- The brushes of a list by their entries.
use Rattle.std.proofs.Common.{◌≡◌, ℕ, ◌<◌, ◌+◌, ◌⊎◌, List, [], ◌∷◌, ◌++◌, length, get_or, take, All, sym, ap, ◌∙◌, subst}
use Rattle.std.proofs.lemmas.List.{take_more, map-append}
use Rattle.qm_lists.proofs.Elements.{All-from_map}
use Rattle.qm_space.specs.Point.{Point}
use Rattle.qm_space.specs.Plane.{Plane}
use Rattle.qm_contents.specs.declared.contents.Contents.{Contents}
use Rattle.qm_contents.specs.Precedence.{IsAtMost}
use Rattle.qm_solids.specs.declared.face.FaceRef.{FaceRef}
use Rattle.qm_solids.specs.Solid.{Solid}
use Rattle.qm_solids.specs.Holding.{Holds}
use Rattle.qm_solids.specs.Contents.{HasContents}
use Rattle.qm_solids.specs.InBook.{BookSolid, solid_in, solids_in, IsKeptIn}
use Rattle.qm_solids.proofs.ContentsLaws.{strongest_of_both}
use Rattle.qm_brush.specs.declared.entry.Entry.{Entry}
use Rattle.qm_brush.specs.inner.Entries.{solid_of_entry, solids_of_entries}

-- an entry of a list whose book is the one that was filled
pub kept_entry : (book : List Plane) (list : List BookSolid) (faces : List FaceRef) (entries : List Entry) (i : ℕ) (d : Entry) → solids_of_entries faces entries ≡ list → All (IsKeptIn book) list → i < length entries → IsKeptIn book (solid_of_entry faces (get_or entries i d))
kept_entry book list faces entries i d is each within =
    All-from_map (IsKeptIn book) (solid_of_entry faces) entries (subst (λ (l : List BookSolid). All (IsKeptIn book) l) (sym is) each) i d within

module _ (book : List Plane) (faces : List FaceRef) (entries : List Entry) (i : ℕ) (d : Entry) (within : i < length entries) where
  solids_more : solids_in book (solids_of_entries faces (take (i + 1) entries)) ≡ solids_in book (solids_of_entries faces (take i entries)) ++ solid_in book (solid_of_entry faces (get_or entries i d)) ∷ []
  solids_more =
      ap (λ (those : List Entry). solids_in book (solids_of_entries faces those)) (take_more entries i d within)
      ∙ ap (λ (those : List BookSolid). solids_in book those) (map-append (solid_of_entry faces) (take i entries) (get_or entries i d ∷ []))
      ∙ map-append (solid_in book) (solids_of_entries faces (take i entries)) (solid_of_entry faces (get_or entries i d) ∷ [])

  -- what the entries up to one make of a point, from what those before it make of it and what that one does
  pub contents_more : (x : Point) (before its now : Contents) → HasContents (solids_in book (solids_of_entries faces (take i entries))) x before → HasContents (solid_in book (solid_of_entry faces (get_or entries i d)) ∷ []) x its → (now ≡ before) ⊎ (now ≡ its) → IsAtMost before now → IsAtMost its now → HasContents (solids_in book (solids_of_entries faces (take (i + 1) entries))) x now
  contents_more x before its now has_before has_its one above_first above_second =
      subst (λ (solids : List Solid). HasContents solids x now) (sym solids_more)
      (strongest_of_both (λ solid. Holds solid x) (solids_in book (solids_of_entries faces (take i entries))) (solid_in book (solid_of_entry faces (get_or entries i d)) ∷ []) before its now one above_first above_second has_before has_its)
