use Rattle.std.specs.Prelude.{◌≡◌, ◌⊎◌, ℕ, ◌+◌, List, [], ◌∷◌, length, map, All, Contains, Option, Some, None, IsSomeAnd}
use Rattle.qm_space.specs.Point.{Point, IsInCube}
use Rattle.qm_space.specs.Plane.{Plane, IsOn}
use Rattle.qm_space.specs.Cell.{IsInCell, HasPoint}
use Rattle.qm_space.specs.Book.{AreBookPlanes}
use Rattle.qm_contents.specs.declared.contents.Contents.{Contents}
use Rattle.qm_contents.specs.Precedence.{IsAtMost}
use Rattle.qm_solids.specs.Solid.{Solid}
use Rattle.qm_solids.specs.Holding.{IsFull}
use Rattle.qm_solids.specs.Cells.{ContainsCell}
use Rattle.qm_solids.specs.Uniform.{LiesOutside}
use Rattle.qm_split.specs.declared.contender.Contender.{Contender}
use Rattle.qm_split.specs.declared.fragments.Fragments.{Fragments}
use Rattle.qm_split.specs.Pieces.{solid_of_contender, IsContender}
use Rattle.qm_split.specs.CellPlanes.{planes_of_cell}

-- What fragments keep of a cell.

-- the planes of the cell
abbrev pub cell_of_fragments : Fragments → List Plane
cell_of_fragments fragments = planes_of_cell fragments.cell

-- how many pieces some contenders have
abbrev pub pieces_of : List Contender → ℕ
pieces_of [] = 0
pieces_of (contender ∷ contenders) = length contender.body.value.pieces.items + pieces_of contenders

abbrev pub piece_count : Fragments → ℕ
piece_count fragments = pieces_of fragments.gathering.contenders.items

-- some point of the cell is on the plane
pub record HasPointOn (cell : List Plane) (h : Plane) : Type 0 where
  pub point : Point
  pub in_cube : IsInCube point
  pub in_cell : IsInCell cell point
  pub on : IsOn h point

-- contents are known that are at least as strong
abbrev pub IsAtMostKnown : Option Contents → Contents → Type 0
IsAtMostKnown strongest contents = IsSomeAnd strongest (λ known. IsAtMost contents known)

-- contents are known, if any, only of a solid that contains the cell
abbrev pub AreOfSomeSolid : List Solid → List Plane → Option Contents → Type 0
AreOfSomeSolid solids cell strongest =
    (strongest ≡ None) ⊎ ((solid : Solid) × Contains solids solid × ContainsCell solid cell × (strongest ≡ Some solid.contents))

-- what is known of a full solid: contents at least as strong as its own fill the cell, or it is a contender, or it has no
-- point of the cell
abbrev pub IsAccounted : List Plane → Option Contents → List Contender → Solid → Type 0
IsAccounted cell strongest contenders solid =
    IsAtMostKnown strongest solid.contents ⊎ (Contains (map solid_of_contender contenders) solid ⊎ LiesOutside solid cell)

-- one of the solids, with its pieces, stronger than what is known to fill the cell
pub record IsKeptContender (solids : List Solid) (book cell : List Plane) (strongest : Option Contents) (contender : Contender) : Type 0 where
  pub listed : Contains solids (solid_of_contender contender)
  pub contends : IsContender book cell contender
  pub stronger : IsAtMostKnown strongest contender.contents → ⊥

-- fragments of the faces of solids in a cell, by the planes of a book
pub record AreFragmentsOf (solids : List Solid) (book cell : List Plane) (fragments : Fragments) : Type 0 where
  pub book_planes : AreBookPlanes book
  pub cell_is : cell_of_fragments fragments ≡ cell
  pub inner : HasPoint cell
  pub given : AreOfSomeSolid solids cell fragments.gathering.strongest
  pub kept : All (IsKeptContender solids book cell fragments.gathering.strongest) fragments.gathering.contenders.items
  pub accounted : (solid : Solid) → Contains solids solid → IsFull solid →
      IsAccounted cell fragments.gathering.strongest fragments.gathering.contenders.items solid
