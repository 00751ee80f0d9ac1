use Rattle.std.specs.Prelude.{ℕ, ◌+◌, ◌<◌, List, [], length, get_or}
use Rattle.qm_space.specs.Plane.{Plane}
use Rattle.qm_solids.specs.InBook.{BookSolid, solid_at, solid_in, IsBookOf}
use Rattle.qm_split.specs.declared.beside.BrushRuns.{BrushRuns}
use Rattle.qm_split.specs.declared.contender.Part.{Part}
use Rattle.qm_split.specs.inner.Parts.{IsPartIn}

-- what the solids of a list, from one on, are to the cube, each at its place
abbrev pub ArePartsOfCube : List Plane → List BookSolid → ℕ → List Part → Type 0
ArePartsOfCube book list from parts =
    (k : ℕ) (d : Part) → k < length parts → IsPartIn book [] (solid_in book (solid_at list (from + k))) (get_or parts k d)

-- the book was filled with the planes of the brushes, and a run has some of them
abbrev pub AreBrushRuns : BrushRuns → Type 0
AreBrushRuns runs = IsBookOf runs.book.now runs.list.now × (0 < runs.fewest)
