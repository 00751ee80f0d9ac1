use Rattle.std.specs.Prelude.{List, [], ◌∷◌, ◌++◌}
use Rattle.std.specs.declared.sync.Arc.{Arc}
use Rattle.std.specs.declared.vec.Vec.{Vec}
use Rattle.std.specs.declared.alloc.Global.{Global}
use Rattle.qm_space.specs.Plane.{Plane}
use Rattle.qm_split.specs.declared.cell.CellPlanes.{CellPlanes}

-- The planes of a cell, which cells below one another share.

-- the planes of runs, one run after another
abbrev pub planes_of_runs : List (Arc (Vec Plane Global) Global) → List Plane
planes_of_runs [] = []
planes_of_runs (run ∷ runs) = run.value.items ++ planes_of_runs runs

abbrev pub planes_of_cell : CellPlanes → List Plane
planes_of_cell cell = planes_of_runs cell.shared.items ++ cell.own.items
