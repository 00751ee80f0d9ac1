use Rattle.std.specs.Prelude.{◌<◌, List, Bool, false, length, map, replicate, slice_get, Option, Some, None}
use Rattle.qm_flow.specs.declared.own_rows.Place.{Place}
use Rattle.qm_flow.specs.declared.own_rows.Place.TheVariants.{NotYet, Barred, Row}

-- the row of a flow's own that a place stands for: none yet, a clear one with so many leaves, or that of this number among those
-- that were made
abbrev pub own_row : List (List Bool) → Place → Option (List Bool)
own_row rows NotYet = None
own_row rows (Barred leaves) = Some (replicate leaves false)
own_row rows (Row number) = slice_get rows number

-- the row that a place stands for was made, if it has a number
abbrev pub IsAmong : List (List Bool) → Place → Type 0
IsAmong rows NotYet = Unit {0}
IsAmong rows (Barred leaves) = Unit {0}
IsAmong rows (Row number) = number < length rows

-- the rows for which places stand
abbrev pub own_rows : List (List Bool) → List Place → List (Option (List Bool))
own_rows rows places = map (own_row rows) places
