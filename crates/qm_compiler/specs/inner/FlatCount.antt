use Rattle.std.specs.Prelude.{ℕ, List, count_by, not}
use Rattle.qm_solids.specs.InBook.{BookSolid}

-- how many solids are not flagged as full
abbrev pub flat_count : List BookSolid → ℕ
flat_count solids = count_by (λ solid. not solid.full) solids
