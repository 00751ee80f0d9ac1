use Rattle.std.proofs.Common.{take}
use Rattle.qm_facets.specs.Body.{IsBody}
use Rattle.qm_half_spaces.specs.HalfCells.{cell_of_halves}
use Rattle.qm_half_spaces.proofs.body.Body.within.Given as goal

-- what those before have in common
abbrev pub invariant-loop-half : goal.invariant-loop-half
invariant-loop-half l = IsBody (cell_of_halves (take l.half-index l.halves)) l.body
