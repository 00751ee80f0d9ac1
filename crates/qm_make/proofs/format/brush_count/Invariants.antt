use Rattle.std.proofs.Common.{◌≡◌, length, take}
use Rattle.std.specs.Prelude.{sum_by}
use Rattle.qm_make.proofs.format.brush_count.Given as goal

-- the brushes of the entities so far are counted
abbrev pub invariant-loop-entity : goal.invariant-loop-entity
invariant-loop-entity l = l.count ≡ sum_by (λ entity. length entity.brushes) (take l.entity-index l.entity-items)
