use Rattle.std.proofs.Common.{List, length, ap, arith}
use Rattle.std.specs.Prelude.{sum_by}
use Rattle.std.proofs.lemmas.List.{take_all}
use Rattle.std.proofs.lemmas.List.Sums.{sum_by_more, sum_by_more_le}
use Rattle.qm_mapfile.specs.declared.entity.Entity.{Entity}
use Rattle.qm_make.proofs.format.brush_count.Goals as goal

pub overflow_add-count : goal.overflow_add-count
overflow_add-count c =
    let brushes = λ (entity : Entity). length entity.brushes in
    let all = c.as_slice-entity-items.result.now in
    let whole = ap (λ (entities : List Entity). sum_by (λ entity. length entity.brushes) entities) c.as_slice-entity-items.ensures in
    let here = ap (λ (entity : Entity). length entity.brushes) c.entity-item.is in
    omega (arith, c.loop-entity.invariant, sum_by_more_le brushes all c.loop-entity.entity-index c.entity-item.result c.loop-entity-test.true, whole, here, c.requires)

pub loop-entity-preserved : goal.loop-entity-preserved
loop-entity-preserved c =
    let brushes = λ (entity : Entity). length entity.brushes in
    let all = c.as_slice-entity-items.result.now in
    let here = ap (λ (entity : Entity). length entity.brushes) c.entity-item.is in
    omega (arith, c.loop-entity.invariant, sum_by_more brushes all c.loop-entity.entity-index c.entity-item.result c.loop-entity-test.true, here)

pub returns : goal.returns
returns c =
    let all = c.as_slice-entity-items.result.now in
    let count = λ (entities : List Entity). sum_by (λ entity. length entity.brushes) entities in
    let end = ap count (take_all c.loop-entity.entity-index all c.loop-entity-test.false) in
    let whole = ap count c.as_slice-entity-items.ensures in
    omega (arith, c.loop-entity.invariant, end, whole)
