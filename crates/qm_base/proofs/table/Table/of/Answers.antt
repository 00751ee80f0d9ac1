use Rattle.std.proofs.Common.{List, length, refl, subst}
use Rattle.qm_space.specs.Plane.{Plane}
use Rattle.qm_base.specs.declared.lane.Lane.{Lane}
use Rattle.qm_base.specs.inner.Besides.{AreBesides}
use Rattle.qm_base.specs.inner.Tables.{AreClasses}
use Rattle.qm_base.proofs.TableSteps.{table_all}
use Rattle.qm_base.proofs.table.Table.of.Goals as goal

pub returns : goal.returns
returns c =
    let portals = c.args.world.now.portals in
    let lanes = c.in_ok-lanes.lanes.items in
    let kinds = c.in_ok-kinds.field-0.kinds.items in
    let planes = c.in_ok-kinds.field-0.planes.items in
    let table = c.in_ok-beside.beside.items in
    table_all portals lanes (length lanes) kinds planes table c.in_ok-lanes.ensures refl
    (subst (λ (l : List Lane). AreClasses l (length l) kinds planes) c.deref.ensures.value c.in_ok-kinds.ensures)
    (subst (λ (l : List Lane). AreBesides portals l planes table) c.deref-2.ensures.value
    (subst (λ (h : List Plane). AreBesides portals c.deref-2.result.now h table) c.deref-3.ensures.value c.in_ok-beside.ensures))
