use Rattle.std.proofs.Common.{List, length, sym, ◌∙◌, subst}
use Rattle.std.proofs.lemmas.Result.{IfOk-weaker}
use Rattle.qm_solids.specs.declared.face.FaceRef.{FaceRef}
use Rattle.qm_solids.specs.InBook.{solid_at}
use Rattle.qm_faces.specs.inner.Rows.{IsBrushAdded, AreFacesAdded}
use Rattle.qm_faces.proofs.RowsOfOwners.{brush_skipped, brush_added}
use Rattle.qm_faces.proofs.rows.add_brush.Goals as goal

pub returns-then-not-may_own : goal.returns-then-not-may_own
returns-then-not-may_own c = brush_skipped (length c.args.planes.now) (solid_at c.args.list.now c.args.brush) c.args.brush c.args.rows.now.items (sym c.may_own.ensures ∙ c.if-not-may_own.true)

pub returns : goal.returns
returns c =
    let solid = solid_at c.args.list.now c.args.brush in
    IfOk-weaker c.add_faces.result
    (λ _. AreFacesAdded (length c.args.planes.now) c.faces.result.now c.args.brush c.args.rows.now.items c.add_faces.new.rows.items)
    (λ _. IsBrushAdded (length c.args.planes.now) solid c.args.brush c.args.rows.now.items c.add_faces.new.rows.items)
    (λ _ all.
    brush_added (length c.args.planes.now) solid c.args.brush c.args.rows.now.items c.add_faces.new.rows.items (sym c.may_own.ensures ∙ c.if-not-may_own.false)
    (subst (λ (faces : List FaceRef). AreFacesAdded (length c.args.planes.now) faces c.args.brush c.args.rows.now.items c.add_faces.new.rows.items) c.faces.ensures.are all))
    c.add_faces.ensures
