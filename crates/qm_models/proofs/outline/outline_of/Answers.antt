use Rattle.std.proofs.Common.{◌<◌, Bool, length, subst, arith}
use Rattle.std.specs.Bool.{MatchBool}
use Rattle.qm_solids.specs.InBook.{solids_in}
use Rattle.qm_outlines.specs.HeldPoints.{HasFull, HasNoFull}
use Rattle.qm_outlines.specs.inner.Outlined.{IsOutlined, IsCellTaken}
use Rattle.qm_outlines.proofs.OutlinedSolids.{outline_found}
use Rattle.qm_models.specs.inner.BehindFaces.{cell_behind}
use Rattle.qm_models.proofs.AddedBrushes.{next_full, next_flat, all_outlined}
use Rattle.qm_models.proofs.outline.outline_of.Goals as goal
use Rattle.qm_models.proofs.outline.outline_of.Goals.{then-branch, else-branch}

pub loop-i-preserved : goal.loop-i-preserved
loop-i-preserved c =
    let tree = c.args.tree.now in
    let book = c.args.book.now in
    let list = c.args.list.now in
    let old = c.loop-i.outline.extents in
    let new = c.add_solid.new.outline.extents in
    let before = c.loop-i.outline.touched.items in
    let after = c.add_solid.new.outline.touched.items in
    let planes = c.planes.result.now in
    let faces = c.faces.result.now in
    let within : c.loop-i.i < length list = omega (arith, c.loop-i-test.true, c.len-i-end.ensures) in
    elim c.if-branch.branch [
      | then-branch w ↦
          rw w.some-is
          (next_full tree book list c.loop-i.i c.loop-i.some old before c.loop-i.invariant within planes faces c.planes.ensures.value c.faces.ensures.are new after
          (subst (λ (full : Bool). IsCellTaken tree (cell_behind planes faces) full old new before after) w.if-branch.true c.in_ok-add_solid.ensures))
      | else-branch w ↦
          rw w.some-is
          (next_flat tree book list c.loop-i.i c.loop-i.some old before c.loop-i.invariant within planes faces c.planes.ensures.value c.faces.ensures.are new after
          (subst (λ (full : Bool). IsCellTaken tree (cell_behind planes faces) full old new before after) w.if-branch.false c.in_ok-add_solid.ensures))
    ]

pub returns-then-some : goal.returns-then-some
returns-then-some c =
    let tree = c.args.tree.now in
    let solids = solids_in c.args.book.now c.args.list.now in
    let box = c.loop-i.outline.extents in
    let touched = c.loop-i.outline.touched.items in
    outline_found tree solids box touched
    (subst (λ (some : Bool). IsOutlined tree solids some box touched) c.if-some.true
    (all_outlined tree c.args.book.now c.args.list.now c.loop-i.i c.loop-i.some box touched c.loop-i.invariant (omega (arith, c.loop-i-test.false, c.len-i-end.ensures))))

pub returns-else-some : goal.returns-else-some
returns-else-some c =
    let solids = solids_in c.args.book.now c.args.list.now in
    let all = all_outlined c.args.tree.now c.args.book.now c.args.list.now c.loop-i.i c.loop-i.some c.loop-i.outline.extents c.loop-i.outline.touched.items c.loop-i.invariant (omega (arith, c.loop-i-test.false, c.len-i-end.ensures)) in
    subst (λ (some : Bool). MatchBool some (HasFull solids) (HasNoFull solids)) c.if-some.false all.full
