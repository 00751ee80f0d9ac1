use Rattle.std.proofs.Common.{ℕ, false, List, length, get_or, sym, ◌∙◌, subst}
use Rattle.std.proofs.lemmas.List.{get_or_default}
use Rattle.std.proofs.lemmas.Result.{IfOk-weaker}
use Rattle.qm_solids.specs.declared.face.FaceRef.{FaceRef}
use Rattle.qm_faces.specs.inner.Rows.{owner_at, IsFaceAdded, IsOwnerPushed}
use Rattle.qm_faces.proofs.RowsOfOwners.{face_skipped_by, face_pushed_by}
use Rattle.qm_faces.proofs.rows.add_face.Goals as goal

-- the face that was read
abbrev read_at : List FaceRef → ℕ → FaceRef
read_at faces i = get_or faces i (record { plane = 0; out_is_front = false })

pub returns-then-is_some : goal.returns-then-is_some
returns-then-is_some c =
    let face = read_at c.args.faces.now c.args.i in
    face_skipped_by (length c.args.planes.now) c.args.faces.now c.args.i c.args.brush face c.requires.face (get_or_default c.args.faces.now c.args.i _ face c.requires.face)
    c.first_towards.result c.args.rows.now.items c.first_towards.ensures (sym c.is_some.ensures ∙ c.if-is_some.true)

pub returns : goal.returns
returns c =
    let face = read_at c.args.faces.now c.args.i in
    IfOk-weaker c.push_owner.result
    (λ _. IsOwnerPushed c.key.result (owner_at c.args.brush c.args.i) c.args.rows.now.items c.push_owner.new.rows.items)
    (λ _. IsFaceAdded (length c.args.planes.now) c.args.faces.now c.args.i c.args.brush c.args.rows.now.items c.push_owner.new.rows.items)
    (λ _ pushed.
    face_pushed_by (length c.args.planes.now) c.args.faces.now c.args.i c.args.brush face c.requires.face (get_or_default c.args.faces.now c.args.i _ face c.requires.face)
    c.first_towards.result c.args.rows.now.items c.push_owner.new.rows.items c.first_towards.ensures (sym c.is_some.ensures ∙ c.if-is_some.false)
    (subst (λ (k : ℕ). IsOwnerPushed k (owner_at c.args.brush c.args.i) c.args.rows.now.items c.push_owner.new.rows.items) c.key.ensures pushed))
    c.push_owner.ensures
