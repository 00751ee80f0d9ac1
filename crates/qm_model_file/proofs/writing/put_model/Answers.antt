use Rattle.std.proofs.Common.{◌≡◌, length, arith}
use Rattle.std.specs.Prelude.{vec_len}
use Rattle.std.proofs.lemmas.List.{append_assoc}
use Rattle.qm_model_layout.specs.BrushModel.{BrushModel}
use Rattle.qm_model_layout.proofs.WrittenModels.{model_bytes-parts}
use Rattle.qm_model_file.proofs.writing.put_model.Goals as goal

pub returns : goal.returns
returns c =
    let inside = c.model.inside in
    let model : BrushModel = record { entity = inside.entity; box = inside.bounding_box; leaves = inside.leaves; file = inside.file } in
    let tree = c.in_ok-tree.tree in
    let long : vec_len tree ≡ length tree.items = omega (arith, tree.ok.0) in
    rw (c.in_ok-extend_from_slice.ensures.items, c.in_ok-put_u64-2.ensures, c.in_ok-put_leaves.ensures, c.as_slice.ensures, c.in_ok-put_box.ensures, c.in_ok-put_u64.ensures, c.deref.ensures.value, c.len.ensures, long, c.in_ok-tree.ensures, ← c.model.view_is, model_bytes-parts model)
    (simp append_assoc)
