use Rattle.std.proofs.Common.{pos, slice_index_or, w32, rules}
use Rattle.std.specs.Prelude.{FitsSigned}
use Rattle.std.proofs.lemmas.List.{append_assoc}
use Rattle.std.proofs.lemmas.Int.{to_z-of_z}
use Rattle.qm_model_layout.specs.ModelLayout.{box_layout}
use Rattle.qm_model_file.proofs.box_fields.put_box.Goals as goal

pub returns : goal.returns
unfolding box_layout
returns c =
    let lo = c.bounding_box.inside.lo in
    let hi = c.bounding_box.inside.hi in
    let x_low : FitsSigned w32 (slice_index_or lo 0 (pos 0)) = search rules in
    let y_low : FitsSigned w32 (slice_index_or lo 1 (pos 0)) = search rules in
    let z_low : FitsSigned w32 (slice_index_or lo 2 (pos 0)) = search rules in
    let x_high : FitsSigned w32 (slice_index_or hi 0 (pos 0)) = search rules in
    let y_high : FitsSigned w32 (slice_index_or hi 1 (pos 0)) = search rules in
    let z_high : FitsSigned w32 (slice_index_or hi 2 (pos 0)) = search rules in
    rw (← c.bounding_box.view_is, c.in_ok-put_i32-6.ensures, c.in_ok-put_i32-5.ensures, c.in_ok-put_i32-4.ensures, c.in_ok-put_i32-3.ensures, c.in_ok-put_i32-2.ensures, c.in_ok-put_i32.ensures)
    (simp (append_assoc, to_z-of_z))
