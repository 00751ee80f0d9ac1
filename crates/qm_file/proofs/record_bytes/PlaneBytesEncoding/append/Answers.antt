use Rattle.std.proofs.Common.{arith, w32, w64}
use Rattle.std.specs.Prelude.{FitsSigned}
use Rattle.std.proofs.lemmas.List.{append_assoc}
use Rattle.std.proofs.lemmas.Int.{to_z-of_z, fits_signed_from_abs}
use Rattle.qm_formats.specs.FileParts.{plane_layout}
use Rattle.qm_file.proofs.record_bytes.PlaneBytesEncoding.append.Goals as goal

pub returns : goal.returns
unfolding plane_layout
returns c =
    let inside = c.plane.inside in
    let nx : FitsSigned w32 inside.nx = fits_signed_from_abs w32 inside.nx (omega (arith, c.plane.invariant.nx_small)) in
    let ny : FitsSigned w32 inside.ny = fits_signed_from_abs w32 inside.ny (omega (arith, c.plane.invariant.ny_small)) in
    let nz : FitsSigned w32 inside.nz = fits_signed_from_abs w32 inside.nz (omega (arith, c.plane.invariant.nz_small)) in
    let d : FitsSigned w64 inside.d = fits_signed_from_abs w64 inside.d (omega (arith, c.plane.invariant.d_small)) in
    rw (← c.plane.view_is, c.in_ok-put_i64.ensures, c.in_ok-put_i32-3.ensures, c.in_ok-put_i32-2.ensures, c.in_ok-put_i32.ensures) (simp (append_assoc, to_z-of_z))
