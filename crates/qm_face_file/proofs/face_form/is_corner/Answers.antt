use Rattle.std.proofs.Common.{pos, get_or, w64, rules}
use Rattle.std.specs.Prelude.{FitsSigned}
use Rattle.qm_face_file.proofs.CornerTests.{corner_found}
use Rattle.qm_face_file.proofs.face_form.is_corner.Goals as goal

pub returns : goal.returns
returns c =
    let corner = c.args.corner.now in
    let own : FitsSigned w64 (get_or corner 0 (pos 0)) = search rules in
    let before : FitsSigned w64 (get_or corner 1 (pos 0)) = search rules in
    let next : FitsSigned w64 (get_or corner 2 (pos 0)) = search rules in
    corner_found c.args.planes.now c.args.bound corner c.in-Some.own c.in-Some-named_plane.before c.in-Some-named_plane-2.next c.of.result c.is_some.result own before next c.in-Some.ensures c.in-Some-named_plane.ensures c.in-Some-named_plane-2.ensures c.is_some.ensures c.of.ensures.value c.of.ensures.only c.of.ensures.none
