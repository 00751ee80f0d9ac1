use Rattle.std.proofs.Common.{pos, get_or, w64, rules}
use Rattle.std.specs.Prelude.{FitsSigned}
use Rattle.qm_inspect.proofs.CornersOfPlanes.{no_own, no_before, no_next, corner_met}
use Rattle.qm_inspect.proofs.face_lines.corner_of.Goals as goal

pub returns-in_default : goal.returns-in_default
returns-in_default c =
    let corner = c.args.corner.now in
    let own : FitsSigned w64 (get_or corner 0 (pos 0)) = search rules in
    no_own c.args.planes.now c.args.bound corner own c.in_default.ensures

pub returns-in_default-named_plane : goal.returns-in_default-named_plane
returns-in_default-named_plane c =
    let corner = c.args.corner.now in
    let own : FitsSigned w64 (get_or corner 0 (pos 0)) = search rules in
    let before : FitsSigned w64 (get_or corner 1 (pos 0)) = search rules in
    no_before c.args.planes.now c.args.bound corner c.in-Some.own own c.in-Some.ensures before c.in_default-named_plane.ensures

pub returns-in_default-named_plane-2 : goal.returns-in_default-named_plane-2
returns-in_default-named_plane-2 c =
    let corner = c.args.corner.now in
    let own : FitsSigned w64 (get_or corner 0 (pos 0)) = search rules in
    let before : FitsSigned w64 (get_or corner 1 (pos 0)) = search rules in
    let next : FitsSigned w64 (get_or corner 2 (pos 0)) = search rules in
    no_next c.args.planes.now c.args.bound corner c.in-Some.own own c.in-Some.ensures c.in-Some-named_plane.before before c.in-Some-named_plane.ensures next c.in_default-named_plane-2.ensures

pub returns : goal.returns
returns c =
    let corner = c.args.corner.now in
    let own : FitsSigned w64 (get_or corner 0 (pos 0)) = search rules in
    let before : FitsSigned w64 (get_or corner 1 (pos 0)) = search rules in
    let next : FitsSigned w64 (get_or corner 2 (pos 0)) = search rules in
    corner_met c.args.planes.now c.args.bound corner c.in-Some.own own c.in-Some.ensures c.in-Some-named_plane.before before c.in-Some-named_plane.ensures
    c.in-Some-named_plane-2.next c.of.result next c.in-Some-named_plane-2.ensures c.of.ensures.value c.of.ensures.only c.of.ensures.none
