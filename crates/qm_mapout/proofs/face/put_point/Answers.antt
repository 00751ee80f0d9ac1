use Rattle.std.proofs.Common.{rules, get_or, pos, w32}
use Rattle.std.specs.Prelude.{FitsSigned}
use Rattle.std.proofs.lemmas.Int.{to_z-of_z}
use Rattle.qm_mapout.proofs.Parts.{point_put}
use Rattle.qm_mapout.proofs.face.put_point.Goals as goal

pub returns : goal.returns
returns c =
    let x : FitsSigned w32 (get_or c.args.point.now 0 (pos 0)) = search rules in
    let y : FitsSigned w32 (get_or c.args.point.now 1 (pos 0)) = search rules in
    let z : FitsSigned w32 (get_or c.args.point.now 2 (pos 0)) = search rules in
    rw (point_put c.args.point.now c.args.out.now.items c.put_word.new.out.items c.put_number.new.out.items c.put_number-2.new.out.items c.put_number-3.new.out.items c.told-point
    c.in_ok-put_word.ensures
    (rw (← to_z-of_z w32 (get_or c.args.point.now 0 (pos 0)) x) c.in_ok-put_number.ensures)
    (rw (← to_z-of_z w32 (get_or c.args.point.now 1 (pos 0)) y) c.in_ok-put_number-2.ensures)
    (rw (← to_z-of_z w32 (get_or c.args.point.now 2 (pos 0)) z) c.in_ok-put_number-3.ensures)) c.put_word-2.ensures
