use Rattle.std.proofs.Common.{◌≡◌, [], arith}
use Rattle.std.proofs.lemmas.Grind.{common_steps}
use Rattle.std.proofs.lemmas.List.{nil_from_length}
use Rattle.qm_faces.proofs.CutParts.{so_far_ends, so_far_nothing, so_far_more}
use Rattle.qm_faces.proofs.cutting.cut_all.Goals as goal

pub returns-then-is_empty : goal.returns-then-is_empty
returns-then-is_empty c =
    let none : c.loop-owner.rest.items ≡ [] = nil_from_length c.loop-owner.rest.items (let empty = c.is_empty.ensures in let test = c.if-is_empty.true in let ok = c.loop-owner.rest.ok.0 in grind (arith, common_steps)) in
    so_far_nothing c.args.planes.now c.args.list.now c.args.boundary c.args.owners.now c.args.rest.items c.loop-owner.owner-index c.loop-owner.rest.items c.args.pieces.now.items c.loop-owner.pieces.items c.args.pieces.now.items c.loop-owner.invariant none

pub loop-owner-preserved : goal.loop-owner-preserved
loop-owner-preserved c =
    so_far_more c.args.planes.now c.args.list.now c.args.boundary c.args.owners.now c.args.rest.items c.loop-owner.owner-index c.loop-owner.rest.items c.args.pieces.now.items c.loop-owner.pieces.items c.cut_for.new.pieces.items c.loop-owner.invariant
    c.owner-item.result c.in_ok-rest.rest.items c.loop-owner-test.true c.owner-item.is c.in_ok-rest.ensures

pub returns : goal.returns
returns c =
    so_far_ends c.args.planes.now c.args.list.now c.args.boundary c.args.owners.now c.args.rest.items c.loop-owner.owner-index c.loop-owner.rest.items c.args.pieces.now.items c.loop-owner.pieces.items c.args.pieces.now.items c.loop-owner.invariant c.loop-owner-test.false
