use Rattle.std.proofs.Common.{◌≤◌, List, [], length, sym, subst, arith}
use Rattle.std.proofs.lemmas.List.{take_all}
use Rattle.qm_space.specs.Plane.{Plane}
use Rattle.qm_contacts.specs.Touching.{Touching}
use Rattle.qm_solids.specs.InBook.{solids_in, IsBookOf}
use Rattle.qm_solid_tree.specs.GivesContents.{GivesContentsOrIsFilled}
use Rattle.qm_surface.specs.Surface.{FacePiece, AreFacePieces, none}
use Rattle.qm_surface.proofs.Covering.{pieces_cover}
use Rattle.qm_faces.proofs.PairsThere.{pair_there, pieces_next}
use Rattle.qm_faces.proofs.surface.faces.Goals as goal

pub loop-i-init : goal.loop-i-init
loop-i-init c = subst (λ (ps : List FacePiece). AreFacePieces c.args.tree.now c.args.list.now [] ps) (sym c.new-pieces.ensures.items) none

pub add_pieces-requires-clause-pair : goal.add_pieces-requires-clause-pair
add_pieces-requires-clause-pair c = pair_there c.args.tree.now c.args.touches.now.touchings c.loop-i.i c.pair.result.now c.requires.contacts.touching c.pair.ensures

pub loop-i-preserved : goal.loop-i-preserved
loop-i-preserved c =
    pieces_next c.args.tree.now c.args.list.now c.args.touches.now.touchings c.loop-i.i c.pair.result.now c.loop-i.pieces.items c.add_pieces.new.pieces.items c.in_ok-add_pieces.ensures.own c.pair.ensures c.loop-i.invariant c.in_ok-add_pieces.ensures.new_is c.in_ok-add_pieces.ensures.cut_up

pub returns-clause-cover : goal.returns-clause-cover
returns-clause-cover c =
    let tree = c.args.tree.now in
    let list = c.args.list.now in
    let past : length c.args.touches.now.touchings ≤ c.loop-i.i = omega (arith, c.loop-i-test.false, c.pairs-i-end.ensures) in
    pieces_cover tree list
    (subst (λ (hs : List Plane). IsBookOf hs list) (sym c.requires.planes) c.requires.filled)
    (subst (λ (hs : List Plane). GivesContentsOrIsFilled tree (solids_in hs list)) (sym c.requires.planes) c.requires.gives)
    c.planes-planes.ensures.well_made.solid c.args.touches.now.touchings c.loop-i.pieces.items c.requires.contacts.touching
    (subst (λ (ts : List Touching). AreFacePieces tree list ts c.loop-i.pieces.items) (take_all c.loop-i.i c.args.touches.now.touchings past) c.loop-i.invariant)
