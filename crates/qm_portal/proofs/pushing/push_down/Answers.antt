use Rattle.std.proofs.Common.{List, [], ap, sym, ◌∙◌, subst, arith}
use Rattle.std.proofs.lemmas.List.{append-nil, nil_from_length}
use Rattle.qm_lists.proofs.KeptStacks.{under_way_next, under_way_goes_on, under_way_smaller}
use Rattle.qm_convex.specs.Winding.{IsConvex}
use Rattle.qm_contacts.specs.inner.Due.{DuePolygon, due_of, ComesToPieces}
use Rattle.qm_contacts.specs.inner.Pieces.{LeafPiece}
use Rattle.qm_portal.specs.inner.Pushes.{IsDueBelow, polygon_weight, IsPushed, MayBeDue, IsPushing}
use Rattle.qm_portal.proofs.PushedPolygons.{child_is_due, push_begins, push_ends}
use Rattle.qm_portal.proofs.pushing.push_down.Goals as goal
use Rattle.qm_portal.proofs.pushing.push_down.Goals.{After-len-corners}

convex : (c : After-len-corners) → IsConvex c.args.polygon.winding
convex c = subst IsConvex (c.deref.ensures ∙ ap (λ (p : DuePolygon). p.winding) c.polygon.view_is) c.len-corners.ensures.in_world.convex

first : (c : After-len-corners) → MayBeDue c.args.tree.now c.args.polygon
first c = child_is_due c.args.tree.now c.args.polygon c.requires.child (convex c)

pub advance-requires : goal.advance-requires
advance-requires c = first (goal.at.advance-requires c).After-len-corners

pub advance-requires-in-Some : goal.advance-requires-in-Some
advance-requires-in-Some c =
    let tree = c.args.tree.now in
    under_way_next due_of (IsDueBelow tree) (ComesToPieces tree.planes) c.args.polygon c.loop-polygon.due.items c.pop.new.self.items c.in-Some.polygon c.loop-polygon.pieces.items c.in-Some.ensures.items (first (goal.at.advance-requires-in-Some c).After-len-corners) c.loop-polygon.invariant

pub loop-polygon-init : goal.loop-polygon-init
loop-polygon-init c =
    push_begins c.args.tree.now c.args.polygon c.advance.new.due.items c.advance.new.pieces.items
    (subst (λ (pieces : List LeafPiece). IsPushed c.args.tree.now c.args.polygon [] c.advance.new.due.items pieces c.advance.new.pieces.items) c.requires.none
    (subst (λ (due : List DuePolygon). IsPushed c.args.tree.now c.args.polygon due c.advance.new.due.items c.args.pieces.now.items c.advance.new.pieces.items) c.requires.none_due c.in_ok-advance.ensures))

pub loop-polygon-preserved : goal.loop-polygon-preserved
loop-polygon-preserved c =
    let tree = c.args.tree.now in
    under_way_goes_on due_of (IsDueBelow tree) (ComesToPieces tree.planes) c.args.polygon c.loop-polygon.due.items c.pop.new.self.items c.in-Some.polygon c.loop-polygon.pieces.items c.in-Some.ensures.items (polygon_weight tree) c.advance-in-Some.new.due.items c.advance-in-Some.new.pieces.items c.in_ok-advance-2.ensures c.loop-polygon.invariant

pub loop-polygon-smaller : goal.loop-polygon-smaller
loop-polygon-smaller c =
    let tree = c.args.tree.now in
    under_way_smaller due_of (IsDueBelow tree) (ComesToPieces tree.planes) c.args.polygon c.loop-polygon.due.items c.pop.new.self.items c.in-Some.polygon c.loop-polygon.pieces.items c.in-Some.ensures.items (polygon_weight tree) c.advance-in-Some.new.due.items c.advance-in-Some.new.pieces.items c.in_ok-advance-2.ensures

pub returns-clause-none_due : goal.returns-clause-none_due
returns-clause-none_due c =
    sym (append-nil c.pop.new.self.items) ∙ sym c.in_default.ensures.items
    ∙ nil_from_length c.loop-polygon.due.items (omega (arith, c.loop-polygon.due.ok.0, c.in_default.ensures.cases.0))

pub returns-clause-pieces : goal.returns-clause-pieces
returns-clause-pieces c =
    push_ends c.args.tree.now c.args.polygon c.loop-polygon.pieces.items (convex (goal.at.returns-clause-pieces c).After-len-corners)
    (subst (λ (due : List DuePolygon). IsPushing c.args.tree.now c.args.polygon due c.loop-polygon.pieces.items) (nil_from_length c.loop-polygon.due.items (omega (arith, c.loop-polygon.due.ok.0, c.in_default.ensures.cases.0))) c.loop-polygon.invariant)
