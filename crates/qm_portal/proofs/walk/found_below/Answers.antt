use Rattle.std.proofs.Common.{List, [], ◌∷◌, ◌++◌, ap, ◌∙◌, subst, arith}
use Rattle.std.proofs.lemmas.List.{nil_from_length}
use Rattle.qm_lists.proofs.KeptStacks.{under_way_last}
use Rattle.qm_contacts.specs.inner.Due.{DueCell, IsDueCell, cell_due_of, ComesToTouchings, ComesToOutside}
use Rattle.qm_portal.specs.inner.Walks.{IsWalking}
use Rattle.qm_portal.proofs.VisitedCells.{walk_begins, walk_next, walk_goes_on, walk_smaller}
use Rattle.qm_portal.proofs.walk.found_below.Goals as goal
use Rattle.qm_portal.proofs.walk.found_below.Goals.{In_default}

pub loop-cell-init : goal.loop-cell-init
loop-cell-init c = record {
  walking = walk_begins c.args.tree.now c.args.cell c.push.new.self.items c.new-pairs.result.items c.in_ok-outside.outside.items
      (c.in_ok-push.ensures.items ∙ ap (λ (ds : List DueCell). ds ++ c.args.cell ∷ []) c.new-due.ensures.items) c.new-pairs.ensures.items c.in_ok-outside.ensures.items;
  empty = (c.new.ensures.items, c.new-2.ensures.items, c.new-3.ensures.items);
}

pub visit-requires-clause-known : goal.visit-requires-clause-known
visit-requires-clause-known c =
    walk_next c.args.tree.now c.args.cell c.in-Some.cell c.loop-cell.due.items c.pop.new.self.items c.loop-cell.pairs.items c.loop-cell.outside.items c.in-Some.ensures.items c.requires c.loop-cell.invariant.walking

pub loop-cell-preserved : goal.loop-cell-preserved
loop-cell-preserved c = record {
  walking = walk_goes_on c.args.tree.now c.args.cell c.in-Some.cell c.loop-cell.due.items c.pop.new.self.items c.loop-cell.pairs.items c.loop-cell.outside.items c.in-Some.ensures.items c.visit.new.due.items c.visit.new.pairs.items c.visit.new.outside.items c.in_ok-visit.ensures.visited c.loop-cell.invariant.walking;
  empty = c.in_ok-visit.ensures.empty;
}

pub loop-cell-smaller : goal.loop-cell-smaller
loop-cell-smaller c =
    walk_smaller c.args.tree.now c.args.cell c.in-Some.cell c.loop-cell.due.items c.pop.new.self.items c.loop-cell.pairs.items c.loop-cell.outside.items c.in-Some.ensures.items c.visit.new.due.items c.visit.new.pairs.items c.visit.new.outside.items c.in_ok-visit.ensures.visited

-- at the end no cell is due
all_done : (c : In_default) → IsWalking c.args.tree.now c.args.cell [] c.loop-cell.pairs.items c.loop-cell.outside.items
all_done c =
    subst (λ (due : List DueCell). IsWalking c.args.tree.now c.args.cell due c.loop-cell.pairs.items c.loop-cell.outside.items)
    (nil_from_length c.loop-cell.due.items (omega (arith, c.loop-cell.due.ok.0, c.in_default.ensures.cases.0))) c.loop-cell.invariant.walking

pub returns-clause-touchings : goal.returns-clause-touchings
returns-clause-touchings c =
    let tree = c.args.tree.now in
    under_way_last cell_due_of (IsDueCell tree) (ComesToTouchings tree.planes) c.args.cell c.loop-cell.pairs.items (all_done (goal.at.returns-clause-touchings c).In_default).touchings

pub returns-clause-outside : goal.returns-clause-outside
returns-clause-outside c =
    let tree = c.args.tree.now in
    under_way_last cell_due_of (IsDueCell tree) (ComesToOutside tree) c.args.cell c.loop-cell.outside.items (all_done (goal.at.returns-clause-outside c).In_default).outside
