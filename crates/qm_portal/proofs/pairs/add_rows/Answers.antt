use Rattle.std.proofs.Common.{◌≡◌, List, [], ◌∷◌, ◌++◌, refl, ap, sym, ◌∙◌, subst, arith, vec_len}
use Rattle.std.proofs.lemmas.List.{append_assoc, append-nil}
use Rattle.std.specs.Vec.Iter.{drain_items}
use Rattle.qm_contacts.specs.inner.Pieces.{LeafPiece}
use Rattle.qm_portal.specs.inner.Walks.{AreRowsAdded}
use Rattle.qm_portal.proofs.AddedPairs.{no_rows_added, one_row_more, whole_range}
use Rattle.qm_portal.proofs.pairs.add_rows.Goals as goal

pub loop-front-init : goal.loop-front-init
loop-front-init c = record {
  can_next = tt;
  is_finite = tt;
  taken = refl;
  rows = no_rows_added c.args.tree.now c.args.n c.args.back c.args.pairs.now.items;
  empty = c.requires.empty;
}

pub add_row-requires-clause-empty : goal.add_row-requires-clause-empty
add_row-requires-clause-empty c = c.loop-front.invariant.empty

pub loop-front-preserved : goal.loop-front-preserved
loop-front-preserved c = record {
  can_next = tt;
  is_finite = tt;
  taken = append_assoc c.loop-front.yielded (c.in-Some.front ∷ []) (drain_items c.next.new.self)
      ∙ ap (λ (ps : List LeafPiece). c.loop-front.yielded ++ ps) (sym c.in-Some.ensures.steps.0) ∙ c.loop-front.invariant.taken;
  rows = one_row_more c.args.tree.now c.args.n c.args.back c.loop-front.yielded c.in-Some.front c.args.pairs.now.items c.loop-front.pairs.items c.add_row.new.pairs.items c.loop-front.invariant.rows c.in_ok-add_row.ensures.row;
  empty = c.in_ok-add_row.ensures.empty;
}

pub returns-clause-rows : goal.returns-clause-rows
returns-clause-rows c =
    let fronts = c.args.fronts.now in
    let all : drain_items c.into_iter-front-iterator.result ≡ fronts.items =
    ap drain_items c.into_iter-front-iterator.ensures.into_iter_gives ∙ c.drain-front-items.ensures.rest ∙ whole_range fronts.items (vec_len fronts) (omega (arith, fronts.ok.0)) in
    subst (λ (ps : List LeafPiece). AreRowsAdded c.args.tree.now c.args.n c.args.back ps c.args.pairs.now.items c.loop-front.pairs.items)
    (sym (append-nil c.loop-front.yielded) ∙ ap (λ (ps : List LeafPiece). c.loop-front.yielded ++ ps) (sym c.in-None.ensures.steps.0) ∙ c.loop-front.invariant.taken ∙ all) c.loop-front.invariant.rows
