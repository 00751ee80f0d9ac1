use Rattle.std.proofs.Common.{◌∙◌, ◌+◌, ◌*◌, ◌≤◌, ℕ, length, true, refl, sym, ap, subst, lt_of_le_of_lt}
use Rattle.std.specs.Mem.Slots.{slots_items}
use Rattle.std.proofs.lemmas.List.{length-replicate}
use Rattle.qm_board.specs.inner.RowsOfWords.{IsRowOfWords, AreRowsOfWords}
use Rattle.qm_board.proofs.Places.{row_ends}
use Rattle.qm_board.proofs.ReadRows.{no_row_read, one_row_read}
use Rattle.qm_board.proofs.closing.collect.Goals as goal

pub loop-portal-init : goal.loop-portal-init
loop-portal-init c =
    let words = slots_items c.args.closed.now.words in
    subst (AreRowsOfWords words c.args.portals c.args.width c.args.leaves 0) (sym c.new-rows.ensures.items) (no_row_read words c.args.portals c.args.width c.args.leaves)

pub loop-portal-preserved : goal.loop-portal-preserved
loop-portal-preserved c =
    let words = slots_items c.args.closed.now.words in
    let portal = c.loop-portal.portal in
    let long = ap length c.in_ok-full.ensures ∙ length-replicate c.args.leaves true in
    one_row_read words c.args.portals c.args.width c.args.leaves portal _ c.loop-portal.rows.items c.in_ok-read_row.field-0 _ c.loop-portal.invariant
    (subst (λ (n : ℕ). IsRowOfWords words ((1 + c.args.portals) + portal * c.args.width) n c.in_ok-read_row.field-0) long c.in_ok-read_row.ensures) c.in_ok-push.ensures.items refl

pub read_row-requires-clause-within : goal.read_row-requires-clause-within
read_row-requires-clause-within c = subst (λ (n : ℕ). ((1 + c.args.portals) + c.loop-portal.portal * c.args.width) + c.args.width ≤ n) (sym c.requires.long) (row_ends c.args.portals c.args.width c.loop-portal.portal c.loop-portal-test.true)

pub read_row-requires-clause-counted : goal.read_row-requires-clause-counted
read_row-requires-clause-counted c = lt_of_le_of_lt (row_ends c.args.portals c.args.width c.loop-portal.portal c.loop-portal-test.true) c.requires.counted
