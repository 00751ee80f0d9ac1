use Rattle.std.proofs.Common.{◌∙◌, Bool, List, [], subst, refl, arith}
use Rattle.std.proofs.lemmas.List.{get_or_default}
use Rattle.qm_board.specs.inner.WordsOfRows.{HasPushedRow}
use Rattle.qm_board.proofs.GivenRows.{none_given, row_given}
use Rattle.qm_board.proofs.opening.flatten.Goals as goal

pub loop-portal-init : goal.loop-portal-init
loop-portal-init c = none_given c.args.portals c.args.width c.args.rows.now c.in_ok-words.words.items c.push.new.self.items (c.in_ok-words.ensures.items_if_clones_equal (λ y is. is)) c.in_ok-push.ensures.items

pub loop-portal-preserved : goal.loop-portal-preserved
loop-portal-preserved c =
    let rows = c.args.rows.now in
    let portal = c.loop-portal.portal in
    let inside = c.loop-portal-test.true in
    let long = c.requires.one_each in
    let row = c.index-rows-portal.is ∙ get_or_default rows portal c.index-rows-portal.result [] (omega (arith, inside, long)) in
    row_given c.args.portals c.args.width rows portal _ c.loop-portal.words.items _ c.loop-portal.invariant
    (subst (λ (r : List Bool). HasPushedRow r c.args.width c.loop-portal.words.items c.push_row.new.words.items) row c.in_ok-push_row.ensures) refl
