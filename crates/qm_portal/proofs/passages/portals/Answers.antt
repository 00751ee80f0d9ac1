use Rattle.std.proofs.Common.{length, refl, sym, ◌∙◌}
use Rattle.std.proofs.lemmas.Option.{slice_get_read}
use Rattle.qm_contacts.proofs.PortalLists.{portals_next_passage, portals_next_wall}
use Rattle.qm_portal.proofs.passages.portals.Goals as goal
use Rattle.qm_portal.proofs.passages.portals.Goals.{then-is_passage+in_ok-add_both_ways, else-is_passage}

pub loop-pair-preserved : goal.loop-pair-preserved
loop-pair-preserved c =
    let tree = c.args.tree.now in
    let pairs = c.args.pairs.now in
    let i = c.loop-pair.pair-index in
    let found = c.pair-item.result in
    let at = slice_get_read pairs (length pairs) i found refl c.loop-pair-test.true c.pair-item.is in
    elim c.if-is_passage.branch [
      | then-is_passage+in_ok-add_both_ways w ↦ rw w.portals-is (w.in_ok-add_both_ways.ensures ∙ portals_next_passage tree pairs i found c.loop-pair.portals.items at (sym c.is_passage.ensures ∙ w.if-is_passage.true) c.loop-pair.invariant)
      | else-is_passage w ↦ rw w.portals-is (portals_next_wall tree pairs i found c.loop-pair.portals.items at (sym c.is_passage.ensures ∙ w.if-is_passage.false) c.loop-pair.invariant)
    ]
