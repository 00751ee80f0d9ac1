use Rattle.std.proofs.Common.{◌≡◌, ℕ, ◌<◌, List, All, sym, ◌∙◌, subst}
use Rattle.std.specs.Prelude.{flat_map}
use Rattle.std.proofs.lemmas.List.Elements.{All-weaker}
use Rattle.qm_contacts.proofs.Touchings.{touchings_ascend, pairs_within}
use Rattle.qm_portal.specs.declared.links.Link.{Link}
use Rattle.qm_portal.specs.inner.Links.{AreColumns, both_links, turned_links}
use Rattle.qm_portal.proofs.LinkedLeaves.{IsBelow, BothBelow, links_below, turned_from, others_in_column}
use Rattle.qm_portal.proofs.FilledRows.{others_in_rows}
use Rattle.qm_portal.proofs.neighbours.neighbour_rows.Goals as goal
use Rattle.qm_portal.proofs.neighbours.neighbour_rows.Goals.{Start, In_ok-columns, After-deref-2}

below : (c : Start) → All (IsBelow c.args.leaves) c.args.pairs.now
below c = subst (λ (n : ℕ). All (IsBelow n) c.args.pairs.now) c.requires.pairs.1 (pairs_within c.requires.pairs.0 c.args.pairs.now c.requires.pairs.2)

froms : (c : Start) → All (λ (l : Link). l.from < c.args.leaves) (flat_map both_links c.args.pairs.now)
froms c = All-weaker (BothBelow c.args.leaves) (λ l. l.from < c.args.leaves) (λ l both. both.0) (flat_map both_links c.args.pairs.now) (links_below c.args.leaves c.args.pairs.now (below c))

turned_froms : (c : Start) → All (λ (l : Link). l.from < c.args.leaves) (turned_links (flat_map both_links c.args.pairs.now) c.args.leaves)
turned_froms c = turned_from (flat_map both_links c.args.pairs.now) c.args.leaves c.args.leaves (All-weaker (BothBelow c.args.leaves) (λ l. l.to < c.args.leaves) (λ l both. both.1) (flat_map both_links c.args.pairs.now) (links_below c.args.leaves c.args.pairs.now (below c)))

columns : (c : In_ok-columns) → AreColumns (flat_map both_links c.args.pairs.now) c.args.leaves c.in_ok-columns.columns.begins.items c.in_ok-columns.columns.all.items
columns c = subst (λ (links : List Link). AreColumns links c.args.leaves c.in_ok-columns.columns.begins.items c.in_ok-columns.columns.all.items) (c.deref.ensures.value ∙ c.in_ok-links.ensures) c.in_ok-columns.ensures

turned_are : (c : After-deref-2) → AreColumns (flat_map both_links c.args.pairs.now) c.args.leaves c.in_ok-columns.columns.begins.items c.in_ok-columns.columns.all.items → c.deref-2.result.now ≡ turned_links (flat_map both_links c.args.pairs.now) c.args.leaves
turned_are c are = c.deref-2.ensures.value ∙ c.in_ok-turned.ensures (flat_map both_links c.args.pairs.now) are

pub grouped-requires-clause-from : goal.grouped-requires-clause-from
grouped-requires-clause-from c =
    subst (All (λ (l : Link). l.from < c.args.leaves)) (sym (c.deref.ensures.value ∙ c.in_ok-links.ensures)) (froms (goal.at.grouped-requires-clause-from c).Start)

pub turned-requires : goal.turned-requires
turned-requires c = (flat_map both_links c.args.pairs.now, froms (goal.at.turned-requires c).Start, columns (goal.at.turned-requires c).In_ok-columns)

pub grouped-requires-2-clause-from : goal.grouped-requires-2-clause-from
grouped-requires-2-clause-from c =
    subst (All (λ (l : Link). l.from < c.args.leaves)) (sym (turned_are (goal.at.grouped-requires-2-clause-from c).After-deref-2 (columns (goal.at.grouped-requires-2-clause-from c).In_ok-columns))) (turned_froms (goal.at.grouped-requires-2-clause-from c).Start)

pub returns : goal.returns
returns c =
    let start = (goal.at.returns c).Start in
    let turned = turned_links (flat_map both_links c.args.pairs.now) c.args.leaves in
    others_in_rows c.args.pairs.now turned c.args.leaves c.in_ok-rows.rows.begins.items c.in_ok-rows.rows.all.items (turned_froms start)
    (λ k. others_in_column c.args.leaves c.args.pairs.now k (below start) (touchings_ascend c.requires.pairs.0 c.args.pairs.now c.requires.pairs.2))
    (subst (λ (links : List Link). AreColumns links c.args.leaves c.in_ok-rows.rows.begins.items c.in_ok-rows.rows.all.items) (turned_are (goal.at.returns c).After-deref-2 (columns (goal.at.returns c).In_ok-columns)) c.in_ok-rows.ensures)
