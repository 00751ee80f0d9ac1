use Rattle.std.proofs.Common.{◌∙◌, ℕ, List, Bool, subst, sym, ap, length, Some}
use Rattle.std.specs.Int.{div_ceil}
use Rattle.qm_sight.specs.WordInSight.{LieWithin}
use Rattle.qm_shared_rows.specs.Findings.{Findings}
use Rattle.qm_board.specs.BoardRule.{given_in}
use Rattle.qm_board.specs.Ceilings.{ceiling_rows}
use Rattle.qm_board.specs.inner.WordsOfRows.{AreFirstRows}
use Rattle.qm_board.proofs.GivenRows.{rows_counted, same_sizes, new_board_holds_so, given_told, first_within, first_found}
use Rattle.qm_board.proofs.row_board.RowBoard.new.Goals as goal

pub flatten-requires-clause-one_each : goal.flatten-requires-clause-one_each
flatten-requires-clause-one_each c = ap length c.as_slice.ensures ∙ rows_counted c.args.world.now c.args.rows c.requires ∙ sym c.portals-portals.ensures

pub of_words-requires : goal.of_words-requires
of_words-requires c =
    let world = c.args.world.now in
    let words = c.in_ok-words.words.items in
    let width_is = c.div_ceil-width.ensures ∙ ap (λ (n : ℕ). div_ceil n 64) c.leaves-leaves.ensures in
    let first = same_sizes world c.args.rows c.requires words c.portals-portals.result c.div_ceil-width.result c.portals-portals.ensures width_is
    (subst (λ (rows : List (List Bool)). AreFirstRows c.portals-portals.result c.div_ceil-width.result rows c.portals-portals.result words) c.as_slice.ensures c.in_ok-words.ensures) in
    new_board_holds_so world c.args.rows c.requires words first c.of.result.value c.deref.result.now c.of-2.result.value.items c.of.ensures c.deref.ensures.value (ap (λ v. v.items) c.of-2.ensures)

pub returns : goal.returns
returns c =
    let world = c.args.world.now in
    let words = c.in_ok-words.words.items in
    let width_is = c.div_ceil-width.ensures ∙ ap (λ (n : ℕ). div_ceil n 64) c.leaves-leaves.ensures in
    let first = same_sizes world c.args.rows c.requires words c.portals-portals.result c.div_ceil-width.result c.portals-portals.ensures width_is
    (subst (λ (rows : List (List Bool)). AreFirstRows c.portals-portals.result c.div_ceil-width.result rows c.portals-portals.result words) c.as_slice.ensures c.in_ok-words.ensures) in
    let made = c.in_ok-table.ensures in
    let key = made.5 in
    let me = made.4 in
    let found = ap (λ m. m.0.findings) me ∙ first_found world c.args.rows c.requires words first c.of.result.value c.of-2.result.value.items c.of.ensures (ap (λ v. v.items) c.of-2.ensures) in
    record {
      same_world = ap (λ k. k.0.value) key ∙ c.of.ensures;
      pass_is = record {
        same_table = made.2;
        same_world = ap (λ m. m.0.world) me ∙ sym (ap (λ k. Some k.0.value) key);
        same_given = ap (λ m. m.0.given) me ∙ sym (ap (λ k. given_in k.0.value k.1.value.items) key);
        no_slots = ap (λ m. m.1) me;
      };
      given = first.given;
      given_is = ap (λ k. given_in k.0.value k.1.value.items) key ∙ given_told world c.args.rows c.requires words first c.of.result.value c.of-2.result.value.items c.of.ensures (ap (λ v. v.items) c.of-2.ensures);
      found = found;
      within = subst (λ (f : Findings). LieWithin (ceiling_rows world f) c.args.rows) (sym found) (first_within world c.args.rows c.requires words first);
      are_words = first.are_words;
    }
