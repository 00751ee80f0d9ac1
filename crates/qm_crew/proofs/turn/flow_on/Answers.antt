use Rattle.std.proofs.Common.{◌∙◌, ℕ, Bool, List, ap, subst}
use Rattle.qm_lists.specs.WorkList.{IsIn}
use Rattle.qm_chains.specs.Shown.{IsShown}
use Rattle.qm_sight.specs.InCeiling.{IsInCeiling}
use Rattle.std.specs.Prelude.{IfOk}
use Rattle.qm_board.specs.PassOf.{IsPassOf}
use Rattle.qm_board.specs.declared.row_board.RowBoard.{RowBoard}
use Rattle.qm_board.specs.declared.board_rows.BoardRows.{BoardRows}
use Rattle.qm_crew.proofs.TakenTurns.{ceilings_before, narrower_after}
use Rattle.qm_crew.proofs.turn.flow_on.Goals as goal

pub returns : goal.returns
returns g c =
    let portals = c.args.shared.now.world.now.portals in
    let rows = c.over-rows.result.rows in
    let ceilings = ceilings_before c.args.shared.now.world.now c.args.shared.now.board.now c.requires.pass.same_world c.args.pass c.over.result rows c.over.ensures.board c.over.ensures.pass c.over-rows.ensures in
    record {
      pass = record {
        same_world = c.requires.pass.same_world;
        ours =
            subst (λ (b : RowBoard). IsPassOf b c.into_pass.result)
            (ap (λ (r : BoardRows). r.board.now) c.into_rows.ensures ∙ c.flow-row.ensures.on.same_board ∙ ap (λ (r : BoardRows). r.board.now) c.over-rows.ensures ∙ c.over.ensures.board)
            c.into_pass.ensures.ours;
      };
      narrower =
          narrower_after c.args.shared.now.world.now c.args.shared.now.board.now c.requires.pass.same_world c.args.pass c.over.result rows c.over.ensures.board c.over.ensures.pass c.over-rows.ensures
          c.flow-row.new.source.rows c.into_pass.result c.flow-row.ensures.on (c.into_pass.ensures.pass ∙ ap (λ (r : BoardRows). r.pass) c.into_rows.ensures);
      wide = c.flow-row.ensures.wide;
      sound = c.flow-row.ensures.sound;
      open_chains = subst (λ (all : List (List Bool)). IfOk c.flow-row.result (λ row. (n : ℕ) → IsIn row n → IsShown portals (IsInCeiling all n) c.args.portal n)) ceilings c.flow-row.ensures.open_chains;
    }
