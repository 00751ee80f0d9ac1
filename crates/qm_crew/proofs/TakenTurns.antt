-- Turns that were taken on a board, by what a pass knows of it.
use Rattle.std.proofs.Common.{◌≡◌, ◌∙◌, ℕ, Bool, List, [], ◌∷◌, ◌++◌, sym, ap, subst}
use Rattle.qm_lists.specs.WorkList.{IsIn}
use Rattle.qm_contacts.specs.World.{World}
use Rattle.qm_chains.specs.Shown.{IsShown}
use Rattle.qm_chains.proofs.TurnLaws.{shown_in_bound}
use Rattle.qm_chains.proofs.TurnListLaws.{turn_appended}
use Rattle.qm_sight.specs.InCeiling.{IsInCeiling}
use Rattle.qm_shared_rows.specs.Findings.{Findings, with_drawn, with_found, without_drawn, DoneWord}
use Rattle.qm_board.specs.Ceilings.{ceiling_rows}
use Rattle.qm_board.specs.GoesOn.{HasMore}
use Rattle.qm_board.specs.PassOf.{world_of, findings_of}
use Rattle.qm_board.specs.Published.{IsPublished}
use Rattle.qm_board.specs.WorldSets.{IsInBoundAt}
use Rattle.qm_board.specs.declared.board_rows.BoardRows.{BoardRows}
use Rattle.qm_board.specs.declared.pass.Pass.{Pass}
use Rattle.qm_board.specs.declared.row_board.RowBoard.{RowBoard}
use Rattle.qm_board.specs.BoardSource.{GoesOnWithMore, ceilings_on}
use Rattle.qm_board.specs.inner.WithinCeilings.{more_narrows}
use Rattle.qm_board.proofs.CeilingLaws.{published_more, published_row}
use Rattle.qm_crew.specs.inner.TurnsTaken.{IsNarrower, HadTurn, LieAlong}

module _ (world : World) where
  pub narrower_itself : (pass : Findings) → IsNarrower world pass pass
  narrower_itself pass q n is = is

  pub narrower_in_turn : (first second third : Findings) → IsNarrower world first second → IsNarrower world second third → IsNarrower world first third
  narrower_in_turn first second third one two q n is = one q n (two q n is)

  -- numbers drawn and done words found change no ceiling
  pub drawn_narrower : (number : ℕ) (old new : Findings) → new ≡ with_drawn number old → IsNarrower world old new
  unfolding ceiling_rows
  drawn_narrower number old new is = subst (IsNarrower world old) (sym is) (λ q n has. has)

  pub found_narrower : (word : DoneWord) (old new : Findings) → new ≡ with_found word old → IsNarrower world old new
  unfolding ceiling_rows
  found_narrower word old new is = subst (IsNarrower world old) (sym is) (λ q n has. has)

  pub split_narrower : (old new : Findings) → new ≡ without_drawn old → IsNarrower world old new
  unfolding ceiling_rows
  split_narrower old new is = subst (IsNarrower world old) (sym is) (λ q n has. has)

  pub along_narrower : (list : List ℕ) (old new : Findings) → LieAlong world old list → IsNarrower world old new → LieAlong world new list
  along_narrower list old new along narrower n q is = along n q (narrower q n is)

  -- the law of one turn, where the portal comes last in its list
  pub along_turn : (list : List ℕ) (portal : ℕ) (old new : Findings) → LieAlong world old list → HadTurn world portal old new → LieAlong world new (list ++ portal ∷ [])
  along_turn list portal old new along turn =
      turn_appended world.portals list portal (λ n q. IsInCeiling (ceiling_rows world old) n q) (λ n q. IsInCeiling (ceiling_rows world new) n q)
      along turn.shown (λ n q other is. turn.narrower q n is)

  -- a row that was flowed over the rows as they stood, and published
  pub turn_published : (portal : ℕ) (row : List Bool) (old mid new : Findings) → IsNarrower world old mid →
      ((n : ℕ) → IsIn row n → IsShown world.portals (IsInCeiling (ceiling_rows world old) n) portal n) → IsPublished world portal row mid new → HadTurn world portal old new
  turn_published portal row old mid new narrower shown published = record {
    narrower = λ q n is. narrower q n (published_more world portal row mid new published n q is);
    shown = λ n is. shown n (published_row world portal row mid new published n is);
  }

  -- ---- a board as a source of rows: `before` is what a flow began with, and `after` what it left

  module _ (board : RowBoard) (same_world : world_of board ≡ world) (pass : Pass) (over before : BoardRows) (board_is : over.board.now ≡ board) (pass_is : over.pass ≡ pass) (is : before ≡ over) where
    pub ceilings_before : ceilings_on before ≡ ceiling_rows world (findings_of pass)
    ceilings_before =
        ap (λ (rows : BoardRows). ceilings_on rows) is ∙ ap (λ (b : RowBoard). ceiling_rows (world_of b) (findings_of over.pass)) board_is
        ∙ ap (λ (p : Pass). ceiling_rows (world_of board) (findings_of p)) pass_is ∙ ap (λ (w : World). ceiling_rows w (findings_of pass)) same_world

    pub narrower_after : (after : BoardRows) (end : Pass) → GoesOnWithMore before after → end ≡ after.pass → IsNarrower world (findings_of pass) (findings_of end)
    narrower_after after end on end_is =
        let began : before.pass ≡ pass = ap (λ (rows : BoardRows). rows.pass) is ∙ pass_is in
        more_narrows world (findings_of pass) (findings_of end)
        (subst (λ (p : Pass). HasMore (findings_of pass) (findings_of p)) (sym end_is) (subst (λ (p : Pass). HasMore (findings_of p) (findings_of after.pass)) began on.more))

  -- a leaf that is shown is in the bound
  pub shown_bound : (Has : ℕ → Type 0) (portal n : ℕ) → IsShown world.portals Has portal n → IsInBoundAt world portal n
  shown_bound Has portal n shown = record { portal = shown.first; portal_is = shown.first_is; bound = shown_in_bound world.portals Has portal n shown }
