use Rattle.std.proofs.Common.{◌≡◌, ◌∙◌, ℕ, List, [], ◌∷◌, length, sym, ap, subst}
use Rattle.std.specs.List.{range_with_len}
use Rattle.qm_board.specs.PassOf.{findings_of}
use Rattle.qm_crew.specs.inner.TurnsTaken.{LieAlong, AreFinished}
use Rattle.qm_crew.proofs.SettledPortals.{alone_finished}
use Rattle.qm_crew.proofs.crewing.work_by_one.Goals as goal

pub returns : goal.returns
returns c =
    let world = c.args.shared.now.world.now in
    let found = findings_of c.in_ok-pass.field-0.pass in
    let first = c.in_ok-pass.field-0.first.items in
    let whole : c.in_ok-turns.turns ≡ range_with_len 0 (length world.portals) ∷ [] =
    c.in_ok-turns.ensures ∙ ap (λ (lists : List (List ℕ)). first ∷ lists) c.new.ensures.items ∙ ap (λ (list : List ℕ). list ∷ []) c.in_ok-pass.ensures.first in
    record {
      pass = c.in_ok-pass.ensures.pass;
      finished = subst (AreFinished world found 1) (sym whole) (alone_finished world found (subst (LieAlong world found) c.in_ok-pass.ensures.first c.in_ok-pass.ensures.along));
    }
