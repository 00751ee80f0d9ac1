-- The rows at the start and at the end of a crew's work.
use Rattle.std.proofs.Common.{◌≡◌, refl, ℕ, suc, ◌+◌, ◌*◌, ◌/◌, ◌%◌, ◌<◌, Bool, List, [], ◌∷◌, length, get_or, Contains, sym, ap, ◌∙◌, subst, arith}
use Rattle.std.specs.List.{AllZip}
use Rattle.std.proofs.lemmas.List.Elements.{All-weaker}
use Rattle.qm_lists.specs.Word.{IsWord}
use Rattle.qm_lists.specs.WorkList.{IsIn}
use Rattle.qm_contacts.specs.NumberedLeaves.{numbered_leaves}
use Rattle.qm_contacts.specs.OwnPortals.{HasOwnPortals}
use Rattle.qm_contacts.specs.World.{World}
use Rattle.qm_coarse_rows.specs.CoarseRow.{AreCoarseRows}
use Rattle.qm_segments.specs.Sight.{IsSoundRow}
use Rattle.qm_segments.proofs.EndRows.{own_coarse_rows_sound}
use Rattle.qm_chains.specs.TurnLists.{IsInReuseAlong, LieInReuseOver}
use Rattle.qm_chains.proofs.TurnListLaws.{coarse_wide, coarse_before_turns, rows_over_in_bounds}
use Rattle.qm_sight.specs.RowsOfWorld.{AreRowsOfWorld}
use Rattle.qm_shared_rows.specs.Findings.{Findings, ceiling}
use Rattle.qm_shared_rows.specs.Opening.{given_word, first_pass}
use Rattle.qm_shared_rows.proofs.OpeningLaws.{given_is_ceiling}
use Rattle.qm_board.specs.Closed.{AreClosedRows}
use Rattle.qm_board.specs.WorldSets.{width_of}
use Rattle.qm_board.specs.inner.WithinCeilings.{ceiling_portal, ceiling_leaf, ceiling_bit}
use Rattle.qm_crew.specs.InBounds.{LieInBounds}
use Rattle.qm_crew.specs.inner.TurnsTaken.{LieAlong, AreFinished}

-- ---- lists of rows

zipped_long : {X Y : Type 0} (R : X → Y → Type 0) (xs : List X) (ys : List Y) → AllZip R xs ys → length ys ≡ length xs
zipped_long R [] [] zip = refl
zipped_long R [] (y ∷ ys) zip = absurd zip
zipped_long R (x ∷ xs) [] zip = absurd zip
zipped_long R (x ∷ xs) (y ∷ ys) zip = ap suc (zipped_long R xs ys zip.1)

module _ (world : World) where
  abbrev leaves : ℕ
  leaves = length (numbered_leaves world.tree)

  -- ---- coarse rows, from which the crew starts

  pub coarse_of_world : (rows : List (List Bool)) → HasOwnPortals world → AreCoarseRows world.portals leaves rows → AreRowsOfWorld world rows
  coarse_of_world rows own coarse = record {
    sound = own_coarse_rows_sound world own leaves rows coarse;
    wide = coarse_wide world.portals leaves world.portals rows coarse;
  }

  pub coarse_along : (rows : List (List Bool)) (given : List ℕ) (pass : Findings) → AreCoarseRows world.portals leaves rows → pass ≡ first_pass (length world.portals) (width_of world) given →
      ((portal k : ℕ) → portal < length world.portals → k < width_of world → IsWord (get_or rows portal []) k (given_word (width_of world) given portal k)) → LieAlong world pass []
  coarse_along rows given pass coarse pass_is are_words n q is =
      let inside = ceiling_portal world pass n q is in
      let within = ceiling_leaf world pass n q is in
      let k_within : n / 64 < width_of world = omega (arith, within) in
      let word = given_word (width_of world) given q (n / 64) in
      let listed : Contains pass.ceilings (ceiling q (n / 64) word) =
      subst (λ (f : Findings). Contains f.ceilings (ceiling q (n / 64) word)) (sym pass_is) (given_is_ceiling (length world.portals) (width_of world) given q (n / 64) inside k_within) in
      let has = ceiling_bit world pass n q is word listed in
      let place : 64 * (n / 64) + n % 64 ≡ n = omega arith in
      let less : n % 64 < 64 = omega arith in
      let in_row : IsIn (get_or rows q []) n = subst (IsIn (get_or rows q [])) place (sym (are_words q (n / 64) inside k_within (n % 64) less) ∙ has) in
      coarse_before_turns world.portals leaves rows coarse n q in_row

  -- ---- rows of a board that was closed

  module _ (pass : Findings) (rows : List (List Bool)) (closed : AreClosedRows world pass rows) where
    pub closed_long : length rows ≡ length world.portals
    closed_long = zipped_long (IsSoundRow world.tree) world.portals rows closed.are_rows.sound

    module _ (workers : ℕ) (turns : List (List ℕ)) (finished : AreFinished world pass workers turns) where
      pub finished_reuse : LieInReuseOver world.portals turns rows
      finished_reuse n q is =
          All-weaker (LieAlong world pass) (λ list. IsInReuseAlong world.portals list q n) (λ list along. along n q (closed.within q n is)) turns finished.along

      pub finished_bounds : LieInBounds world.portals rows
      finished_bounds n q portal at is = rows_over_in_bounds world.portals workers turns rows finished.are_turns finished_reuse n q portal at is
