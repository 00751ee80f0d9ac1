-- Rows of leaves over rows of portals that lie within their reuse over turns.
use Rattle.std.proofs.Common.{◌≡◌, ◌⊎◌, inl, inr, ⊎_elim, ℕ, zero, suc, ◌<◌, Bool, true, false, List, [], ◌∷◌, length, get_or, sym, subst, arith}
use Rattle.std.specs.List.{range_with_len}
use Rattle.std.proofs.lemmas.Option.{slice_get-get_or, get_or_from_slice_get}
use Rattle.qm_lists.specs.WorkList.{IsIn}
use Rattle.qm_lists.proofs.Elements.{Contains-at}
use Rattle.qm_contacts.specs.NumberedLeaves.{numbered_leaves}
use Rattle.qm_contacts.specs.Portals.{Portal}
use Rattle.qm_contacts.specs.World.{World}
use Rattle.qm_coarse_rows.specs.LeafRow.{AreLeafRows}
use Rattle.qm_segments.specs.Sight.{AreSoundRows}
use Rattle.qm_chains.specs.TurnLists.{AreTurns, LieInReuseOver}
use Rattle.qm_chains.proofs.TurnListLaws.{reuse_over_in_bound}
use Rattle.qm_statement.specs.Rows.{IsLedByOpenChain, IsShownFrom, AreRowsOverTurns}

-- a row that has a leaf is there
row_there : (rows : List (List Bool)) (m n : ℕ) → IsIn (get_or rows m []) n → m < length rows
row_there [] m n is = absurd (let e : false ≡ true = is in cc)
row_there (row ∷ rows) zero n is = omega arith
row_there (row ∷ rows) (suc m) n is = let less = row_there rows m n is in omega (arith, less)

module _ (portals : List Portal) (turns : List (List ℕ)) where
  -- so each leaf in the row of another is shown from that one
  only_shown : (portal_rows rows : List (List Bool)) (leaves : ℕ) → LieInReuseOver portals turns portal_rows → AreLeafRows portals portal_rows leaves rows → (m n : ℕ) → IsIn (get_or rows m []) n → (n ≡ m) ⊎ IsShownFrom portals turns m n
  only_shown portal_rows rows leaves reuse are m n is = ⊎_elim
      (λ same. inl same)
      (λ seen.
      let in_row = subst (λ (row : List Bool). IsIn row n) (sym (get_or_from_slice_get portal_rows seen.place seen.row [] seen.row_is)) seen.seen in
      inr (record { number = seen.place; portal = seen.portal; portal_is = seen.portal_is; leaves = seen.from; in_reuse = reuse n seen.place in_row }))
      (((are.each m (get_or rows m []) (slice_get-get_or rows m [] (row_there rows m n is))).exactly n).0 is)

  -- and an open chain that begins with the portal that shows it ends in it
  by_open_chain : (workers m n : ℕ) → AreTurns workers (length portals) turns → IsShownFrom portals turns m n → IsLedByOpenChain portals m n
  by_open_chain workers m n are shown = record {
    first = shown.portal;
    listed = Contains-at portals shown.number shown.portal shown.portal_is;
    leaves = shown.leaves;
    ends = reuse_over_in_bound portals n shown.number shown.portal shown.portal_is workers turns are shown.in_reuse;
  }

  led_or_same : (workers m n : ℕ) → AreTurns workers (length portals) turns → (n ≡ m) ⊎ IsShownFrom portals turns m n → (n ≡ m) ⊎ IsLedByOpenChain portals m n
  led_or_same workers m n are (inl same) = inl same
  led_or_same workers m n are (inr shown) = inr (by_open_chain workers m n are shown)

pub over_turns : (workers : ℕ) (world : World) (turns : List (List ℕ)) (portal_rows rows : List (List Bool)) → AreTurns workers (length world.portals) turns → (workers ≡ 1 → turns ≡ range_with_len 0 (length world.portals) ∷ []) → AreSoundRows world.tree world.portals portal_rows → LieInReuseOver world.portals turns portal_rows → AreLeafRows world.portals portal_rows (length (numbered_leaves world.tree)) rows → AreRowsOverTurns workers world rows
over_turns workers world turns portal_rows rows are_turns alone sound reuse are =
    let shown = only_shown world.portals turns portal_rows rows (length (numbered_leaves world.tree)) reuse are in record {
      turns = turns;
      are_turns = are_turns;
      alone = alone;
      portal_rows = portal_rows;
      are_sound = sound;
      in_reuse = reuse;
      are_leaf_rows = are;
      only_shown = shown;
      only_led = λ m n is. led_or_same world.portals turns workers m n are_turns (shown m n is);
    }
