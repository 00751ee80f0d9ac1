-- From words for leaves to coarse rows, block by block.
use Rattle.std.proofs.Common.{◌≡◌, ◌≢◌, ℕ, suc, ◌+◌, ◌-◌, ◌*◌, ◌<◌, ◌≤◌, Bool, List, [], ◌∷◌, length, set, Some, slice_get, ⊎_elim, refl, sym, ap, ◌∙◌, subst, arith}
use Rattle.std.specs.List.{All, AllZip}
use Rattle.std.proofs.lemmas.Bool.{cases_eq, cases_lt}
use Rattle.std.proofs.lemmas.List.{length-set, get_or-set_same, get_or-set_other}
use Rattle.std.proofs.lemmas.List.Elements.{All-nil, All-cons}
use Rattle.std.proofs.lemmas.Option.{slice_get-get_or, slice_get_within, get_or_from_slice_get}
use Rattle.qm_lists.specs.Reach.{Reach, start, onward}
use Rattle.qm_lists.proofs.Reached.{least}
use Rattle.qm_lists.proofs.Elements.{Contains-at}
use Rattle.qm_contacts.specs.Portals.{Portal}
use Rattle.qm_contacts.specs.World.{World}
use Rattle.qm_coarse_rows.specs.CoarseRow.{MayFollow, GoesOnFrom, IsCoarseRow}
use Rattle.qm_base.specs.declared.lane.Lane.{Lane}
use Rattle.qm_base.specs.inner.Following.{leaves_of_world, IsCoarseRowAt}
use Rattle.qm_base.specs.inner.Lanes.{IsLane, AreLanes}
use Rattle.qm_base.specs.inner.Ways.{block_of, AreWays}
use Rattle.qm_base.specs.inner.Sweeping.{LeadsInLane, EntersInLane, AreFlooded, IsColumn}
use Rattle.qm_base.specs.inner.Blocks.{HasCoarseRow, AreWritten}
use Rattle.qm_base.proofs.LaneSteps.{lane_at}
use Rattle.qm_base.proofs.WaySteps.{of_block, in_block}

-- ---- how far loops have come

-- the lanes before a place are written
pub record WrittenSoFar (world : World) (lanes : List Lane) (place : ℕ) (old new : List (List Bool)) : Type 0 where
  pub same_count : length new ≡ length old
  pub kept : (p : ℕ) → HasCoarseRow world old p → HasCoarseRow world new p
  pub each : (j : ℕ) (lane : Lane) → j < place → slice_get lanes j ≡ Some lane → HasCoarseRow world new lane.portal

-- the lanes of the blocks before one are written
pub record BlocksSoFar (world : World) (lanes : List Lane) (block : ℕ) (ways : List ℕ) (rows : List (List Bool)) : Type 0 where
  pub one_each : length rows ≡ length world.portals
  pub one_way_each : length ways ≡ length world.portals
  pub each : (k : ℕ) (lane : Lane) → k < 64 * block → slice_get lanes k ≡ Some lane → HasCoarseRow world rows lane.portal

same_of : {X : Type 0} (xs : List X) (k : ℕ) (a b : X) → slice_get xs k ≡ Some a → slice_get xs k ≡ Some b → a ≡ b
same_of xs k a b first second = let both : Some a ≡ Some b = sym first ∙ second in cc

-- ---- the row of a lane

module _ (world : World) (lanes : List Lane) (are : AreLanes world.portals lanes) (block : ℕ) (ways : List ℕ) (words : AreWays world.portals lanes block ways) (seen : List ℕ) (flooded : AreFlooded world ways (block_of block lanes) seen) (j : ℕ) (lane : Lane) (lane_is : slice_get (block_of block lanes) j ≡ Some lane) where
  own : IsLane world.portals lane
  own = let at = of_block block lanes j lane lane_is in lane_at world.portals lanes are.each (64 * block + j) lane at.1

  begins : (n : ℕ) → EntersInLane world.portals (block_of block lanes) j n → n ≡ own.portal.to
  begins n enters =
      let same = same_of (block_of block lanes) j enters.lane lane enters.lane_is lane_is in
      let portal = same_of world.portals lane.portal enters.portal own.portal (ap (λ (l : Lane). slice_get world.portals l.portal) (sym same) ∙ enters.portal_is) own.portal_is in
      sym enters.to ∙ ap (λ (p : Portal). p.to) portal

  goes : (a b : ℕ) → LeadsInLane world.portals ways j a b → GoesOnFrom world.portals own.portal a b
  goes a b one =
      let within = slice_get_within world.portals one.place one.portal one.portal_is in
      let follows = (words.each one.place within j).0 one.passes in
      let same = same_of (block_of block lanes) j follows.lane lane follows.lane_is lane_is in
      let first = same_of world.portals lane.portal follows.follows.first own.portal (ap (λ (l : Lane). slice_get world.portals l.portal) (sym same) ∙ follows.follows.first_is) own.portal_is in
      let second = same_of world.portals one.place follows.follows.second one.portal follows.follows.second_is one.portal_is in
      record {
        portal = one.portal;
        listed = Contains-at world.portals one.place one.portal one.portal_is;
        from = one.from;
        to = one.to;
        follows = subst (λ (p : Portal). MayFollow p one.portal) first (subst (MayFollow follows.follows.first) second follows.follows.follows);
      }

  goes_back : (a b : ℕ) → GoesOnFrom world.portals own.portal a b → LeadsInLane world.portals ways j a b
  goes_back a b one =
      let place = one.listed.0 in
      let there : slice_get world.portals place ≡ Some one.portal = slice_get-get_or world.portals place one.portal one.listed.1 ∙ ap Some one.listed.2 in
      record {
        place = place;
        portal = one.portal;
        portal_is = there;
        from = one.from;
        to = one.to;
        passes = (words.each place one.listed.1 j).1 (record {
          lane = lane;
          lane_is = lane_is;
          follows = record { first = own.portal; second = one.portal; first_is = own.portal_is; second_is = there; follows = one.follows };
        });
      }

  pub column_is_row : (row : List Bool) → IsColumn seen j row → IsCoarseRowAt world lane.portal row
  column_is_row row column = record {
    portal = own.portal;
    portal_is = own.portal_is;
    is = record {
      one_each = column.wide ∙ flooded.wide;
      exactly = λ n. (
        (λ is. least (EntersInLane world.portals (block_of block lanes) j) (LeadsInLane world.portals ways j) (Reach (λ m. m ≡ own.portal.to) (GoesOnFrom world.portals own.portal))
            (λ m enters. start (begins m enters)) (λ a b reached one. onward reached (goes a b one)) n ((flooded.exactly j n).0 ((column.exactly n).0 is))),
        (λ reached. (column.exactly n).1 ((flooded.exactly j n).1 (least (λ m. m ≡ own.portal.to) (GoesOnFrom world.portals own.portal) (Reach (EntersInLane world.portals (block_of block lanes) j) (LeadsInLane world.portals ways j))
            (λ m at. start (record { lane = lane; portal = own.portal; lane_is = lane_is; portal_is = own.portal_is; to = sym at })) (λ a b before one. onward before (goes_back a b one)) n reached))),
      );
    };
  }

-- ---- rows are written

module _ (world : World) (lanes : List Lane) (old : List (List Bool)) where
  pub written_none : WrittenSoFar world lanes 0 old old
  written_none = record { same_count = refl; kept = λ p has. has; each = λ j lane less is. absurd (omega (arith, less)) }

  pub written_more : (place : ℕ) (new : List (List Bool)) (lane : Lane) (row : List Bool) → WrittenSoFar world lanes place old new → slice_get lanes place ≡ Some lane → lane.portal < length old → IsCoarseRowAt world lane.portal row →
      WrittenSoFar world lanes (place + 1) old (set new lane.portal row)
  written_more place new lane row so_far lane_is within is = record {
    same_count = length-set new lane.portal row ∙ so_far.same_count;
    kept = λ p has. kept p (so_far.kept p has);
    each = λ j other less at. ⊎_elim
        (λ here. subst (λ (l : Lane). HasCoarseRow world (set new lane.portal row) l.portal) (same_of lanes place lane other lane_is (ap (slice_get lanes) (sym here) ∙ at)) this)
        (λ apart. kept other.portal (so_far.each j other (omega (arith, less, apart)) at))
        (cases_eq j place);
  }
    where
      in_new : lane.portal < length new
      in_new = let same = so_far.same_count in omega (arith, within, same)

      at_portal : slice_get (set new lane.portal row) lane.portal ≡ Some row
      at_portal =
          let long = length-set new lane.portal row in
          let inside : lane.portal < length (set new lane.portal row) = omega (arith, in_new, long) in
          slice_get-get_or (set new lane.portal row) lane.portal [] inside ∙ ap Some (get_or-set_same new lane.portal row [] in_new)

      this : HasCoarseRow world (set new lane.portal row) lane.portal
      this = record { row = row; row_is = at_portal; is = is }

      kept : (p : ℕ) → HasCoarseRow world new p → HasCoarseRow world (set new lane.portal row) p
      kept p has = ⊎_elim
          (λ here. subst (HasCoarseRow world (set new lane.portal row)) (sym here) this)
          (λ apart. record { row = has.row; row_is = other p has apart; is = has.is })
          (cases_eq p lane.portal)
        where
          other : (p : ℕ) (has : HasCoarseRow world new p) → p ≢ lane.portal → slice_get (set new lane.portal row) p ≡ Some has.row
          other p has apart =
              let long = length-set new lane.portal row in
              let before = slice_get_within new p has.row has.row_is in
              let inside : p < length (set new lane.portal row) = omega (arith, before, long) in
              slice_get-get_or (set new lane.portal row) p [] inside ∙ ap Some (get_or-set_other new lane.portal p row [] apart ∙ get_or_from_slice_get new p has.row [] has.row_is)

  pub written_all : (place : ℕ) (new : List (List Bool)) → length lanes ≤ place → WrittenSoFar world lanes place old new → AreWritten world lanes old new
  written_all place new all so_far = record {
    same_count = so_far.same_count;
    kept = so_far.kept;
    each = λ j lane is. so_far.each j lane (let within = slice_get_within lanes j lane is in omega (arith, within, all)) is;
  }

-- ---- blocks

pub block_more : (world : World) (lanes : List Lane) (block : ℕ) (ways new_ways : List ℕ) (rows new : List (List Bool)) → BlocksSoFar world lanes block ways rows → length new_ways ≡ length ways → AreWritten world (block_of block lanes) rows new → BlocksSoFar world lanes (block + 1) new_ways new
block_more world lanes block ways new_ways rows new so_far same written = record {
  one_each = written.same_count ∙ so_far.one_each;
  one_way_each = same ∙ so_far.one_way_each;
  each = λ k lane less is. ⊎_elim
      (λ before. written.kept lane.portal (so_far.each k lane before is))
      (λ past. written.each (k - 64 * block) lane (in_block block lanes (k - 64 * block) lane (omega (arith, less, past)) (ap (slice_get lanes) (omega (arith, past)) ∙ is)))
      (cases_lt k (64 * block));
}

AllZip-from_places : {X Y : Type 0} (R : X → Y → Type 0) (xs : List X) (ys : List Y) → length ys ≡ length xs → ((p : ℕ) (x : X) → slice_get xs p ≡ Some x → (y : Y) × (slice_get ys p ≡ Some y) × R x y) → AllZip R xs ys
AllZip-from_places R [] [] same each = tt
AllZip-from_places R [] (y ∷ ys) same each = absurd (omega (arith, same))
AllZip-from_places R (x ∷ xs) [] same each = absurd (omega (arith, same))
AllZip-from_places R (x ∷ xs) (y ∷ ys) same each =
    let first = each 0 x refl in
    let both : Some y ≡ Some first.0 = first.1 in
    let at : first.0 ≡ y = cc in
    (subst (R x) at first.2, AllZip-from_places R xs ys (omega (arith, same)) (λ p z is. each (suc p) z is))

module _ (world : World) (lanes : List Lane) (are : AreLanes world.portals lanes) (block : ℕ) (ways : List ℕ) (rows : List (List Bool)) (so_far : BlocksSoFar world lanes block ways rows) (all : length lanes ≤ 64 * block) where
  at_portal : (p : ℕ) (portal : Portal) → slice_get world.portals p ≡ Some portal → (row : List Bool) × (slice_get rows p ≡ Some row) × IsCoarseRow world.portals (leaves_of_world world) portal row
  at_portal p portal is =
      let has = are.every p (slice_get_within world.portals p portal is) in
      let at : slice_get lanes has.among.0 ≡ Some has.lane = slice_get-get_or lanes has.among.0 has.lane has.among.1 ∙ ap Some has.among.2 in
      let one = so_far.each has.among.0 has.lane (let within = has.among.1 in omega (arith, within, all)) at in
      let here : HasCoarseRow world rows p = subst (HasCoarseRow world rows) has.of one in
      (here.row, here.row_is, subst (λ (q : Portal). IsCoarseRow world.portals (leaves_of_world world) q here.row) (same_of world.portals p here.is.portal portal here.is.portal_is is) here.is.is)

  pub all_rows : AllZip (IsCoarseRow world.portals (leaves_of_world world)) world.portals rows
  all_rows = AllZip-from_places (IsCoarseRow world.portals (leaves_of_world world)) world.portals rows so_far.one_each at_portal

  pub all_wide : All (λ row. length row ≡ leaves_of_world world) rows
  all_wide = wide world.portals rows all_rows
    where
      wide : (portals : List Portal) (list : List (List Bool)) → AllZip (IsCoarseRow world.portals (leaves_of_world world)) portals list → All (λ row. length row ≡ leaves_of_world world) list
      wide [] [] zip = All-nil (λ (row : List Bool). length row ≡ leaves_of_world world)
      wide [] (row ∷ list) zip = absurd zip
      wide (portal ∷ portals) [] zip = absurd zip
      wide (portal ∷ portals) (row ∷ list) zip = All-cons (λ (row : List Bool). length row ≡ leaves_of_world world) row list zip.0.one_each (wide portals list zip.1)
