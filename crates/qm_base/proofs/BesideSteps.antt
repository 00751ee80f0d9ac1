-- Rows of the lanes with corners on one side of a plane, lane by lane.
use Rattle.std.proofs.Common.{◌≡◌, ℕ, ◌+◌, ◌<◌, ◌≤◌, Bool, true, false, List, [], ◌∷◌, ◌++◌, length, get_or, set, replicate, Some, None, slice_get, ◌⊎◌, inl, inr, ⊎_elim, refl, sym, ap, ◌∙◌, subst, arith, ◌↔◌}
use Rattle.std.specs.List.{All}
use Rattle.std.proofs.lemmas.Bool.{cases_eq, cases_lt}
use Rattle.std.proofs.lemmas.List.{length-append, length-set, length-replicate, get_or-set_same, get_or-set_other, get_or_past, get_or-replicate}
use Rattle.std.proofs.lemmas.List.Elements.{All-nil, All-push, All-from_get_or}
use Rattle.std.proofs.lemmas.Option.{slice_get_within, slice_get_cases}
use Rattle.qm_lists.specs.WorkList.{IsIn}
use Rattle.qm_space.specs.Plane.{Plane}
use Rattle.qm_convex.specs.Winding.{Winding}
use Rattle.qm_convex.specs.Sides.{HasCornerInFront, HasCornerBehind}
use Rattle.qm_contacts.specs.Portals.{Portal}
use Rattle.qm_base.specs.declared.lane.Lane.{Lane}
use Rattle.qm_base.specs.declared.beside.Beside.{Beside}
use Rattle.qm_base.specs.inner.Besides.{IsFrontAt, IsBehindAt, IsBeside, IsPutAt, no_beside, beside_at, AreBesides, AreClear, IsPutBeside, IsPutIn}

-- ---- how far loops have come

-- the lanes before a place are put in
pub record BesideSoFar (portals : List Portal) (lanes : List Lane) (plane : Plane) (place : ℕ) (front_row behind_row : List Bool) : Type 0 where
  pub front_wide : length front_row ≡ length lanes
  pub behind_wide : length behind_row ≡ length lanes
  pub front : (k : ℕ) → IsIn front_row k ↔ ((k < place) × IsFrontAt portals lanes plane k)
  pub behind : (k : ℕ) → IsIn behind_row k ↔ ((k < place) × IsBehindAt portals lanes plane k)

-- for the planes before one
pub record PutInSoFar (winding : Winding) (planes : List Plane) (place count : ℕ) (old new : List Beside) : Type 0 where
  pub same_count : length new ≡ length old
  pub each : (class : ℕ) (plane : Plane) → class < count → slice_get planes class ≡ Some plane → IsPutBeside winding plane place (beside_at old class) (beside_at new class)
  pub left : (class : ℕ) → count ≤ class → beside_at new class ≡ beside_at old class

-- the lanes before a place are put in, for all planes
pub record BesidesSoFar (portals : List Portal) (lanes : List Lane) (planes : List Plane) (place : ℕ) (table : List Beside) : Type 0 where
  pub one_each : length table ≡ length planes
  pub each : (class : ℕ) (plane : Plane) → slice_get planes class ≡ Some plane → BesideSoFar portals lanes plane place (beside_at table class).front (beside_at table class).behind

-- ---- one place

pub put_set : (place : ℕ) (old : List Bool) → place < length old → IsPutAt place true old (set old place true)
put_set place old within = record {
  same_length = length-set old place true;
  here = ((λ _. inr refl), (λ _. get_or-set_same old place true false within));
  elsewhere = λ k other. get_or-set_other old place k true false other;
}

pub put_none : (place : ℕ) (row : List Bool) → IsPutAt place false row row
put_none place row = record {
  same_length = refl;
  here = ((λ is. inl is), (λ is. ⊎_elim (λ was. was) (λ never. absurd cc) is));
  elsewhere = λ k other. refl;
}

no_place : (n k : ℕ) → IsIn (replicate n false) k → ⊥
no_place n k is =
    let clear : get_or (replicate n false) k false ≡ false = ⊎_elim
    (λ within. get_or-replicate n k false false within)
    (λ past. let long : length {A = Bool} (replicate n false) ≡ n = length-replicate n false in get_or_past (replicate n false) k false (omega (arith, past, long)))
    (cases_lt k n) in
    let never : false ≡ true = sym clear ∙ is in
    absurd cc

-- ---- places that have a property, up to one

module _ (P : ℕ → Type 0) where
  pub none_put : (n : ℕ) (k : ℕ) → IsIn (replicate n false) k ↔ ((k < 0) × P k)
  none_put n k = ((λ is. absurd (no_place n k is)), (λ both. absurd (omega (arith, both.0))))

  pub one_put : (place : ℕ) (is : Bool) (old new : List Bool) → ((k : ℕ) → IsIn old k ↔ ((k < place) × P k)) → IsPutAt place is old new → ((is ≡ true) ↔ P place) →
      (k : ℕ) → IsIn new k ↔ ((k < place + 1) × P k)
  one_put place is old new so_far put same k = ⊎_elim
      (λ here. (
        (λ set_now. (
          omega (arith, here),
          ⊎_elim
              (λ was. let both = (so_far place).0 was in absurd (omega (arith, both.0)))
              (λ now. subst P (sym here) (same.0 now))
              (put.here.0 (subst (IsIn new) here set_now)),
        )),
        (λ both. subst (IsIn new) (sym here) (put.here.1 (inr (same.1 (subst P here both.1))))),
      ))
      (λ other. (
        (λ set_now. let both = (so_far k).0 (sym (put.elsewhere k other) ∙ set_now) in (omega (arith, both.0), both.1)),
        (λ both. put.elsewhere k other ∙ (so_far k).1 (omega (arith, both.0, other), both.1)),
      ))
      (cases_eq k place)

  pub all_put : (row : List Bool) (place : ℕ) → ((k : ℕ) → P k → k < place) → ((k : ℕ) → IsIn row k ↔ ((k < place) × P k)) → (k : ℕ) → IsIn row k ↔ P k
  all_put row place below so_far k = ((λ is. ((so_far k).0 is).1), (λ has. (so_far k).1 (below k has, has)))

-- ---- both rows

module _ (portals : List Portal) (lanes : List Lane) (plane : Plane) where
  pub beside_begins : (front behind : List Bool) → front ≡ replicate (length lanes) false → behind ≡ replicate (length lanes) false → BesideSoFar portals lanes plane 0 front behind
  beside_begins front behind no_front no_behind = rw no_front rw no_behind record {
    front_wide = length-replicate (length lanes) false;
    behind_wide = length-replicate (length lanes) false;
    front = none_put (IsFrontAt portals lanes plane) (length lanes);
    behind = none_put (IsBehindAt portals lanes plane) (length lanes);
  }

  module _ (place : ℕ) (lane : Lane) (portal : Portal) (lane_is : slice_get lanes place ≡ Some lane) (portal_is : slice_get portals lane.portal ≡ Some portal) where
    front_here : HasCornerInFront portal.winding plane ↔ IsFrontAt portals lanes plane place
    front_here = (
      (λ corner. record { lane = lane; portal = portal; lane_is = lane_is; portal_is = portal_is; corner = corner }),
      (λ at.
          let same_lane : Some at.lane ≡ Some lane = sym at.lane_is ∙ lane_is in
          let lane_of : at.lane ≡ lane = cc in
          let same_portal : Some at.portal ≡ Some portal = sym at.portal_is ∙ ap (λ (l : Lane). slice_get portals l.portal) lane_of ∙ portal_is in
          let portal_of : at.portal ≡ portal = cc in
          subst (λ (p : Portal). HasCornerInFront p.winding plane) portal_of at.corner),
    )

    behind_here : HasCornerBehind portal.winding plane ↔ IsBehindAt portals lanes plane place
    behind_here = (
      (λ corner. record { lane = lane; portal = portal; lane_is = lane_is; portal_is = portal_is; corner = corner }),
      (λ at.
          let same_lane : Some at.lane ≡ Some lane = sym at.lane_is ∙ lane_is in
          let lane_of : at.lane ≡ lane = cc in
          let same_portal : Some at.portal ≡ Some portal = sym at.portal_is ∙ ap (λ (l : Lane). slice_get portals l.portal) lane_of ∙ portal_is in
          let portal_of : at.portal ≡ portal = cc in
          subst (λ (p : Portal). HasCornerBehind p.winding plane) portal_of at.corner),
    )

    pub beside_more : (is_front is_behind : Bool) (old_front old_behind front behind : List Bool) → BesideSoFar portals lanes plane place old_front old_behind →
        IsPutAt place is_front old_front front → IsPutAt place is_behind old_behind behind →
        ((is_front ≡ true) ↔ HasCornerInFront portal.winding plane) → ((is_behind ≡ true) ↔ HasCornerBehind portal.winding plane) → BesideSoFar portals lanes plane (place + 1) front behind
    beside_more is_front is_behind old_front old_behind front behind so_far put_front put_behind says_front says_behind = record {
      front_wide = put_front.same_length ∙ so_far.front_wide;
      behind_wide = put_behind.same_length ∙ so_far.behind_wide;
      front = one_put (IsFrontAt portals lanes plane) place is_front old_front front so_far.front put_front ((λ t. front_here.0 (says_front.0 t)), (λ at. says_front.1 (front_here.1 at)));
      behind = one_put (IsBehindAt portals lanes plane) place is_behind old_behind behind so_far.behind put_behind ((λ t. behind_here.0 (says_behind.0 t)), (λ at. says_behind.1 (behind_here.1 at)));
    }

  pub beside_ends : (place : ℕ) (beside : Beside) → length lanes ≤ place → BesideSoFar portals lanes plane place beside.front beside.behind → IsBeside portals lanes plane beside
  beside_ends place beside all so_far = record {
    front_wide = so_far.front_wide;
    behind_wide = so_far.behind_wide;
    front = all_put (IsFrontAt portals lanes plane) beside.front place (λ k at. let within = slice_get_within lanes k at.lane at.lane_is in omega (arith, within, all)) so_far.front;
    behind = all_put (IsBehindAt portals lanes plane) beside.behind place (λ k at. let within = slice_get_within lanes k at.lane at.lane_is in omega (arith, within, all)) so_far.behind;
  }

-- ---- for one plane after another

module _ (winding : Winding) (planes : List Plane) (place : ℕ) (old : List Beside) where
  pub put_in_none : PutInSoFar winding planes place 0 old old
  put_in_none = record { same_count = refl; each = λ class plane less is. absurd (omega (arith, less)); left = λ class from. refl }

  pub put_in_more : (count : ℕ) (plane : Plane) (new : List Beside) (beside : Beside) → slice_get planes count ≡ Some plane → count < length old → PutInSoFar winding planes place count old new →
      IsPutBeside winding plane place (beside_at new count) beside → PutInSoFar winding planes place (count + 1) old (set new count beside)
  put_in_more count plane new beside plane_is within so_far put = record {
    same_count = length-set new count beside ∙ so_far.same_count;
    each = λ class other less is. ⊎_elim
        (λ here. at_count class other here is)
        (λ apart. subst (IsPutBeside winding other place (beside_at old class)) (sym (get_or-set_other new count class beside no_beside apart)) (so_far.each class other (omega (arith, less, apart)) is))
        (cases_eq class count);
    left = λ class from. get_or-set_other new count class beside no_beside (λ same. omega (arith, from, same)) ∙ so_far.left class (omega (arith, from));
  }
    where
      in_new : count < length new
      in_new = let same = so_far.same_count in omega (arith, within, same)

      put_now : IsPutBeside winding plane place (beside_at old count) (beside_at (set new count beside) count)
      put_now = subst (IsPutBeside winding plane place (beside_at old count)) (sym (get_or-set_same new count beside no_beside in_new)) (subst (λ (b : Beside). IsPutBeside winding plane place b beside) (so_far.left count (omega arith)) put)

      at_count : (class : ℕ) (other : Plane) → class ≡ count → slice_get planes class ≡ Some other → IsPutBeside winding other place (beside_at old class) (beside_at (set new count beside) class)
      at_count class other here is =
          let both : Some plane ≡ Some other = sym plane_is ∙ ap (slice_get planes) (sym here) ∙ is in
          let same : plane ≡ other = cc in
          subst (λ (n : ℕ). IsPutBeside winding other place (beside_at old n) (beside_at (set new count beside) n)) (sym here) (subst (λ (h : Plane). IsPutBeside winding h place (beside_at old count) (beside_at (set new count beside) count)) same put_now)

  pub put_in_all : (count : ℕ) (new : List Beside) → length planes ≤ count → PutInSoFar winding planes place count old new → IsPutIn winding planes place old new
  put_in_all count new all so_far = record {
    same_count = so_far.same_count;
    each = λ class plane is. so_far.each class plane (let within = slice_get_within planes class plane is in omega (arith, within, all)) is;
  }

-- ---- one lane after another

module _ (portals : List Portal) (lanes : List Lane) (planes : List Plane) where
  pub besides_none : (table : List Beside) → AreClear (length planes) (length lanes) table → BesidesSoFar portals lanes planes 0 table
  besides_none table clear = record {
    one_each = clear.one_each;
    each = λ class plane is.
        let within : class < length table = let in_planes = slice_get_within planes class plane is in let each = clear.one_each in omega (arith, in_planes, each) in
        beside_begins portals lanes plane (beside_at table class).front (beside_at table class).behind (clear.front class no_beside within) (clear.behind class no_beside within);
  }

  pub besides_more : (place : ℕ) (lane : Lane) (portal : Portal) (winding : Winding) (old new : List Beside) → slice_get lanes place ≡ Some lane → slice_get portals lane.portal ≡ Some portal → winding ≡ portal.winding →
      BesidesSoFar portals lanes planes place old → IsPutIn winding planes place old new → BesidesSoFar portals lanes planes (place + 1) new
  besides_more place lane portal winding old new lane_is portal_is of so_far put = record {
    one_each = put.same_count ∙ so_far.one_each;
    each = λ class plane is.
        let one = subst (λ (w : Winding). IsPutBeside w plane place (beside_at old class) (beside_at new class)) of (put.each class plane is) in
        beside_more portals lanes plane place lane portal lane_is portal_is one.is_front one.is_behind (beside_at old class).front (beside_at old class).behind (beside_at new class).front (beside_at new class).behind
        (so_far.each class plane is) one.front one.behind one.says_front one.says_behind;
  }

  pub besides_all : (place : ℕ) (table : List Beside) → length lanes ≤ place → BesidesSoFar portals lanes planes place table → AreBesides portals lanes planes table
  besides_all place table all so_far = record {
    one_each = so_far.one_each;
    each = λ class plane is. beside_ends portals lanes plane place (beside_at table class) all (so_far.each class plane is);
  }

  -- each row has a place for a lane
  module _ (place : ℕ) (table : List Beside) (so_far : BesidesSoFar portals lanes planes place table) (within : place < length lanes) where
    wide_at : (class : ℕ) → class < length table → (length (beside_at table class).front ≡ length lanes) × (length (beside_at table class).behind ≡ length lanes)
    wide_at class in_table = by_case (slice_get_cases planes class)
      where
        by_case : (slice_get planes class ≡ slice_get planes class) × (((h : Plane) × (class < length planes) × (slice_get planes class ≡ Some h) × (get_or planes class h ≡ h)) ⊎ ((length planes ≤ class) × (slice_get planes class ≡ None))) →
            (length (beside_at table class).front ≡ length lanes) × (length (beside_at table class).behind ≡ length lanes)
        by_case (same, inl some) = let is = so_far.each class some.0 some.2 in (is.front_wide, is.behind_wide)
        by_case (same, inr past) = absurd (let each = so_far.one_each in let most = past.0 in omega (arith, each, most, in_table))

    pub fronts_within : All (λ beside. place < length beside.front) table
    fronts_within = All-from_get_or (λ (beside : Beside). place < length beside.front) table no_beside (λ class in_table. let wide = (wide_at class in_table).0 in omega (arith, wide, within))

    pub behinds_within : All (λ beside. place < length beside.behind) table
    behinds_within = All-from_get_or (λ (beside : Beside). place < length beside.behind) table no_beside (λ class in_table. let wide = (wide_at class in_table).1 in omega (arith, wide, within))

-- none is put in
module _ (lanes : ℕ) where
  pub clear_none : AreClear 0 lanes []
  clear_none = record { one_each = refl; front = All-nil (λ (beside : Beside). beside.front ≡ replicate lanes false); behind = All-nil (λ (beside : Beside). beside.behind ≡ replicate lanes false) }

  pub clear_more : (count : ℕ) (table : List Beside) (beside : Beside) → AreClear count lanes table → beside.front ≡ replicate lanes false → beside.behind ≡ replicate lanes false → AreClear (count + 1) lanes (table ++ beside ∷ [])
  clear_more count table beside clear front behind = record {
    one_each = let one = length-append table (beside ∷ []) in let each = clear.one_each in omega (arith, one, each);
    front = All-push (λ (b : Beside). b.front ≡ replicate lanes false) table beside clear.front front;
    behind = All-push (λ (b : Beside). b.behind ≡ replicate lanes false) table beside clear.behind behind;
  }
