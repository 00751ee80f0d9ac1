-- The row of a leaf, by more and more of the portals that leave it; and the rows of all leaves.
use Rattle.std.proofs.Common.{◌≡◌, ℕ, ◌+◌, ◌<◌, ◌||◌, Bool, true, false, List, [], ◌∷◌, ◌++◌, length, take, get_or, set, replicate, slice_get, Some, ◌⊎◌, inl, inr, ⊎_elim, refl, sym, ◌∙◌, subst, arith, ◌↔◌}
use Rattle.std.specs.List.{All, Contains}
use Rattle.std.proofs.lemmas.Bool.{cases_eq, cases_lt}
use Rattle.std.proofs.lemmas.List.{take_more, length-set, length-replicate, get_or-set_same, get_or-set_other, get_or_past, get_or-replicate}
use Rattle.std.proofs.lemmas.List.Elements.{Contains-append_left, Contains-push_cases, Contains-push, Contains-get_or}
use Rattle.std.proofs.lemmas.Option.{slice_get_within}
use Rattle.qm_lists.specs.Union.{IsUnion}
use Rattle.qm_lists.specs.WorkList.{IsIn}
use Rattle.qm_lists.proofs.Elements.{Contains-nil}
use Rattle.qm_lists.proofs.Places.{slice_get-push_cases}
use Rattle.qm_contacts.specs.Portals.{Portal}
use Rattle.qm_contacts.specs.World.{AreLeaving}
use Rattle.qm_coarse_rows.specs.LeafRow.{IsSeenThrough, IsLeafRow}

-- ---- how far loops have come

-- one of some rows, by their places, has the leaf
pub record IsInOneOf (rows : List (List Bool)) (places : List ℕ) (k : ℕ) : Type 0 where
  pub place : ℕ
  pub row : List Bool
  pub listed : Contains places place
  pub row_is : slice_get rows place ≡ Some row
  pub seen : IsIn row k

-- the row has the leaf n, and what these rows have
pub record HasThoseOf (rows : List (List Bool)) (places : List ℕ) (leaves n : ℕ) (row : List Bool) : Type 0 where
  pub one_each : length row ≡ leaves
  pub exactly : (k : ℕ) → IsIn row k ↔ ((k ≡ n) ⊎ IsInOneOf rows places k)

-- the rows of the first leaves
abbrev pub AreLeafRowsSoFar : List Portal → List (List Bool) → ℕ → List (List Bool) → Type 0
AreLeafRowsSoFar portals rows leaves leaf_rows =
    (n : ℕ) (row : List Bool) → slice_get leaf_rows n ≡ Some row → IsLeafRow portals rows leaves n row

-- ---- the leaf itself

module _ (rows : List (List Bool)) (leaves n : ℕ) (within : n < leaves) where
  abbrev own_row : List Bool
  own_row = set (replicate leaves false) n true

  at_own : get_or own_row n false ≡ true
  at_own =
      let long : length {A = Bool} (replicate leaves false) ≡ leaves = length-replicate leaves false in
      get_or-set_same (replicate leaves false) n true false (omega (arith, within, long))

  clear : (k : ℕ) → get_or (replicate leaves false) k false ≡ false
  clear k = ⊎_elim
      (λ inside. get_or-replicate leaves k false false inside)
      (λ past. let long : length {A = Bool} (replicate leaves false) ≡ leaves = length-replicate leaves false in get_or_past (replicate leaves false) k false (omega (arith, past, long)))
      (cases_lt k leaves)

  only_own : (k : ℕ) → IsIn own_row k → k ≡ n
  only_own k is = ⊎_elim
      (λ here. here)
      (λ other. let never : false ≡ true = sym (get_or-set_other (replicate leaves false) n k true false other ∙ clear k) ∙ is in cc)
      (cases_eq k n)

  pub own_only : HasThoseOf rows [] leaves n (set (replicate leaves false) n true)
  own_only = record {
    one_each = length-set (replicate leaves false) n true ∙ length-replicate leaves false;
    exactly = λ k. (
      (λ is. inl (only_own k is)),
      (λ in_row. ⊎_elim (λ here. rw here at_own) (λ one. absurd (Contains-nil one.place one.listed)) in_row),
    );
  }

-- ---- one portal more

either_true : (a b : Bool) → (a || b) ≡ true → (a ≡ true) ⊎ (b ≡ true)
either_true true b is = inl refl
either_true false b is = inr is

left_true : (a b : Bool) → a ≡ true → (a || b) ≡ true
left_true true b is = refl
left_true false b is = cc

right_true : (a b : Bool) → b ≡ true → (a || b) ≡ true
right_true true b is = refl
right_true false b is = is

module _ (rows : List (List Bool)) (places : List ℕ) (leaves n i next : ℕ) (row other new_row : List Bool) (within : i < length places) (at : get_or places i 0 ≡ next) (has : HasThoseOf rows (take i places) leaves n row) (other_is : slice_get rows next ≡ Some other) (union : IsUnion row other new_row) where
  one_more : take (i + 1) places ≡ take i places ++ next ∷ []
  one_more = rw (← at) (take_more places i 0 within)

  in_new : (k : ℕ) → IsIn new_row k ↔ (IsIn row k ⊎ IsIn other k)
  in_new k = (
    (λ is. either_true (get_or row k false) (get_or other k false) (sym (union.in_one k) ∙ is)),
    (λ one. union.in_one k ∙ ⊎_elim (left_true (get_or row k false) (get_or other k false)) (right_true (get_or row k false) (get_or other k false)) one),
  )

  more : (k : ℕ) → IsInOneOf rows (take i places) k → IsInOneOf rows (take (i + 1) places) k
  more k one = record {
    place = one.place;
    row = one.row;
    listed = subst (λ (list : List ℕ). Contains list one.place) (sym one_more) (Contains-append_left (take i places) (next ∷ []) one.place one.listed);
    row_is = one.row_is;
    seen = one.seen;
  }

  newly : (k : ℕ) → IsIn other k → IsInOneOf rows (take (i + 1) places) k
  newly k is = record {
    place = next;
    row = other;
    listed = subst (λ (list : List ℕ). Contains list next) (sym one_more) (Contains-push (take i places) next);
    row_is = other_is;
    seen = is;
  }

  known : (k : ℕ) → IsInOneOf rows (take (i + 1) places) k → IsInOneOf rows (take i places) k ⊎ IsIn other k
  known k one = ⊎_elim
      (λ was. inl (record { place = one.place; row = one.row; listed = was; row_is = one.row_is; seen = one.seen }))
      (λ here. inr (subst (λ (r : List Bool). IsIn r k) (same here) one.seen))
      (Contains-push_cases (take i places) next one.place (subst (λ (list : List ℕ). Contains list one.place) one_more one.listed))
    where
      same : next ≡ one.place → one.row ≡ other
      same here =
          let both : Some one.row ≡ Some other = sym one.row_is ∙ subst (λ (m : ℕ). slice_get rows m ≡ Some other) here other_is in cc

  pub one_more_row : HasThoseOf rows (take (i + 1) places) leaves n new_row
  one_more_row = record {
    one_each = union.same_length ∙ has.one_each;
    exactly = λ k. (
      (λ is. ⊎_elim
          (λ was. ⊎_elim (λ here. inl here) (λ one. inr (more k one)) ((has.exactly k).0 was))
          (λ new. inr (newly k new))
          ((in_new k).0 is)),
      (λ in_row. (in_new k).1 (⊎_elim
          (λ here. inl ((has.exactly k).1 (inl here)))
          (λ one. ⊎_elim (λ was. inl ((has.exactly k).1 (inr was))) (λ new. inr new) (known k one))
          in_row)),
    );
  }

-- ---- all portals that leave the leaf

pub row_of_leaf : (portals : List Portal) (rows : List (List Bool)) (places : List ℕ) (leaves n : ℕ) (row : List Bool) → AreLeaving portals n places → HasThoseOf rows places leaves n row → IsLeafRow portals rows leaves n row
row_of_leaf portals rows places leaves n row leaving has = record {
  one_each = has.one_each;
  exactly = λ k. (
    (λ is. ⊎_elim (λ here. inl here) (λ one. inr (through k one)) ((has.exactly k).0 is)),
    (λ in_row. (has.exactly k).1 (⊎_elim (λ here. inl here) (λ seen. inr (in_one k seen)) in_row)),
  );
}
  where
    through : (k : ℕ) → IsInOneOf rows places k → IsSeenThrough portals rows n k
    through k one =
        let leaves_n = (leaving.leave one.place).0 one.listed in
        record { place = one.place; portal = leaves_n.0; row = one.row; portal_is = leaves_n.1; row_is = one.row_is; from = leaves_n.2; seen = one.seen }

    in_one : (k : ℕ) → IsSeenThrough portals rows n k → IsInOneOf rows places k
    in_one k seen = record {
      place = seen.place;
      row = seen.row;
      listed = (leaving.leave seen.place).1 (seen.portal, seen.portal_is, seen.from);
      row_is = seen.row_is;
      seen = seen.seen;
    }

-- the places of portals that leave a leaf lie within as many rows as there are portals
pub leaving_within : (portals : List Portal) (n : ℕ) (places : List ℕ) → AreLeaving portals n places → All (λ p. p < length portals) places
leaving_within portals n places leaving k d within =
    let one = (leaving.leave (get_or places k d)).0 (Contains-get_or places k d within) in
    slice_get_within portals (get_or places k d) one.0 one.1

-- ---- all leaves

pub one_leaf_more : (portals : List Portal) (rows : List (List Bool)) (leaves n : ℕ) (leaf_rows : List (List Bool)) (row : List Bool) → length leaf_rows ≡ n → AreLeafRowsSoFar portals rows leaves leaf_rows → IsLeafRow portals rows leaves n row → AreLeafRowsSoFar portals rows leaves (leaf_rows ++ row ∷ [])
one_leaf_more portals rows leaves n leaf_rows row long so_far is m one at = ⊎_elim
    (λ was. so_far m one was)
    (λ last. subst (λ (r : List Bool). IsLeafRow portals rows leaves m r) last.1 (subst (λ (k : ℕ). IsLeafRow portals rows leaves k row) (sym (last.0 ∙ long)) is))
    (slice_get-push_cases leaf_rows row one m at)
