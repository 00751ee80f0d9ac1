-- Turns in lists that several workers take beside one another, and the reuse over them.
use Rattle.std.proofs.Common.{◌≡◌, ◌≢◌, refl, ⊎_elim, ◌↔◌, ℕ, zero, suc, ◌+◌, ◌<◌, Bool, true, false, List, [], ◌∷◌, ◌++◌, reverse, length, get_or, Contains, Some, sym, ap, subst, ◌∙◌, arith}
use Rattle.std.specs.Prelude.{All}
use Rattle.std.specs.List.{AllZip, Any, range_with_len}
use Rattle.std.specs.List.Sorted.{IsStrictlyIncreasing}
use Rattle.std.proofs.lemmas.Bool.{cases_lt}
use Rattle.std.proofs.lemmas.Option.{slice_get_within}
use Rattle.std.proofs.lemmas.List.{append-nil, get_or_append_left, get_or-append-add, length_push}
use Rattle.std.proofs.lemmas.List.FromFn.{length-range_with_len, get_or-range_with_len}
use Rattle.std.proofs.lemmas.List.Elements.{All-nil, All-cons, All-head}
use Rattle.std.proofs.lemmas.List.Sorted.{Contains-permutation, IsPermutation-reverse}
use Rattle.qm_lists.specs.WorkList.{IsIn}
use Rattle.qm_lists.proofs.Elements.{Contains-nil, Contains-cons_cases}
use Rattle.qm_lists.proofs.Reversed.{reverse-push}
use Rattle.qm_contacts.specs.Portals.{Portal}
use Rattle.qm_coarse_rows.specs.CoarseRow.{IsInCoarseRow, IsCoarseRow, AreCoarseRows}
use Rattle.qm_separators.specs.PortalSteps.{IsInChainBound}
use Rattle.qm_chains.specs.Shown.{IsAt, IsShown}
use Rattle.qm_chains.specs.Turns.{MayHaveAfter, turns_up_to, IsInReuse, LieWithinTurns, LieInReuse}
use Rattle.qm_chains.specs.TurnLists.{AscendTwice, AreTurns, IsInReuseAlong, IsInReuseOver, LieInReuseOver}
use Rattle.qm_chains.proofs.TurnLaws.{shown_in_bound, turn_taken}

-- ---- the turns of one worker, in order

-- all portals in order of their numbers
abbrev pub in_order : ℕ → List ℕ
in_order portals = range_with_len 0 portals

counted_more : (a n j : ℕ) → a + n ≡ j → range_with_len a (suc n) ≡ range_with_len a n ++ j ∷ []
counted_more a zero j e = let same : a ≡ j = omega arith in ap (λ (k : ℕ). k ∷ []) same
counted_more a (suc n) j e = ap (λ (l : List ℕ). a ∷ l) (counted_more (a + 1) n j (omega arith))

pub in_order_more : (k : ℕ) → in_order (suc k) ≡ in_order k ++ k ∷ []
in_order_more k = counted_more 0 k k (omega arith)

pub reverse_in_order : (k : ℕ) → reverse (in_order k) ≡ turns_up_to k
reverse_in_order zero = refl
reverse_in_order (suc k) = ap reverse (in_order_more k) ∙ reverse-push (in_order k) k ∙ ap (λ (l : List ℕ). k ∷ l) (reverse_in_order k)

in_order_at : (k i d : ℕ) → i < k → get_or (in_order k) i d ≡ i
in_order_at k i d within = let is = get_or-range_with_len 0 k i d within in omega (arith, is)

pub in_order_ascends : (k : ℕ) → IsStrictlyIncreasing (in_order k)
in_order_ascends k i within =
    let long = length-range_with_len 0 k in
    let here = in_order_at k i 0 (omega (arith, long, within)) in
    let next = in_order_at k (i + 1) 0 (omega (arith, long, within)) in
    omega (arith, here, next)

-- ---- lists that ascend

pub none_ascends : IsStrictlyIncreasing []
none_ascends k within = absurd (omega (arith, within))

-- a list that ascends does so with one number more that is above all of it
pub ascends_more : (list : List ℕ) (number : ℕ) → IsStrictlyIncreasing list → All (λ other. other < number) list → IsStrictlyIncreasing (list ++ number ∷ [])
ascends_more list number ascends above k within =
    let long = length_push list number in
    let low : get_or (list ++ number ∷ []) k 0 ≡ get_or list k 0 = get_or_append_left list (number ∷ []) 0 k (omega (arith, long, within)) in
    ⊎_elim
    (λ inside.
    let high = get_or_append_left list (number ∷ []) 0 (k + 1) inside in
    let both = ascends k inside in
    omega (arith, low, high, both))
    (λ at_end.
    let place : k + 1 ≡ length list + 0 = omega (arith, long, within, at_end) in
    let high : get_or (list ++ number ∷ []) (k + 1) 0 ≡ number = ap (λ (i : ℕ). get_or (list ++ number ∷ []) i 0) place ∙ get_or-append-add list (number ∷ []) 0 0 in
    let below = above k 0 (omega (arith, long, within)) in
    omega (arith, low, high, below))
    (cases_lt (k + 1) (length list))

pub ascends_once : (list : List ℕ) → IsStrictlyIncreasing list → AscendTwice list
ascends_once list ascends = record {
  first = list;
  second = [];
  both = sym (append-nil list);
  first_ascends = ascends;
  second_ascends = none_ascends;
}

-- the one list of all portals in order is turns of one worker
pub turns_in_order : (portals : ℕ) → AreTurns 1 portals (in_order portals ∷ [])
turns_in_order portals =
    let long = length-range_with_len 0 portals in
    record {
      one_each = refl;
      in_range =
          All-cons (All (λ number. number < portals)) (in_order portals) []
          (λ k d within. let is = in_order_at portals k d (omega (arith, long, within)) in omega (arith, is, long, within))
          (All-nil (All (λ number. number < portals)));
      each_stands = λ number within. (0, in_order portals, omega arith, refl, (number, omega (arith, long, within), in_order_at portals number number within));
      first_ascends = ascends_once (in_order portals) (in_order_ascends portals);
      others_ascend = All-nil IsStrictlyIncreasing;
    }

module _ (portals : List Portal) where
  -- ---- the reuse over the one list in order

  pub reuse_in_order : (n q : ℕ) → IsInReuseOver portals (in_order (length portals) ∷ []) q n ↔ IsInReuse portals q n
  reuse_in_order n q =
      let same : reverse (in_order (length portals)) ≡ turns_up_to (length portals) = reverse_in_order (length portals) in
      let Along = λ (list : List ℕ). IsInReuseAlong portals list q n in (
        (λ over. subst (λ (turns : List ℕ). MayHaveAfter portals turns n q) same (All-head Along (in_order (length portals)) [] over)),
        (λ reuse. All-cons Along (in_order (length portals)) [] (subst (λ (turns : List ℕ). MayHaveAfter portals turns n q) (sym same) reuse) (All-nil Along)),
      )

  pub rows_in_order : (rows : List (List Bool)) → LieInReuseOver portals (in_order (length portals) ∷ []) rows ↔ LieInReuse portals rows
  rows_in_order rows = (
    (λ over n q is. (reuse_in_order n q).0 (over n q is)),
    (λ reuse n q is. (reuse_in_order n q).1 (reuse n q is)),
  )

  -- ---- one turn

  -- the law of one turn, where the portal comes last in its list
  pub turn_appended : (list : List ℕ) (p : ℕ) (Old New : ℕ → ℕ → Type 0) →
      ((n q : ℕ) → Old n q → IsInReuseAlong portals list q n) →
      ((n : ℕ) → New n p → IsShown portals (Old n) p n) →
      ((n q : ℕ) → q ≢ p → New n q → Old n q) →
      (n q : ℕ) → New n q → IsInReuseAlong portals (list ++ p ∷ []) q n
  turn_appended list p Old New old found stays n q has =
      subst (λ (turns : List ℕ). MayHaveAfter portals turns n q) (sym (reverse-push list p)) (turn_taken portals (reverse list) p Old New old found stays n q has)

  -- ---- the bound

  module _ (n q : ℕ) where
    module _ (portal : Portal) (at : IsAt portals q portal) where
      -- a leaf that the row of a portal may have once the portal had its turn is in the bound of the portal
      pub may_in_bound : (turns : List ℕ) → Contains turns q → MayHaveAfter portals turns n q → IsInChainBound portals portal n
      may_in_bound [] stands may = absurd (Contains-nil q stands)
      may_in_bound (p ∷ turns) stands may = ⊎_elim
          (λ here.
          let shown = may.1 (sym here) in
          let first : shown.first ≡ portal = let e : Some shown.first ≡ Some portal = sym shown.first_is ∙ subst (λ (i : ℕ). IsAt portals i portal) (sym here) at in cc in
          subst (λ (r : Portal). IsInChainBound portals r n) first (shown_in_bound portals (MayHaveAfter portals turns n) p n shown))
          (λ later. may_in_bound turns later may.0)
          (Contains-cons_cases p q turns stands)

      pub along_in_bound : (list : List ℕ) → Contains list q → IsInReuseAlong portals list q n → IsInChainBound portals portal n
      along_in_bound list stands may = may_in_bound (reverse list) (Contains-permutation list (reverse list) q (IsPermutation-reverse list) stands) may

      -- the reuse of a portal over lists in one of which it stands lies within its bound
      pub over_in_bound : (turns : List (List ℕ)) → Any (λ list. Contains list q) turns → IsInReuseOver portals turns q n → IsInChainBound portals portal n
      over_in_bound turns any over =
          let list = any.1 in
          along_in_bound list any.4 (subst (λ (l : List ℕ). IsInReuseAlong portals l q n) any.3 (over any.0 list any.2))

      pub reuse_over_in_bound : (workers : ℕ) (turns : List (List ℕ)) → AreTurns workers (length portals) turns → IsInReuseOver portals turns q n → IsInChainBound portals portal n
      reuse_over_in_bound workers turns are = over_in_bound turns (are.each_stands q (slice_get_within portals q portal at))

  -- rows within the reuse over turns lie within the bounds of their portals
  pub rows_over_in_bounds : (workers : ℕ) (turns : List (List ℕ)) (rows : List (List Bool)) → AreTurns workers (length portals) turns → LieInReuseOver portals turns rows →
      (n q : ℕ) (portal : Portal) → IsAt portals q portal → IsIn (get_or rows q []) n → IsInChainBound portals portal n
  rows_over_in_bounds workers turns rows are within n q portal at is = reuse_over_in_bound n q portal at workers turns are (within n q is)

-- ---- coarse rows, with which the turns begin

module _ (all : List Portal) (leaves : ℕ) where
  pub coarse_at : (portals : List Portal) (rows : List (List Bool)) (n q : ℕ) → AllZip (IsCoarseRow all leaves) portals rows → IsIn (get_or rows q []) n → (p : Portal) × IsAt portals q p × IsInCoarseRow all p n
  coarse_at [] [] n q zip is = absurd (let e : false ≡ true = is in cc)
  coarse_at [] (row ∷ rows) n q zip is = absurd zip
  coarse_at (p ∷ portals) [] n q zip is = absurd zip
  coarse_at (p ∷ portals) (row ∷ rows) n zero zip is = (p, refl, (zip.0.exactly n).0 is)
  coarse_at (p ∷ portals) (row ∷ rows) n (suc q) zip is = coarse_at portals rows n q zip.1 is

  pub coarse_wide : (portals : List Portal) (rows : List (List Bool)) → AllZip (IsCoarseRow all leaves) portals rows → All (λ row. length row ≡ leaves) rows
  coarse_wide [] [] zip = All-nil (λ (row : List Bool). length row ≡ leaves)
  coarse_wide [] (row ∷ rows) zip = absurd zip
  coarse_wide (p ∷ portals) [] zip = absurd zip
  coarse_wide (p ∷ portals) (row ∷ rows) zip = All-cons (λ (row : List Bool). length row ≡ leaves) row rows zip.0.one_each (coarse_wide portals rows zip.1)

  pub coarse_one_each : (portals : List Portal) (rows : List (List Bool)) → AllZip (IsCoarseRow all leaves) portals rows → length rows ≡ length portals
  coarse_one_each [] [] zip = refl
  coarse_one_each [] (row ∷ rows) zip = absurd zip
  coarse_one_each (p ∷ portals) [] zip = absurd zip
  coarse_one_each (p ∷ portals) (row ∷ rows) zip = ap suc (coarse_one_each portals rows zip.1)

-- coarse rows lie within what rows may have before all turns
pub coarse_before_turns : (portals : List Portal) (leaves : ℕ) (rows : List (List Bool)) → AreCoarseRows portals leaves rows → LieWithinTurns portals [] rows
coarse_before_turns portals leaves rows coarse n q is =
    let found = coarse_at portals leaves portals rows n q coarse is in
    record { portal = found.0; portal_is = found.1; in_row = found.2 }
