-- The places of words: each is the place of one word alone.
use Rattle.std.proofs.Common.{◌≡◌, ◌≢◌, ⊎_elim, ℕ, suc, ◌+◌, ◌*◌, ◌<◌, ◌≤◌, List, length, get_or, set, sym, ap, subst, mul-le-mul_right, suc-mul, arith}
use Rattle.std.proofs.lemmas.Bool.{cases_lt}
use Rattle.std.proofs.lemmas.List.{get_or-set_same, get_or-set_other}
use Rattle.qm_shared_rows.specs.RowSets.{RowSets}
use Rattle.qm_shared_rows.specs.SharedRows.{done_place, row_place}

-- a row begins where those before it have ended
further : (p q width : ℕ) → p < q → p * width + width ≤ q * width
further p q width less = let over : suc p * width ≤ q * width = mul-le-mul_right width less in omega (arith, suc-mul p width)

apart : (p q width k j : ℕ) → p < q → k < width → p * width + k ≡ q * width + j → ⊥
apart p q width k j less within same =
    let far = further p q width less in
    let low : ℕ = p * width in
    let high : ℕ = q * width in
    let far' : low + width ≤ high = far in
    let same' : low + k ≡ high + j = same in
    absurd (omega (arith, far', same', within))

pub same_row : (p q width k j : ℕ) → k < width → j < width → p * width + k ≡ q * width + j → p ≡ q
same_row p q width k j k_within j_within same = ⊎_elim
    (λ less. absurd (apart p q width k j less k_within same))
    (λ not_less. ⊎_elim
    (λ more. absurd (apart q p width j k more j_within (sym same)))
    (λ not_more. omega (arith, not_less, not_more))
    (cases_lt q p))
    (cases_lt p q)

pub same_k : (p q width k j : ℕ) → k < width → j < width → p * width + k ≡ q * width + j → k ≡ j
same_k p q width k j k_within j_within same =
    let rows : p * width ≡ q * width = ap (λ (r : ℕ). r * width) (same_row p q width k j k_within j_within same) in
    let low : ℕ = p * width in
    let high : ℕ = q * width in
    let rows' : low ≡ high = rows in
    let same' : low + k ≡ high + j = same in
    omega (arith, rows', same')

pub row_within : (portals p width k : ℕ) → p < portals → k < width → p * width + k < portals * width
row_within portals p width k inside within =
    let far = further p portals width inside in
    let low : ℕ = p * width in
    let high : ℕ = portals * width in
    let far' : low + width ≤ high = far in
    omega (arith, far', within)

module _ (sets : RowSets) where
  pub place_within : (p k : ℕ) → p < sets.portals → k < sets.width → row_place sets p k < (1 + sets.portals) + sets.portals * sets.width
  place_within p k inside within =
      let row = row_within sets.portals p sets.width k inside within in
      let low : ℕ = p * sets.width in
      let high : ℕ = sets.portals * sets.width in
      let row' : low + k < high = row in
      omega (arith, row')

  pub place_sum : (p k q j : ℕ) → row_place sets p k ≡ row_place sets q j → p * sets.width + k ≡ q * sets.width + j
  place_sum p k q j same =
      let low : ℕ = p * sets.width in
      let high : ℕ = q * sets.width in
      let same' : ((1 + sets.portals) + low) + k ≡ ((1 + sets.portals) + high) + j = same in
      omega (arith, same')

  pub row_not_ticket : (p k : ℕ) → row_place sets p k ≢ 0
  row_not_ticket p k same =
      let low : ℕ = p * sets.width in
      let same' : ((1 + sets.portals) + low) + k ≡ 0 = same in
      absurd (omega (arith, same'))

  pub row_not_done : (p k q : ℕ) → q < sets.portals → row_place sets p k ≢ done_place q
  row_not_done p k q inside same =
      let low : ℕ = p * sets.width in
      let same' : ((1 + sets.portals) + low) + k ≡ 1 + q = same in
      absurd (omega (arith, same', inside))

  -- ---- one word becomes another

  module _ (words : List ℕ) (p k n : ℕ) (inside : p < sets.portals) (within : k < sets.width) where
    pub row_here : length words ≡ (1 + sets.portals) + sets.portals * sets.width → get_or (set words (row_place sets p k) n) (row_place sets p k) 0 ≡ n
    row_here long = get_or-set_same words (row_place sets p k) n 0 (subst (λ (m : ℕ). row_place sets p k < m) (sym long) (place_within p k inside within))

    pub row_else : (q j : ℕ) → j < sets.width → (q ≡ p → j ≡ k → ⊥) → get_or (set words (row_place sets p k) n) (row_place sets q j) 0 ≡ get_or words (row_place sets q j) 0
    row_else q j j_within other = get_or-set_other words (row_place sets p k) (row_place sets q j) n 0 (λ same.
        let sum = place_sum q j p k same in
        other (same_row q p sets.width j k j_within within sum) (same_k q p sets.width j k j_within within sum))

    pub done_stays : (q : ℕ) → q < sets.portals → get_or (set words (row_place sets p k) n) (done_place q) 0 ≡ get_or words (done_place q) 0
    done_stays q q_inside = get_or-set_other words (row_place sets p k) (done_place q) n 0 (λ same. row_not_done p k q q_inside (sym same))

    pub ticket_stays : get_or (set words (row_place sets p k) n) 0 0 ≡ get_or words 0 0
    ticket_stays = get_or-set_other words (row_place sets p k) 0 n 0 (λ same. row_not_ticket p k (sym same))

  module _ (words : List ℕ) (p n : ℕ) (inside : p < sets.portals) where
    pub done_here : length words ≡ (1 + sets.portals) + sets.portals * sets.width → get_or (set words (done_place p) n) (done_place p) 0 ≡ n
    done_here long =
        let high : ℕ = sets.portals * sets.width in
        let long' : length words ≡ (1 + sets.portals) + high = long in
        get_or-set_same words (done_place p) n 0 (omega (arith, long', inside))

    pub done_else : (q : ℕ) → q ≢ p → get_or (set words (done_place p) n) (done_place q) 0 ≡ get_or words (done_place q) 0
    done_else q other = get_or-set_other words (done_place p) (done_place q) n 0 (λ same. other (omega (arith, same)))

    pub row_stays : (q k : ℕ) → get_or (set words (done_place p) n) (row_place sets q k) 0 ≡ get_or words (row_place sets q k) 0
    row_stays q k = get_or-set_other words (done_place p) (row_place sets q k) n 0 (row_not_done q k p inside)

    pub ticket_kept : get_or (set words (done_place p) n) 0 0 ≡ get_or words 0 0
    ticket_kept = get_or-set_other words (done_place p) 0 n 0 (λ same. absurd (omega (arith, same)))
