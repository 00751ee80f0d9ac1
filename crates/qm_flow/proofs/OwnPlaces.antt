-- Rows of the flow's own and the places that stand for them: a place read, one set, and a row more.
use Rattle.std.proofs.Common.{◌≡◌, ℕ, zero, suc, ◌<◌, Option, None, Some, List, [], ◌∷◌, ◌++◌, Bool, length, get_or, set, slice_get, replicate, refl, sym, ap, ◌∙◌, subst, arith}
use Rattle.std.specs.List.{All}
use Rattle.std.proofs.lemmas.List.{get_or-map, map-set, length-map}
use Rattle.std.proofs.lemmas.List.Elements.{All-head, All-tail, All-get_or}
use Rattle.qm_flow.specs.declared.own_rows.Place.{Place}
use Rattle.qm_flow.specs.declared.own_rows.Place.TheVariants.{NotYet, Barred, Row}
use Rattle.qm_flow.specs.inner.OwnRow.{own_row, own_rows, IsAmong}

-- ---- a place read

module _ (rows : List (List Bool)) (places : List Place) (own : List (Option (List Bool))) (is : own_rows rows places ≡ own) (number : ℕ) (within : number < length own) (place : Place) (read : place ≡ get_or places number place) where
  inside : number < length places
  inside = let long = length-map places (own_row rows) in let same = ap length is in omega (arith, within, long, same)

  pub own_read : get_or own number None ≡ own_row rows place
  own_read = sym (ap (λ (all : List (Option (List Bool))). get_or all number None) is) ∙ get_or-map (own_row rows) places number place None inside ∙ sym (ap (own_row rows) read)

  pub among_read : All (IsAmong rows) places → IsAmong rows place
  among_read all = subst (IsAmong rows) (sym read) (All-get_or (IsAmong rows) places number place inside all)

made : (rows : List (List Bool)) (n : ℕ) (row : List Bool) → n < length rows → row ≡ get_or rows n row → slice_get rows n ≡ Some row
made [] n row within is = absurd (omega (arith, within))
made (first ∷ rows) zero row within is = ap Some (sym is)
made (first ∷ rows) (suc n) row within is = made rows n row (omega (arith, within)) is

-- the row of a place with a number
module _ (rows : List (List Bool)) (places : List Place) (own : List (Option (List Bool))) (is : own_rows rows places ≡ own) (all : All (IsAmong rows) places) (number : ℕ) (within : number < length own) (place : Place) (read : place ≡ get_or places number place) (n : ℕ) (place_is : place ≡ Row n) where
  pub row_among : n < length rows
  row_among = subst (IsAmong rows) place_is (among_read rows places own is number within place read all)

  pub row_read : (row : List Bool) → row ≡ get_or rows n row → get_or own number None ≡ Some row
  row_read row row_is = own_read rows places own is number within place read ∙ ap (own_row rows) place_is ∙ made rows n row row_among row_is

-- no row is there yet
pub none_yet : (rows : List (List Bool)) (count : ℕ) → own_rows rows (replicate count NotYet) ≡ replicate count None
none_yet rows zero = refl
none_yet rows (suc count) = ap (λ (own : List (Option (List Bool))). None ∷ own) (none_yet rows count)

-- ---- a row more

same_get : (rows more : List (List Bool)) (n : ℕ) → n < length rows → slice_get (rows ++ more) n ≡ slice_get rows n
same_get [] more n within = absurd (omega (arith, within))
same_get (row ∷ rows) more zero within = refl
same_get (row ∷ rows) more (suc n) within = same_get rows more n (omega (arith, within))

get_last : (rows : List (List Bool)) (row : List Bool) → slice_get (rows ++ row ∷ []) (length rows) ≡ Some row
get_last [] row = refl
get_last (first ∷ rows) row = get_last rows row

same_row : (rows more : List (List Bool)) (place : Place) → IsAmong rows place → own_row (rows ++ more) place ≡ own_row rows place
same_row rows more NotYet among = refl
same_row rows more (Barred leaves) among = refl
same_row rows more (Row number) among = same_get rows more number among

same_rows : (rows more : List (List Bool)) (places : List Place) → All (IsAmong rows) places → own_rows (rows ++ more) places ≡ own_rows rows places
same_rows rows more [] all = refl
same_rows rows more (place ∷ places) all =
    (λ k. same_row rows more place (All-head (IsAmong rows) place places all) k ∷ same_rows rows more places (All-tail (IsAmong rows) place places all) k)

pub put_more : (rows : List (List Bool)) (row : List Bool) (places : List Place) (portal number : ℕ) → All (IsAmong rows) places → number ≡ length rows → own_rows (rows ++ row ∷ []) (set places portal (Row number)) ≡ set (own_rows rows places) portal (Some row)
put_more rows row places portal number all is = map-set (own_row (rows ++ row ∷ [])) places portal (Row number)
    ∙ ap (λ (own : List (Option (List Bool))). set own portal (slice_get (rows ++ row ∷ []) number)) (same_rows rows (row ∷ []) places all)
    ∙ ap (λ (n : ℕ). set (own_rows rows places) portal (slice_get (rows ++ row ∷ []) n)) is
    ∙ ap (λ (its : Option (List Bool)). set (own_rows rows places) portal its) (get_last rows row)
