-- Lists whose elements are related place by place.
use Rattle.std.proofs.Common.{◌≡◌, ℕ, ◌<◌, zero, suc, List, [], ◌∷◌, length, get_or, All, Contains, subst, refl, arith}
use Rattle.std.specs.List.{AllZip}
use Rattle.std.proofs.lemmas.List.Elements.{Contains-get_or}

-- what holds of each element that a list contains
pub All-from_contains : {X : Type 0} (P : X → Type 0) (xs : List X) → ((x : X) → Contains xs x → P x) → All P xs
All-from_contains P xs each = λ k d within. each (get_or xs k d) (Contains-get_or xs k d within)

module _ {X Y : Type 0} where
  at_place : (R : X → Y → Type 0) (xs : List X) (ys : List Y) (k : ℕ) (x : X) → AllZip R xs ys → k < length xs → get_or xs k x ≡ x → (y : Y) × Contains ys y × R x y
  at_place R [] ys k x zip within is = absurd (omega (arith, within))
  at_place R (x' ∷ xs) [] k x zip within is = absurd zip
  at_place R (x' ∷ xs) (y ∷ ys) zero x zip within is = (y, (0, omega arith, refl), subst (λ (z : X). R z y) is zip.0)
  at_place R (x' ∷ xs) (y ∷ ys) (suc k) x zip within is =
      let at = at_place R xs ys k x zip.1 (omega (arith, within)) is in
      let place = at.1.0 in
      let there = at.1.1 in
      (at.0, (suc place, omega (arith, there), at.1.2), at.2)

  -- each element of the first list has one of the second to which it is related
  pub partner : (R : X → Y → Type 0) (xs : List X) (ys : List Y) (x : X) → AllZip R xs ys → Contains xs x → (y : Y) × Contains ys y × R x y
  partner R xs ys x zip among = at_place R xs ys among.0 x zip among.1 among.2

-- the lists the other way round
pub AllZip-back : {X Y : Type 0} (R : X → Y → Type 0) (S : Y → X → Type 0) (xs : List X) (ys : List Y) → ((x : X) (y : Y) → R x y → S y x) → AllZip R xs ys → AllZip S ys xs
AllZip-back R S [] [] back zip = tt
AllZip-back R S [] (y ∷ ys) back zip = absurd zip
AllZip-back R S (x ∷ xs) [] back zip = absurd zip
AllZip-back R S (x ∷ xs) (y ∷ ys) back zip = (back x y zip.0, AllZip-back R S xs ys back zip.1)

pub AllZip-weaker : {X Y : Type 0} (R S : X → Y → Type 0) (xs : List X) (ys : List Y) → ((x : X) (y : Y) → R x y → S x y) → AllZip R xs ys → AllZip S xs ys
AllZip-weaker R S [] [] weaker zip = tt
AllZip-weaker R S [] (y ∷ ys) weaker zip = absurd zip
AllZip-weaker R S (x ∷ xs) [] weaker zip = absurd zip
AllZip-weaker R S (x ∷ xs) (y ∷ ys) weaker zip = (weaker x y zip.0, AllZip-weaker R S xs ys weaker zip.1)
