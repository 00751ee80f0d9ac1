-- Lists of which just one item has a property, and the first item that has one.
use Rattle.std.proofs.Common.{◌≡◌, ℕ, zero, suc, List, [], ◌∷◌, ◌++◌, All, map, slice_get, Some, ◌⊎◌, inl, inr, ⊎_elim, refl, ap, subst}
use Rattle.std.proofs.lemmas.List.Elements.{All-nil, All-cons, All-head, All-tail, All-append, All-map, All-contains}
use Rattle.qm_lists.proofs.Elements.{Contains-at}
use Rattle.qm_surface.specs.Covered.{IsOnlyPlace}

abbrev pub NoneHas : {X : Type 0} → (X → Type 0) → List X → Type 0
NoneHas Has items = All (λ x. Has x → ⊥) items

-- this item has it, and no other
pub data HasOne {X : Type 0} (Has : X → Type 0) : X → List X → Type 0 where
  here : {x : X} {rest : List X} → Has x → NoneHas Has rest → HasOne Has x (x ∷ rest)
  later : {x y : X} {rest : List X} → (Has y → ⊥) → HasOne Has x rest → HasOne Has x (y ∷ rest)

-- this item has it, and none before it
pub data IsFirstThat {X : Type 0} (Has : X → Type 0) : X → List X → Type 0 where
  first : {x : X} {rest : List X} → Has x → IsFirstThat Has x (x ∷ rest)
  after : {x y : X} {rest : List X} → (Has y → ⊥) → IsFirstThat Has x rest → IsFirstThat Has x (y ∷ rest)

-- a property that is told of each item is told of a list
pub decide_all : {X : Type 0} (Has : X → Type 0) → ((x : X) → Has x ⊎ (Has x → ⊥)) → (items : List X) → All Has items ⊎ (All Has items → ⊥)
decide_all Has decide [] = inl (All-nil Has)
decide_all Has decide (x ∷ items) = ⊎_elim
    (λ has. ⊎_elim (λ all. inl (All-cons Has x items has all)) (λ not. inr (λ all. not (All-tail Has x items all))) (decide_all Has decide items))
    (λ not. inr (λ all. not (All-head Has x items all)))
    (decide x)

module _ {X : Type 0} (Has : X → Type 0) where
  abbrev Lacks : X → Type 0
  Lacks x = Has x → ⊥

  pub one_before : (x : X) (items more : List X) → HasOne Has x items → NoneHas Has more → HasOne Has x (items ++ more)
  one_before x items more (here {rest = rest} has others) none = here has (All-append Lacks rest more others none)
  one_before x items more (later {rest = rest} not one) none = later not (one_before x rest more one none)

  pub one_behind : (x : X) (items more : List X) → NoneHas Has items → HasOne Has x more → HasOne Has x (items ++ more)
  one_behind x [] more none one = one
  one_behind x (y ∷ items) more none one = later (All-head Lacks y items none) (one_behind x items more (All-tail Lacks y items none) one)

  pub one_mapped : {Y : Type 0} (f : Y → X) (y : Y) (items : List Y) → HasOne (λ z. Has (f z)) y items → HasOne Has (f y) (map f items)
  one_mapped f y items (here {rest = rest} has others) = here has (All-map Lacks f rest others)
  one_mapped f y items (later {rest = rest} not one) = later not (one_mapped f y rest one)

  first_place : (x : X) (rest : List X) → Has x → NoneHas Has rest → IsOnlyPlace Has (x ∷ rest) 0 x
  first_place x rest has others = record { there = refl; has = has; only = only_first }
    where
      only_first : (other : ℕ) (its : X) → slice_get (x ∷ rest) other ≡ Some its → Has its → other ≡ 0
      only_first zero its at it_has = refl
      only_first (suc k) its at it_has = absurd (All-contains Lacks rest its others (Contains-at rest k its at) it_has)

  later_place : (x y : X) (rest : List X) (place : ℕ) → (Has y → ⊥) → IsOnlyPlace Has rest place x → IsOnlyPlace Has (y ∷ rest) (suc place) x
  later_place x y rest place not is = record { there = is.there; has = is.has; only = only_later }
    where
      only_later : (other : ℕ) (its : X) → slice_get (y ∷ rest) other ≡ Some its → Has its → other ≡ suc place
      only_later zero its at it_has = absurd (not (subst Has (sym_of at) it_has))
        where
          sym_of : Some y ≡ Some its → its ≡ y
          sym_of e = cc
      only_later (suc k) its at it_has = ap suc (is.only k its at it_has)

  -- it stands at one place alone
  pub only_place : (x : X) (items : List X) → HasOne Has x items → (place : ℕ) × IsOnlyPlace Has items place x
  only_place x items (here {rest = rest} has others) = (0, first_place x rest has others)
  only_place x items (later {y = y} {rest = rest} not one) = let at = only_place x rest one in (suc at.0, later_place x y rest at.0 not at.1)
