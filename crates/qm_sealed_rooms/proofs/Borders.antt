-- The way from a point strictly behind some planes to one that is in front of one of them meets the border of what lies
-- behind them all.
use Rattle.std.proofs.Common.{pos, neg_ℤ, ◌≤ℤ◌, get_or, List, [], ◌∷◌, All, ◌⊎◌, inl, inr, ⊎_elim, arith}
use Rattle.std.proofs.lemmas.List.Elements.{All-nil, All-cons, All-head, All-tail}
use Rattle.qm_space.specs.Point.{Point}
use Rattle.qm_space.specs.Plane.{Plane, value, IsBehind, IsInFront, IsNotInFront, IsNotBehind}
use Rattle.qm_solids.specs.Holding.{IsInFrontOfNone}
use Rattle.qm_numbers.proofs.IntegerProducts.{linear, neg-*ℤ}
use Rattle.qm_numbers.proofs.Signs.{by_least, product_positive, positive_times_negative, product_not_negative, product_not_positive}
use Rattle.qm_space.proofs.Crossings.{through, value_through, crossing_on}

-- strictly behind each of these planes
abbrev pub IsBehindEach : List Plane → Point → Type 0
IsBehindEach planes x = All (λ h. IsBehind h x) planes

-- ---- one plane, with the point y behind it and the point x in front

module _ (h : Plane) (x y : Point) (front : IsInFront h x) (behind : IsBehind h y) where
  -- what is in front of a plane at y and not behind at x is in front where one crosses
  crossing_keeps : (g : Plane) → IsInFront g y → IsNotBehind g x → IsInFront g (through h x y)
  crossing_keeps g at_y at_x =
      let its = value_through g h x y in
      let near = product_positive (value h x) (value g y) front at_y in
      let far = product_not_negative (neg_ℤ (value h y)) (value g x) (omega (arith, linear, behind)) at_x in
      let n = neg-*ℤ (value h y) (value g x) in
      omega (arith, linear)

  crossing_behind : (g : Plane) → IsBehind g y → IsNotInFront g x → IsBehind g (through h x y)
  crossing_behind g at_y at_x =
      let its = value_through g h x y in
      let near = positive_times_negative (value h x) (value g y) front at_y in
      let far = product_not_positive (neg_ℤ (value h y)) (value g x) (omega (arith, linear, behind)) at_x in
      let n = neg-*ℤ (value h y) (value g x) in
      omega (arith, linear)

  crossing_there : value h (through h x y) ≤ℤ pos 0
  crossing_there = let on = crossing_on h x y front (omega (arith, linear, behind)) in omega (arith, linear)

-- ---- all planes

-- a point between y and x, or x, that is in front of none of the planes, and not strictly behind each
pub record MeetsBorder (planes : List Plane) (y x : Point) : Type 0 where
  pub point : Point
  pub keeps : (g : Plane) → IsInFront g y → IsNotBehind g x → IsInFront g point
  pub in_front_of_none : IsInFrontOfNone planes point
  pub not_behind_each : IsBehindEach planes point → ⊥

-- the border at one plane more
at_plane : (h : Plane) (planes : List Plane) (y x e : Point) → IsBehindEach (h ∷ planes) y → ((g : Plane) → IsInFront g y → IsNotBehind g x → IsNotBehind g e) → IsInFrontOfNone planes e → IsInFront h e → MeetsBorder (h ∷ planes) y x
at_plane h planes y x e behind keeps none front =
    let at_y = All-head (λ g. IsBehind g y) h planes behind in
    let others = All-tail (λ g. IsBehind g y) h planes behind in
    record {
      point = through h e y;
      keeps = λ g g_y g_x. crossing_keeps h e y front at_y g g_y (keeps g g_y g_x);
      in_front_of_none = All-cons (λ g. IsNotInFront g (through h e y)) h planes (crossing_there h e y front at_y)
          (λ place d there. let b = crossing_behind h e y front at_y (get_or planes place d) (others place d there) (none place d there) in omega (arith, linear, b));
      not_behind_each = λ each.
          let there = All-head (λ g. IsBehind g (through h e y)) h planes each in
          let on = crossing_on h e y front (omega (arith, linear, at_y)) in
          absurd (omega (arith, linear, there, on));
    }

pub meets_border : (planes : List Plane) (y x : Point) → IsBehindEach planes y → IsInFrontOfNone planes x ⊎ MeetsBorder planes y x
meets_border [] y x behind = inl (All-nil (λ h. IsNotInFront h x))
meets_border (h ∷ planes) y x behind = ⊎_elim
    (λ none. by_least (pos 0) (value h x)
    (λ front. inr (at_plane h planes y x x behind (λ g g_y g_x. g_x) none front))
    (λ not. inl (All-cons (λ g. IsNotInFront g x) h planes not none)))
    (λ met. by_least (pos 0) (value h met.point)
    (λ front. inr (at_plane h planes y x met.point behind (λ g g_y g_x. let f = met.keeps g g_y g_x in omega (arith, linear, f)) met.in_front_of_none front))
    (λ not. inr (record {
      point = met.point;
      keeps = met.keeps;
      in_front_of_none = All-cons (λ g. IsNotInFront g met.point) h planes not met.in_front_of_none;
      not_behind_each = λ each. met.not_behind_each (All-tail (λ g. IsBehind g met.point) h planes each);
    })))
    (meets_border planes y x (All-tail (λ g. IsBehind g y) h planes behind))
