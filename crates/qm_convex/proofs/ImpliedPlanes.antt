-- A plane on which a cell has no facet is implied by the cell's other planes, and to leave it out changes no other facet.
use Rattle.std.proofs.Common.{◌≡◌, ℕ, suc, ◌+◌, ◌≤◌, pos, neg_ℤ, ◌*ℤ◌, ◌<ℤ◌, List, [], ◌∷◌, All, get_or, unsigned_abs, map, ap, sym, arith, ◌⊎◌, inl, inr, ⊎_elim}
use Rattle.std.proofs.lemmas.Int.{ints}
use Rattle.std.proofs.lemmas.List.Elements.{All-nil, All-cons, All-head, All-tail, All-weaker}
use Rattle.qm_space.specs.Point.{Point, point_times}
use Rattle.qm_space.specs.Plane.{Plane, value, IsOn, IsInFront}
use Rattle.qm_space.specs.Cell.{IsInCell}
use Rattle.qm_space.specs.Multiple.{HasSameSides}
use Rattle.qm_numbers.proofs.IntegerProducts.{linear, *ℤ_zero, *ℤ_one}
use Rattle.qm_numbers.proofs.Signs.{by_sign, by_least, positive_beside, times_at_most}
use Rattle.qm_space.proofs.Planes.{value_times}
use Rattle.qm_space.proofs.SameSides.{same_sides_itself, same_in_front}
use Rattle.qm_space.proofs.Openness.{moved, value_moved, reach, each_within_reach, moved_in_front}
use Rattle.qm_space.proofs.Proportional.{by_proportional}
use Rattle.qm_space.proofs.Crossings.{through, crossing_on, crossing_weight, crossing_in_cell}
use Rattle.qm_convex.specs.inner.Facets.{Facet, AreFacetsOn, AreFacets, none, facet, hidden, inward_of}

-- each of these planes has the sides of q, or the point in front of it
abbrev pub IsBeside : List Plane → Plane → Point → Type 0
IsBeside cell q x = All (λ g. HasSameSides g q ⊎ IsInFront g x) cell

pub beside_of_cell : (cell : List Plane) (q : Plane) (x : Point) → IsInCell cell x → IsBeside cell q x
beside_of_cell cell q x inside = All-weaker (λ g. IsInFront g x) (λ g. HasSameSides g q ⊎ IsInFront g x) (λ g front. inr front) cell inside

-- a cell is taken in two parts: planes that are kept, and planes that are still to be looked at
module _ (kept left : List Plane) (c : Point) (weight : pos 0 <ℤ c.w) (in_kept : IsInCell kept c) (in_left : IsInCell left c) where
  -- no facet on the plane h: then each point in front of the others is in front of it
  pub implied : (h : Plane) → IsInFront h c → ((x : Point) → pos 0 <ℤ x.w → IsOn h x → IsBeside kept h x → IsBeside left h x → ⊥) →
      (x : Point) → pos 0 <ℤ x.w → IsInCell kept x → IsInCell left x → IsInFront h x
  implied h front no_facet x w k l = by_least (pos 0) (value h x)
      (λ ahead. ahead)
      (λ not. absurd (no_facet (through h c x) (crossing_weight h c x front not weight w) (crossing_on h c x front not)
      (beside_of_cell kept h (through h c x) (crossing_in_cell h c x front not kept in_kept k))
      (beside_of_cell left h (through h c x) (crossing_in_cell h c x front not left in_left l))))

  module _ (h q : Plane) (front : IsInFront h c) (ahead : IsInFront q c)
      (is_implied : (y : Point) → pos 0 <ℤ y.w → IsInCell kept y → IsInCell left y → IsInFront h y)
      (x : Point) (w : pos 0 <ℤ x.w) (on : IsOn q x) (beside_kept : IsBeside kept q x) (beside_left : IsBeside left q x) where
    -- many times the point, moved by four numbers in front of q
    module _ (v : Point) (v_ahead : IsInFront q v) where
      many : ℕ
      many = suc (reach kept v + reach left v + unsigned_abs v.w)

      y : Point
      y = moved (pos many) x v

      y_ahead : IsInFront q y
      unfolding y
      y_ahead =
          let e = value_moved q (pos many) x v in
          let z = ap (λ n. pos many *ℤ n) on in
          let n = *ℤ_zero (pos many) in
          omega (arith, linear)

      y_weight : pos 0 <ℤ y.w
      unfolding y many
      y_weight =
          let m = times_at_most (pos many) (pos 1) x.w (omega (arith, ints)) (omega (arith, ints)) in
          let e = *ℤ_one (pos many) in
          omega (arith, ints, m, e)

      in_planes : (planes : List Plane) → reach planes v ≤ reach kept v + reach left v → IsBeside planes q x → IsInCell planes y
      unfolding y many
      in_planes planes small beside place d there =
          let g = get_or planes place d in
          ⊎_elim
          (λ same. same_in_front g q y same y_ahead)
          (λ g_front. let within = each_within_reach planes v place d there in moved_in_front g x v (pos many) (reach planes v) within (omega (arith, ints)) g_front)
          (beside place d there)

      y_in_front : IsInFront h y
      y_in_front = is_implied y y_weight (in_planes kept (omega arith) beside_kept) (in_planes left (omega arith) beside_left)

      x_in_front : value h v ≡ pos 0 → IsInFront h x
      unfolding y many
      x_in_front v_on =
          let f = y_in_front in
          let e = value_moved h (pos many) x v in
          positive_beside (pos many) (value h x) (omega (arith, ints)) (omega (arith, linear))

    -- an implied plane has the sides of q, or each point of the facet on q in front
    pub beside_implied : HasSameSides h q ⊎ IsInFront h x
    beside_implied = by_proportional q h
        (λ multiples. inl (record { times = value q c; factor = value h c; some_times = ahead; some_factor = front; multiple = sym (multiples c) }))
        (λ v v_on v_off. by_sign (value q v)
        (λ behind. let e = value_times q (neg_ℤ (pos 1)) v in let f = value_times h (neg_ℤ (pos 1)) v in inr (x_in_front (point_times (neg_ℤ (pos 1)) v) (omega (arith, ints)) (omega (arith, ints))))
        (λ zero. absurd (v_off zero))
        (λ v_ahead. inr (x_in_front v v_ahead v_on)))

-- ---- the planes on which a cell has facets are enough

-- no facet on q of the cell of both lists
abbrev pub NoFacet : List Plane → List Plane → Plane → Type 0
NoFacet kept left q = (x : Point) → pos 0 <ℤ x.w → IsOn q x → IsBeside kept q x → IsBeside left q x → ⊥

-- some planes, and those of them that are kept
pub data Keeps (No : Plane → Type 0) : List Plane → List Plane → Type 0 where
  nothing : Keeps No [] []
  keep : {h : Plane} {planes some : List Plane} → Keeps No planes some → Keeps No (h ∷ planes) (h ∷ some)
  leave : {h : Plane} {planes some : List Plane} → No h → Keeps No planes some → Keeps No (h ∷ planes) some

weaker : (No Nor : Plane → Type 0) (planes some : List Plane) (c : Point) → IsInCell planes c → ((q : Plane) → IsInFront q c → No q → Nor q) → Keeps No planes some → Keeps Nor planes some
weaker No Nor planes some c inside each nothing = nothing
weaker No Nor planes some c inside each (keep {h = h} {planes = rest} {some = fewer} keeps) =
    keep (weaker No Nor rest fewer c (All-tail (λ g. IsInFront g c) h rest inside) each keeps)
weaker No Nor planes some c inside each (leave {h = h} {planes = rest} never keeps) =
    leave (each h (All-head (λ g. IsInFront g c) h rest inside) never) (weaker No Nor rest some c (All-tail (λ g. IsInFront g c) h rest inside) each keeps)

-- a point in front of those that are kept is in front of all
pub enough : (kept left some : List Plane) (c : Point) → pos 0 <ℤ c.w → IsInCell kept c → IsInCell left c → Keeps (NoFacet kept left) left some → (x : Point) → pos 0 <ℤ x.w → IsInCell kept x → IsInCell some x → IsInCell left x
enough kept left some c weight in_kept in_left nothing x w k s = s
enough kept (h ∷ rest) some c weight in_kept in_left (keep {some = fewer} keeps) x w k s =
    let front = All-head (λ g. IsInFront g c) h rest in_left in
    let behind = All-tail (λ g. IsInFront g c) h rest in_left in
    let ahead = All-head (λ g. IsInFront g x) h fewer s in
    let others = All-tail (λ g. IsInFront g x) h fewer s in
    All-cons (λ g. IsInFront g x) h rest ahead
    (enough (h ∷ kept) rest fewer c weight (All-cons (λ g. IsInFront g c) h kept front in_kept) behind
    (weaker (NoFacet kept (h ∷ rest)) (NoFacet (h ∷ kept) rest) rest fewer c behind moved_over keeps)
    x w (All-cons (λ g. IsInFront g x) h kept ahead k) others)
  where
    -- the plane goes from those that are left to those that are kept
    moved_over : (q : Plane) → IsInFront q c → NoFacet kept (h ∷ rest) q → NoFacet (h ∷ kept) rest q
    moved_over q front none_on z v on beside_kept beside_rest =
        let P : Plane → Type 0 = λ g. HasSameSides g q ⊎ IsInFront g z in
        none_on z v on (All-tail P h kept beside_kept) (All-cons P h rest (All-head P h kept beside_kept) beside_rest)
enough kept (h ∷ rest) some c weight in_kept in_left (leave never keeps) x w k s =
    let others = enough kept rest some c weight in_kept behind (weaker (NoFacet kept (h ∷ rest)) (NoFacet kept rest) rest some c behind left_out keeps) x w k s in
    All-cons (λ g. IsInFront g x) h rest (front_of x w k others) others
  where
    ahead : IsInFront h c
    ahead = All-head (λ g. IsInFront g c) h rest in_left

    behind : IsInCell rest c
    behind = All-tail (λ g. IsInFront g c) h rest in_left

    itself : (y : Point) → IsBeside rest h y → IsBeside (h ∷ rest) h y
    itself y beside = All-cons (λ g. HasSameSides g h ⊎ IsInFront g y) h rest (inl (same_sides_itself h)) beside

    front_of : (y : Point) → pos 0 <ℤ y.w → IsInCell kept y → IsInCell rest y → IsInFront h y
    front_of = implied kept rest c weight in_kept behind h ahead (λ y v on beside_kept beside_rest. never y v on beside_kept (itself y beside_rest))

    -- without the plane the others have no more facets
    left_out : (q : Plane) → IsInFront q c → NoFacet kept (h ∷ rest) q → NoFacet kept rest q
    left_out q front none_on y v on beside_kept beside_rest =
        none_on y v on beside_kept
        (All-cons (λ g. HasSameSides g q ⊎ IsInFront g y) h rest (beside_implied kept rest c weight in_kept behind h q ahead front front_of y v on beside_kept beside_rest) beside_rest)

-- ---- the facets of a cell

keeps_facets : (cell planes : List Plane) (facets : List Facet) → AreFacetsOn cell planes facets → Keeps (NoFacet [] cell) planes (map inward_of facets)
keeps_facets cell planes facets none = nothing
keeps_facets cell planes facets (facet {planes = rest} {facets = others} is more) = keep (keeps_facets cell rest others more)
keeps_facets cell planes facets (hidden {planes = rest} never more) =
    leave (λ x w on beside_none beside. never x (record { weight = w; on = on; inside = beside })) (keeps_facets cell rest facets more)

-- the planes of a cell's facets have the points of the cell in front
pub facets_from_cell : (cell planes : List Plane) (facets : List Facet) (x : Point) → AreFacetsOn cell planes facets → IsInCell planes x → IsInCell (map inward_of facets) x
facets_from_cell cell planes facets x none inside = inside
facets_from_cell cell planes facets x (facet {found = found} {planes = rest} {facets = others} is more) inside =
    All-cons (λ g. IsInFront g x) found.inward (map inward_of others) (All-head (λ g. IsInFront g x) found.inward rest inside) (facets_from_cell cell rest others x more (All-tail (λ g. IsInFront g x) found.inward rest inside))
facets_from_cell cell planes facets x (hidden {h = h} {planes = rest} never more) inside =
    facets_from_cell cell rest facets x more (All-tail (λ g. IsInFront g x) h rest inside)

-- and no other points, if the cell has one at all
pub cell_from_facets : (cell : List Plane) (facets : List Facet) (c x : Point) → AreFacets cell facets → pos 0 <ℤ c.w → IsInCell cell c → pos 0 <ℤ x.w → IsInCell (map inward_of facets) x → IsInCell cell x
cell_from_facets cell facets c x are weight inside w s =
    enough [] cell (map inward_of facets) c weight (All-nil (λ g. IsInFront g c)) inside (keeps_facets cell cell facets are) x w (All-nil (λ g. IsInFront g x)) s
