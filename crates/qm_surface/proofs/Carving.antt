-- Where a point of a polygon is once planes have cut it. A point that is on none of the planes is in what is behind all of them
-- where it is behind each, and else in just one of the parts that are left.
use Rattle.std.proofs.Common.{List, [], ◌∷◌, ◌++◌, All, Option, Some, None, arith}
use Rattle.std.specs.Prelude.{option_to_list}
use Rattle.std.proofs.lemmas.Int.{ints}
use Rattle.std.proofs.lemmas.List.Elements.{All-nil, All-cons, All-head, All-tail, All-append}
use Rattle.qm_space.specs.Point.{Point}
use Rattle.qm_space.specs.Plane.{Plane, value, IsOn, IsInFront, IsBehind}
use Rattle.qm_numbers.proofs.Signs.{by_sign}
use Rattle.qm_space.proofs.Planes.{flipped_in_front}
use Rattle.qm_convex.specs.Winding.{Winding, IsInRegion}
use Rattle.qm_surface.specs.Cutting.{IsFrontPart, IsCarved, behind_all, goes_on, ends, AreCarved, none, more}
use Rattle.qm_surface.proofs.OnlyOne.{NoneHas, HasOne, here, later, one_before, one_behind}

-- the polygon has the point
abbrev pub Covers : Point → Winding → Type 0
Covers x w = IsInRegion w x

abbrev pub IsBehindAll : Point → List Plane → Type 0
IsBehindAll x planes = All (λ g. IsBehind g x) planes

abbrev pub IsOffAll : Point → List Plane → Type 0
IsOffAll x planes = All (λ g. IsOn g x → ⊥) planes

-- the point is in just one of the parts behind all planes, or in just one of those that are left
pub data FallsInto (x : Point) (planes : List Plane) (left inners : List Winding) : Type 0 where
  inside : (v : Winding) → IsBehindAll x planes → HasOne (Covers x) v inners → NoneHas (Covers x) left → FallsInto x planes left inners
  beside : (v : Winding) → (IsBehindAll x planes → ⊥) → HasOne (Covers x) v left → NoneHas (Covers x) inners → FallsInto x planes left inners

module _ (x : Point) where
  abbrev Lacks : Winding → Type 0
  Lacks w = Covers x w → ⊥

  abbrev Behind : Plane → Type 0
  Behind g = IsBehind g x

  -- ---- the part in front of one plane

  front_none : (front : Option Winding) (w : Winding) (g : Plane) → IsFrontPart front w g → (IsInFront g x → Covers x w → ⊥) → NoneHas (Covers x) (option_to_list front)
  front_none None w g is never = All-nil Lacks
  front_none (Some v) w g is never = All-cons Lacks v [] (λ r. let both = (is.points x).0 r in never both.1 both.0) (All-nil Lacks)

  front_one : (front : Option Winding) (w : Winding) (g : Plane) → IsFrontPart front w g → Covers x w → IsInFront g x → (v : Winding) × HasOne (Covers x) v (option_to_list front)
  front_one None w g is has ahead = absurd (let not = is x has in omega (arith, ints, not, ahead))
  front_one (Some v) w g is has ahead = (v, here ((is.points x).1 (has, ahead)) (All-nil Lacks))

  -- ---- one polygon

  -- no part has a point that the polygon lacks
  pub carved_none : (planes : List Plane) (w : Winding) (left : List Winding) (inner : Option Winding) → IsCarved planes w left inner → (Covers x w → ⊥) → NoneHas (Covers x) left × NoneHas (Covers x) (option_to_list inner)
  carved_none planes w left inner behind_all lacks = (All-nil Lacks, All-cons Lacks w [] lacks (All-nil Lacks))
  carved_none planes w left inner (goes_on {g = g} {planes = others} {behind = behind} {left = rest} front is_front is_behind carved) lacks =
      let below = carved_none others behind rest inner carved (λ r. lacks ((is_behind.points x).0 r).0) in
      (All-append Lacks (option_to_list front) rest (front_none front w g is_front (λ ahead has. lacks has)) below.0, below.1)
  carved_none planes w left inner (ends {g = g} front is_front none_behind) lacks = (front_none front w g is_front (λ ahead has. lacks has), All-nil Lacks)

  -- in front of the first plane
  falls_ahead : (g : Plane) (planes : List Plane) (w : Winding) (front : Option Winding) (left inners : List Winding) → IsFrontPart front w g → Covers x w → IsInFront g x → NoneHas (Covers x) left → NoneHas (Covers x) inners → FallsInto x (g ∷ planes) (option_to_list front ++ left) inners
  falls_ahead g planes w front left inners is_front has ahead none_left none_inners =
      let one = front_one front w g is_front has ahead in
      beside one.0 (λ all. let behind = All-head Behind g planes all in absurd (omega (arith, ints, behind, ahead)))
      (one_before (Covers x) one.0 (option_to_list front) left one.1 none_left) none_inners

  -- behind it
  falls_behind : (g : Plane) (planes : List Plane) (front left inners : List Winding) → IsBehind g x → NoneHas (Covers x) front → FallsInto x planes left inners → FallsInto x (g ∷ planes) (front ++ left) inners
  falls_behind g planes front left inners is_behind none_front (inside v all one none_left) =
      inside v (All-cons Behind g planes is_behind all) one (All-append Lacks front left none_front none_left)
  falls_behind g planes front left inners is_behind none_front (beside v not one none_inners) =
      beside v (λ all. not (All-tail Behind g planes all)) (one_behind (Covers x) v front left none_front one) none_inners

  pub carved_falls : (planes : List Plane) (w : Winding) (left : List Winding) (inner : Option Winding) → IsCarved planes w left inner → IsOffAll x planes → Covers x w → FallsInto x planes left (option_to_list inner)
  carved_falls planes w left inner behind_all off has = inside w (All-nil Behind) (here has (All-nil Lacks)) (All-nil Lacks)
  carved_falls planes w left inner (goes_on {g = g} {planes = others} {behind = behind} {left = rest} front is_front is_behind carved) off has = by_sign (value g x)
      (λ back.
      falls_behind g others (option_to_list front) rest (option_to_list inner) back
      (front_none front w g is_front (λ ahead _. absurd (omega (arith, ints, back, ahead))))
      (carved_falls others behind rest inner carved (All-tail (λ h. IsOn h x → ⊥) g others off) ((is_behind.points x).1 (has, (flipped_in_front g x).1 back))))
      (λ on. absurd (All-head (λ h. IsOn h x → ⊥) g others off on))
      (λ ahead.
      let none = carved_none others behind rest inner carved (λ r. let back = (flipped_in_front g x).0 ((is_behind.points x).0 r).1 in absurd (omega (arith, ints, back, ahead))) in
      falls_ahead g others w front rest (option_to_list inner) is_front has ahead none.0 none.1)
  carved_falls planes w left inner (ends {g = g} {planes = others} front is_front none_behind) off has = by_sign (value g x)
      (λ back. absurd (let not = none_behind x has in let ahead = (flipped_in_front g x).1 back in omega (arith, ints, not, ahead)))
      (λ on. absurd (All-head (λ h. IsOn h x → ⊥) g others off on))
      (λ ahead.
      let one = front_one front w g is_front has ahead in
      beside one.0 (λ all. let behind = All-head Behind g others all in absurd (omega (arith, ints, behind, ahead))) one.1 (All-nil Lacks))

  -- ---- polygons one after another

  pub all_carved_none : (planes : List Plane) (rest left inners : List Winding) → AreCarved planes rest left inners → NoneHas (Covers x) rest → NoneHas (Covers x) left × NoneHas (Covers x) inners
  all_carved_none planes rest left inners none lacks = (All-nil Lacks, All-nil Lacks)
  all_carved_none planes rest left inners (more {w = w} {rest = others} {left = its_left} {others = left_others} {inners = inner_others} {inner = inner} carved are) lacks =
      let one = carved_none planes w its_left inner carved (All-head Lacks w others lacks) in
      let rest = all_carved_none planes others left_others inner_others are (All-tail Lacks w others lacks) in
      (All-append Lacks its_left left_others one.0 rest.0, All-append Lacks (option_to_list inner) inner_others one.1 rest.1)

  -- with others behind that lack the point, or before
  falls_before : (planes : List Plane) (left inners more_left more_inners : List Winding) → FallsInto x planes left inners → NoneHas (Covers x) more_left → NoneHas (Covers x) more_inners → FallsInto x planes (left ++ more_left) (inners ++ more_inners)
  falls_before planes left inners more_left more_inners (inside v all one none_left) none_more_left none_more_inners =
      inside v all (one_before (Covers x) v inners more_inners one none_more_inners) (All-append Lacks left more_left none_left none_more_left)
  falls_before planes left inners more_left more_inners (beside v not one none_inners) none_more_left none_more_inners =
      beside v not (one_before (Covers x) v left more_left one none_more_left) (All-append Lacks inners more_inners none_inners none_more_inners)

  falls_later : (planes : List Plane) (left inners more_left more_inners : List Winding) → NoneHas (Covers x) left → NoneHas (Covers x) inners → FallsInto x planes more_left more_inners → FallsInto x planes (left ++ more_left) (inners ++ more_inners)
  falls_later planes left inners more_left more_inners none_left none_inners (inside v all one none_more_left) =
      inside v all (one_behind (Covers x) v inners more_inners none_inners one) (All-append Lacks left more_left none_left none_more_left)
  falls_later planes left inners more_left more_inners none_left none_inners (beside v not one none_more_inners) =
      beside v not (one_behind (Covers x) v left more_left none_left one) (All-append Lacks inners more_inners none_inners none_more_inners)

  pub all_carved_fall : (planes : List Plane) (rest left inners : List Winding) (w : Winding) → AreCarved planes rest left inners → IsOffAll x planes → HasOne (Covers x) w rest → FallsInto x planes left inners
  all_carved_fall planes rest left inners w none off one = elim one [ ]
  all_carved_fall planes rest left inners w (more {rest = others} {left = its_left} {others = left_others} {inners = inner_others} {inner = inner} carved are) off (here has lacks) =
      let rest = all_carved_none planes others left_others inner_others are lacks in
      falls_before planes its_left (option_to_list inner) left_others inner_others (carved_falls planes w its_left inner carved off has) rest.0 rest.1
  all_carved_fall planes rest left inners w (more {w = first} {rest = others} {left = its_left} {others = left_others} {inners = inner_others} {inner = inner} carved are) off (later lacks one) =
      let its = carved_none planes first its_left inner carved lacks in
      falls_later planes its_left (option_to_list inner) left_others inner_others its.0 its.1 (all_carved_fall planes others left_others inner_others w are off one)
