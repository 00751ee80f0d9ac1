-- Where a whole file is read, what is read of a cut one is the same as far as it goes, and then it is too short.
use Rattle.std.proofs.Common.{◌≡◌, ◌≤◌, ◌⊎◌, ℕ, zero, suc, ◌+◌, Bool, true, false, cond, List, ◌∷◌, ◌++◌, length, Option, Some, sym, ap, subst, ◌∙◌, arith, inl, inr}
use Rattle.qm_formats.specs.Layout.{Decoded, got, bad, Layout, decoded_map, decoded_then, seen_as, recast, tested, both, followed_by, part, last_part, each_from, each_after, choice, present}
use Rattle.qm_formats.proofs.ExactParts.{map_got, then_got, chosen_got}

-- what is read of a cut file, where a value is read of the whole one: the same within it, or that it is too short
abbrev pub IsReadOrShort : {F X : Type 0} → F → List ℕ → X → ℕ → Decoded F X → Type 0
IsReadOrShort short front x next answer = ((answer ≡ got x next) × (next ≤ length front)) ⊎ (answer ≡ bad short (length front))

pub record IsCuttable {F X : Type 0} (short : F) (layout : Layout F X) : Type 0 where
  pub cut : (front behind : List ℕ) (at : ℕ) (x : X) (next : ℕ) → at ≤ length front → layout.read (front ++ behind) at ≡ got x next → IsReadOrShort short front x next (layout.read front at)

module _ {F : Type 0} (short : F) (front : List ℕ) where
  -- the answer with another value
  map_cut : {X Y : Type 0} (f : X → Y) (x : X) (y : Y) (next : ℕ) (answer : Decoded F X) → IsReadOrShort short front x next answer → f x ≡ y → IsReadOrShort short front y next (decoded_map f answer)
  map_cut f x y next answer of_answer same = elim of_answer [
    | inl read ↦ inl (ap (decoded_map f) read.0 ∙ ap (λ (v : _). got v next) same, read.1)
    | inr ends ↦ inr (ap (decoded_map f) ends)
  ]

  -- what is read behind it
  then_cut : {X Y : Type 0} (x : X) (mid : ℕ) (y : Y) (next : ℕ) (answer : Decoded F X) (behind : X → ℕ → Decoded F Y) → IsReadOrShort short front x mid answer → (mid ≤ length front → IsReadOrShort short front y next (behind x mid)) → IsReadOrShort short front y next (decoded_then answer behind)
  then_cut x mid y next answer behind of_answer of_behind = elim of_answer [
    | inl read ↦ subst (λ (a : _). IsReadOrShort short front y next a) (sym (ap (λ (a : _). decoded_then a behind) read.0)) (of_behind read.1)
    | inr ends ↦ inr (ap (λ (a : _). decoded_then a behind) ends)
  ]

pub seen_as_cuttable : {F X Y : Type 0} (short : F) (to : Y → X) (from : X → Y) (right : X → Bool) (inner : Layout F Y) → IsCuttable short inner → IsCuttable short (seen_as to from right inner)
seen_as_cuttable short to from right inner cuttable =
    record {
      cut = λ front behind at x next within is.
          let value = map_got to (inner.read (front ++ behind) at) x next is in
          map_cut short front to value.0 x next (inner.read front at) (cuttable.cut front behind at value.0 next within value.1) value.2;
    }

pub recast_cuttable : {F X Y : Type 0} (short : F) (to : Y → X) (from : X → Y) (inner : Layout F Y) → IsCuttable short inner → IsCuttable short (recast to from inner)
recast_cuttable short to from inner cuttable = seen_as_cuttable short to from (λ x. inner.right (from x)) inner cuttable

pub tested_cuttable : {F X : Type 0} (short : F) (test : X → Bool) (fault : F) (place : X → ℕ → ℕ) (inner : Layout F X) → IsCuttable short inner → IsCuttable short (tested test fault place inner)
tested_cuttable short test fault place inner cuttable =
    record {
      cut = λ front behind at x next within is.
          let value = then_got (inner.read (front ++ behind) at) (λ v mid. cond (test v) (got v mid) (bad fault (place v at))) x next is in
          let passed = chosen_got (test value.0) value.0 value.1 fault (place value.0 at) x next value.3 in
          then_cut short front value.0 value.1 x next (inner.read front at) (λ v mid. cond (test v) (got v mid) (bad fault (place v at))) (cuttable.cut front behind at value.0 value.1 within value.2) (λ fits. inl (value.3, omega (arith, fits, passed.2)));
    }

pub both_cuttable : {F X Y : Type 0} (short : F) (first : Layout F X) (second : X → Layout F Y) → IsCuttable short first → ((x : X) → IsCuttable short (second x)) → IsCuttable short (both first second)
both_cuttable short first second of_first of_second =
    record {
      cut = λ front behind at v next within is.
          let one = then_got (first.read (front ++ behind) at) (λ x mid. decoded_map (λ y. (x, y)) ((second x).read (front ++ behind) mid)) v next is in
          let other = map_got (λ (y : _). (one.0, y)) ((second one.0).read (front ++ behind) one.1) v next one.3 in
          then_cut short front one.0 one.1 v next (first.read front at) (λ x mid. decoded_map (λ y. (x, y)) ((second x).read front mid)) (of_first.cut front behind at one.0 one.1 within one.2) (λ fits.
          map_cut short front (λ (y : _). (one.0, y)) other.0 v next ((second one.0).read front one.1) ((of_second one.0).cut front behind one.1 other.0 next fits other.1) other.2);
    }

pub followed_by_cuttable : {F X Y : Type 0} (short : F) (first : Layout F X) (second : Layout F Y) → IsCuttable short first → IsCuttable short second → IsCuttable short (followed_by first second)
followed_by_cuttable short first second of_first of_second = both_cuttable short first (λ _. second) of_first (λ _. of_second)

pub part_cuttable : {F X Y : Type 0} (short : F) (of : Y → X) (first : Layout F X) (behind : X → Layout F Y) → IsCuttable short first → ((x : X) → IsCuttable short (behind x)) → IsCuttable short (part of first behind)
part_cuttable short of first behind of_first of_behind =
    record {
      cut = λ front rest at y next within is.
          let one = then_got (first.read (front ++ rest) at) (λ x mid. (behind x).read (front ++ rest) mid) y next is in
          then_cut short front one.0 one.1 y next (first.read front at) (λ x mid. (behind x).read front mid) (of_first.cut front rest at one.0 one.1 within one.2) (λ fits. (of_behind one.0).cut front rest one.1 y next fits one.3);
    }

pub last_part_cuttable : {F X Y : Type 0} (short : F) (of : Y → X) (last : Layout F X) (make : X → Y) → IsCuttable short last → IsCuttable short (last_part of last make)
last_part_cuttable short of last make cuttable = recast_cuttable short make of last cuttable

module _ {F X : Type 0} (short : F) (layout : ℕ → Layout F X) (cuttable : (k : ℕ) → IsCuttable short (layout k)) where
  cut_each : (k count : ℕ) (front behind : List ℕ) (at : ℕ) (xs : List X) (next : ℕ) → at ≤ length front → (each_from layout k count).read (front ++ behind) at ≡ got xs next → IsReadOrShort short front xs next ((each_from layout k count).read front at)
  cut_each k zero front behind at xs next within is = inl (is, let place : at ≡ next = cc in omega (arith, within, place))
  cut_each k (suc count) front behind at xs next within is =
      let rest = each_from layout (k + 1) count in
      let one = then_got ((layout k).read (front ++ behind) at) (λ x mid. decoded_map (λ (ys : List X). x ∷ ys) (rest.read (front ++ behind) mid)) xs next is in
      let other = map_got (λ (ys : List X). one.0 ∷ ys) (rest.read (front ++ behind) one.1) xs next one.3 in
      then_cut short front one.0 one.1 xs next ((layout k).read front at) (λ x mid. decoded_map (λ (ys : List X). x ∷ ys) (rest.read front mid)) ((cuttable k).cut front behind at one.0 one.1 within one.2) (λ fits.
      map_cut short front (λ (ys : List X). one.0 ∷ ys) other.0 xs next (rest.read front one.1) (cut_each (k + 1) count front behind one.1 other.0 next fits other.1) other.2)

  pub each_cuttable : (k count : ℕ) → IsCuttable short (each_from layout k count)
  each_cuttable k count = record { cut = cut_each k count }

module _ {F X : Type 0} (short : F) (key : X → ℕ) (layout : ℕ → Layout F X) (cuttable : (k : ℕ) → IsCuttable short (layout k)) where
  cut_each_after : (before count : ℕ) (front behind : List ℕ) (at : ℕ) (xs : List X) (next : ℕ) → at ≤ length front → (each_after key layout before count).read (front ++ behind) at ≡ got xs next → IsReadOrShort short front xs next ((each_after key layout before count).read front at)
  cut_each_after before zero front behind at xs next within is = inl (is, let place : at ≡ next = cc in omega (arith, within, place))
  cut_each_after before (suc count) front behind at xs next within is =
      let one = then_got ((layout before).read (front ++ behind) at) (λ x mid. decoded_map (λ (ys : List X). x ∷ ys) ((each_after key layout (key x) count).read (front ++ behind) mid)) xs next is in
      let rest = each_after key layout (key one.0) count in
      let other = map_got (λ (ys : List X). one.0 ∷ ys) (rest.read (front ++ behind) one.1) xs next one.3 in
      then_cut short front one.0 one.1 xs next ((layout before).read front at) (λ x mid. decoded_map (λ (ys : List X). x ∷ ys) ((each_after key layout (key x) count).read front mid)) ((cuttable before).cut front behind at one.0 one.1 within one.2) (λ fits.
      map_cut short front (λ (ys : List X). one.0 ∷ ys) other.0 xs next (rest.read front one.1) (cut_each_after (key one.0) count front behind one.1 other.0 next fits other.1) other.2)

  pub each_after_cuttable : (before count : ℕ) → IsCuttable short (each_after key layout before count)
  each_after_cuttable before count = record { cut = cut_each_after before count }

pub choice_cuttable : {F X : Type 0} (short : F) (is_first : Bool) (first second : Layout F X) → IsCuttable short first → IsCuttable short second → IsCuttable short (choice is_first first second)
choice_cuttable short true first second of_first of_second = of_first
choice_cuttable short false first second of_first of_second = of_second

module _ {F X : Type 0} (short : F) (layout : Layout F X) (cuttable : IsCuttable short layout) where
  cut_option : (is_there : Bool) (front behind : List ℕ) (at : ℕ) (x : Option X) (next : ℕ) → at ≤ length front → (present layout is_there).read (front ++ behind) at ≡ got x next → IsReadOrShort short front x next ((present layout is_there).read front at)
  cut_option true front behind at x next within is =
      let value = map_got (λ (v : X). Some v) (layout.read (front ++ behind) at) x next is in
      map_cut short front (λ (v : X). Some v) value.0 x next (layout.read front at) (cuttable.cut front behind at value.0 next within value.1) value.2
  cut_option false front behind at x next within is = inl (is, let place : at ≡ next = cc in omega (arith, within, place))

  pub present_cuttable : (is_there : Bool) → IsCuttable short (present layout is_there)
  present_cuttable is_there = record { cut = cut_option is_there }
