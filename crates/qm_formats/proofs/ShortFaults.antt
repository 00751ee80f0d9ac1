-- Layouts of which nothing is read only if the bytes end too early, and other faults of parts.
use Rattle.std.proofs.Common.{◌≡◌, ◌≤◌, ◌⊎◌, ℕ, zero, suc, ◌+◌, Bool, true, false, cond, ltb, List, ◌∷◌, ◌++◌, length, take, drop, refl, ap, ◌∙◌, sym, arith, inl, inr}
use Rattle.std.specs.Int.{Width}
use Rattle.std.proofs.lemmas.List.{length-append, length-drop}
use Rattle.qm_formats.specs.Layout.{Decoded, got, bad, Layout, decoded_map, decoded_then, seen_as, part, last_part, each_from}
use Rattle.qm_formats.specs.Exact.{StandsAt}
use Rattle.qm_formats.specs.Fields.{raw, unsigned, signed}
use Rattle.qm_formats.specs.FileParts.{FileFaultKind, short}
use Rattle.qm_formats.proofs.Standing.{behind_part}

-- ---- a fault of the whole is one of a part

module _ {F X Y : Type 0} where
  pub map_bad : (f : X → Y) (answer : Decoded F X) (fault : F) (place : ℕ) → decoded_map f answer ≡ bad fault place → answer ≡ bad fault place
  map_bad f (got x next) fault place is = absurd cc
  map_bad f (bad other at) fault place is =
      let same : other ≡ fault = cc in
      let here : at ≡ place = cc in
      λ i. bad (same i) (here i)

  pub then_bad : (answer : Decoded F X) (behind : X → ℕ → Decoded F Y) (fault : F) (place : ℕ) → decoded_then answer behind ≡ bad fault place →
      (answer ≡ bad fault place) ⊎ ((x : X) × (mid : ℕ) × (answer ≡ got x mid) × (behind x mid ≡ bad fault place))
  then_bad (got x next) behind fault place is = inr (x, next, refl, is)
  then_bad (bad other at) behind fault place is =
      let same : other ≡ fault = cc in
      let here : at ≡ place = cc in
      inl (λ i. bad (same i) (here i))

-- ---- layouts that are read unless the bytes end

pub record IsShortAlone {X : Type 0} (layout : Layout FileFaultKind X) : Type 0 where
  pub alone : (file : List ℕ) (at : ℕ) (fault : FileFaultKind) (place : ℕ) → layout.read file at ≡ bad fault place → (fault ≡ short) × (place ≡ length file)

ends_alone : {X : Type 0} (ends : Bool) (long : ℕ) (x : X) (next : ℕ) (fault : FileFaultKind) (place : ℕ) → cond ends (bad short long) (got x next) ≡ bad fault place → (fault ≡ short) × (place ≡ long)
ends_alone true long x next fault place is = (cc, cc)
ends_alone false long x next fault place is = absurd cc

pub raw_alone : (count : ℕ) → IsShortAlone (raw short count)
unfolding raw
raw_alone count = record { alone = λ file at fault place is. ends_alone (ltb (length file) (at + count)) (length file) (take count (drop at file)) (at + count) fault place is }

pub seen_as_alone : {X Y : Type 0} (to : Y → X) (from : X → Y) (right : X → Bool) (inner : Layout FileFaultKind Y) → IsShortAlone inner → IsShortAlone (seen_as to from right inner)
seen_as_alone to from right inner is = record { alone = λ file at fault place bad_is. is.alone file at fault place (map_bad to (inner.read file at) fault place bad_is) }

pub unsigned_alone : (width : Width) → IsShortAlone (unsigned short width)
unfolding unsigned
unsigned_alone width = seen_as_alone _ _ _ (raw short _) (raw_alone _)

pub signed_alone : (width : Width) → IsShortAlone (signed short width)
unfolding signed
signed_alone width = seen_as_alone _ _ _ (unsigned short width) (unsigned_alone width)

module _ {X Y : Type 0} where
  pub part_alone : (of : Y → X) (first : Layout FileFaultKind X) (behind : X → Layout FileFaultKind Y) → IsShortAlone first → ((x : X) → IsShortAlone (behind x)) → IsShortAlone (part of first behind)
  part_alone of first behind of_first of_behind =
      record {
        alone = λ file at fault place is.
            elim (then_bad (first.read file at) (λ x next. (behind x).read file next) fault place is) [
              | inl in_first ↦ of_first.alone file at fault place in_first
              | inr later ↦ (of_behind later.0).alone file later.1 fault place later.3
            ];
      }

  pub last_part_alone : (of : Y → X) (last : Layout FileFaultKind X) (make : X → Y) → IsShortAlone last → IsShortAlone (last_part of last make)
  last_part_alone of last make is = seen_as_alone make of _ last is

module _ {X : Type 0} (layout : ℕ → Layout FileFaultKind X) (is : (k : ℕ) → IsShortAlone (layout k)) where
  alone_each : (k count : ℕ) (file : List ℕ) (at : ℕ) (fault : FileFaultKind) (place : ℕ) → (each_from layout k count).read file at ≡ bad fault place → (fault ≡ short) × (place ≡ length file)
  alone_each k zero file at fault place bad_is = absurd cc
  alone_each k (suc count) file at fault place bad_is =
      let rest = each_from layout (k + 1) count in
      elim (then_bad ((layout k).read file at) (λ x next. decoded_map (λ (xs : List X). x ∷ xs) (rest.read file next)) fault place bad_is) [
        | inl here ↦ (is k).alone file at fault place here
        | inr later ↦ alone_each (k + 1) count file later.1 fault place (map_bad (λ (xs : List X). later.0 ∷ xs) (rest.read file later.1) fault place later.3)
      ]

  pub each_alone : (k count : ℕ) → IsShortAlone (each_from layout k count)
  each_alone k count = record { alone = alone_each k count }

-- ---- a value that passes a test or not, and one that ends at the end or not

pub chosen_bad : {F X : Type 0} (b : Bool) (x : X) (mid : ℕ) (fault : F) (place : ℕ) (other : F) (at : ℕ) → cond b (got x mid) (bad fault place) ≡ bad other at → (b ≡ false) × (other ≡ fault) × (at ≡ place)
chosen_bad true x mid fault place other at is = absurd cc
chosen_bad false x mid fault place other at is = (refl, cc, cc)

pub chosen_end : {F X : Type 0} (b : Bool) (x : X) (mid : ℕ) (fault : F) (place : ℕ) (other : F) (at : ℕ) → cond b (bad fault place) (got x mid) ≡ bad other at → (b ≡ true) × (other ≡ fault) × (at ≡ place)
chosen_end false x mid fault place other at is = absurd cc
chosen_end true x mid fault place other at is = (refl, cc, cc)

-- ---- a part that stands at a place

pub stands_from : (file : List ℕ) (at : ℕ) (part rest : List ℕ) → at ≤ length file → drop at file ≡ part ++ rest → StandsAt file at part (at + length part)
stands_from file at part rest within is =
    let behind = behind_part file at part rest is in
    let long = length-append part rest in
    let dropped = length-drop at file in
    let whole = ap length is in
    record { stands = is ∙ ap (λ (xs : List ℕ). part ++ xs) (sym behind); ends = refl; within = omega (arith, within, long, dropped, whole) }
