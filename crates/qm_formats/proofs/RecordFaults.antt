-- The faults of a part of a file are those that reading gives.
use Rattle.std.proofs.Common.{◌≡◌, ◌<◌, ◌≤◌, ◌⊎◌, ℕ, zero, suc, ◌+◌, Bool, cond, List, [], ◌∷◌, length, refl, sym, ap, ◌∙◌, subst, arith, inl, inr}
use Rattle.std.specs.Prelude.{IsTrue}
use Rattle.std.proofs.lemmas.Bool.{and_parts, and_from}
use Rattle.qm_formats.specs.Layout.{Decoded, got, bad, Layout, decoded_map, decoded_then, seen_as, tested, part, last_part, each_from}
use Rattle.qm_formats.specs.Fields.{AreBytes}
use Rattle.qm_formats.specs.Exact.{IsRightAt, IsExact}
use Rattle.qm_formats.specs.FileParts.{FileFaultKind, short}
use Rattle.qm_formats.proofs.ShortFaults.{map_bad, then_bad, chosen_bad}
use Rattle.qm_formats.proofs.Standing.{stands_nothing, stands_both, stands_first, stands_second}
use Rattle.qm_formats.specs.FirstFault.{Faults, EndsWithin, IsNoneAt, IsCutOff, cut_off, IsFaultOfRecord, record_cut_off, no_record, IsFaultInTurn, in_first, behind_first, IsFaultOfEach}
use Rattle.qm_formats.proofs.SizedRecords.{IsSized}

-- reading gives a fault exactly where there is one
pub record GivesFaults {X : Type 0} (layout : Layout FileFaultKind X) (HasFault : Faults) : Type 0 where
  pub found : (file : List ℕ) (at : ℕ) (fault : FileFaultKind) (place : ℕ) → AreBytes file → at ≤ length file → layout.read file at ≡ bad fault place → HasFault file at fault place
  pub again : (file : List ℕ) (at : ℕ) (fault : FileFaultKind) (place : ℕ) → AreBytes file → at ≤ length file → HasFault file at fault place → layout.read file at ≡ bad fault place

-- a part that ends too early is short, and all other faults have one kind, at the place of the part
pub record IsRecord {X : Type 0} (layout : Layout FileFaultKind X) (Ends : List ℕ → ℕ → Type 0) (kind : FileFaultKind) : Type 0 where
  pub cut : (file : List ℕ) (at : ℕ) → AreBytes file → at ≤ length file → Ends file at → layout.read file at ≡ bad short (length file)
  pub wrong : (file : List ℕ) (at : ℕ) (fault : FileFaultKind) (place : ℕ) → AreBytes file → at ≤ length file → layout.read file at ≡ bad fault place →
      (Ends file at × (fault ≡ short) × (place ≡ length file)) ⊎ ((Ends file at → ⊥) × (fault ≡ kind) × (place ≡ at))

pub sized_record : {X : Type 0} (layout : Layout FileFaultKind X) (size : ℕ) (kind : FileFaultKind) → IsSized layout size → IsRecord layout (EndsWithin size) kind
sized_record layout size kind is = record { cut = λ file at are within. is.cut file at within; wrong = λ file at fault place are within failed. inl (is.alone file at fault place within failed) }

pub seen_as_record : {X Y : Type 0} (Ends : List ℕ → ℕ → Type 0) (kind : FileFaultKind) (to : Y → X) (from : X → Y) (right : X → Bool) (inner : Layout FileFaultKind Y) → IsRecord inner Ends kind → IsRecord (seen_as to from right inner) Ends kind
seen_as_record Ends kind to from right inner is =
    record {
      cut = λ file at are within ends. ap (decoded_map to) (is.cut file at are within ends);
      wrong = λ file at fault place are within failed. is.wrong file at fault place are within (map_bad to (inner.read file at) fault place failed);
    }

pub tested_record : {X : Type 0} (Ends : List ℕ → ℕ → Type 0) (kind : FileFaultKind) (test : X → Bool) (inner : Layout FileFaultKind X) → IsRecord inner Ends kind → IsRecord (tested test kind (λ _ at. at) inner) Ends kind
tested_record {X} Ends kind test inner is =
    record {
      cut = λ file at are within ends. ap (λ (answer : Decoded FileFaultKind X). decoded_then answer (λ x next. cond (test x) (got x next) (bad kind at))) (is.cut file at are within ends);
      wrong = λ file at fault place are within failed.
          elim (then_bad (inner.read file at) (λ x next. cond (test x) (got x next) (bad kind at)) fault place failed) [
            | inl inside ↦ is.wrong file at fault place are within inside
            | inr read ↦
                let other = chosen_bad (test read.0) read.0 read.1 kind at fault place read.3 in
                inr ((λ ends. let e = sym read.2 ∙ is.cut file at are within ends in absurd cc), other.1, other.2)
          ];
    }

module _ {X : Type 0} (layout : Layout FileFaultKind X) (Ends : List ℕ → ℕ → Type 0) (kind : FileFaultKind) (exact : IsExact layout) (is : IsRecord layout Ends kind) where
  record_found : (file : List ℕ) (at : ℕ) (fault : FileFaultKind) (place : ℕ) → layout.read file at ≡ bad fault place →
      (Ends file at × (fault ≡ short) × (place ≡ length file)) ⊎ ((Ends file at → ⊥) × (fault ≡ kind) × (place ≡ at)) → IsFaultOfRecord layout Ends kind file at fault place
  record_found file at fault place failed (inl cut) =
      let IsFault : FileFaultKind → ℕ → Type 0 = IsFaultOfRecord layout Ends kind file at in
      subst (λ (f : FileFaultKind). IsFault f place) (sym cut.1) (subst (IsFault short) (sym cut.2) (record_cut_off cut.0))
  record_found file at fault place failed (inr other) =
      let IsFault : FileFaultKind → ℕ → Type 0 = IsFaultOfRecord layout Ends kind file at in
      subst (λ (f : FileFaultKind). IsFault f place) (sym other.1) (subst (IsFault kind) (sym other.2) (no_record other.0 (λ x next right. let e = sym failed ∙ exact.again file at x next right in absurd cc)))

  by_answer : (file : List ℕ) (at : ℕ) → AreBytes file → at ≤ length file → (Ends file at → ⊥) → IsNoneAt layout file at → (answer : Decoded FileFaultKind X) → layout.read file at ≡ answer → answer ≡ bad kind at
  by_answer file at are within there none (got x next) read = absurd (none x next (exact.found file at x next are within read))
  by_answer file at are within there none (bad fault place) read = elim (is.wrong file at fault place are within read) [
    | inl cut ↦ absurd (there cut.0)
    | inr other ↦ λ i. bad (other.1 i) (other.2 i)
  ]

  record_again : (file : List ℕ) (at : ℕ) (fault : FileFaultKind) (place : ℕ) → AreBytes file → at ≤ length file → IsFaultOfRecord layout Ends kind file at fault place → layout.read file at ≡ bad fault place
  record_again file at fault place are within (record_cut_off ends) = is.cut file at are within ends
  record_again file at fault place are within (no_record there none) = by_answer file at are within there none (layout.read file at) refl

  pub record_faults : GivesFaults layout (IsFaultOfRecord layout Ends kind)
  record_faults = record { found = λ file at fault place are within failed. record_found file at fault place failed (is.wrong file at fault place are within failed); again = record_again }

cut_found : (size : ℕ) (file : List ℕ) (at : ℕ) (fault : FileFaultKind) (place : ℕ) → length file < at + size → fault ≡ short → place ≡ length file → IsCutOff size file at fault place
cut_found size file at fault place ends kind_is place_is =
    subst (λ (f : FileFaultKind). IsCutOff size file at f place) (sym kind_is) (subst (IsCutOff size file at short) (sym place_is) (cut_off ends))

pub sized_faults : {X : Type 0} (layout : Layout FileFaultKind X) (size : ℕ) → IsSized layout size → GivesFaults layout (IsCutOff size)
sized_faults layout size is = record { found = λ file at fault place are within failed. let ends = is.alone file at fault place within failed in cut_found size file at fault place ends.0 ends.1 ends.2; again = cut_again }
  where
    cut_again : (file : List ℕ) (at : ℕ) (fault : FileFaultKind) (place : ℕ) → AreBytes file → at ≤ length file → IsCutOff size file at fault place → layout.read file at ≡ bad fault place
    cut_again file at fault place are within (cut_off ends) = is.cut file at within ends

-- ---- parts one behind the other

pub seen_as_faults : {X Y : Type 0} (HasFault : Faults) (to : Y → X) (from : X → Y) (right : X → Bool) (inner : Layout FileFaultKind Y) → GivesFaults inner HasFault → GivesFaults (seen_as to from right inner) HasFault
seen_as_faults HasFault to from right inner is =
    record {
      found = λ file at fault place are within failed. is.found file at fault place are within (map_bad to (inner.read file at) fault place failed);
      again = λ file at fault place are within has. ap (decoded_map to) (is.again file at fault place are within has);
    }

pub last_part_faults : {X Y : Type 0} (HasFault : Faults) (of : Y → X) (last : Layout FileFaultKind X) (make : X → Y) → GivesFaults last HasFault → GivesFaults (last_part of last make) HasFault
last_part_faults HasFault of last make is = seen_as_faults HasFault make of _ last is

module _ {X Y : Type 0} (OfFirst : Faults) (OfNext : X → Faults) (of : Y → X) (first : Layout FileFaultKind X) (behind : X → Layout FileFaultKind Y) (exact : IsExact first) (is : GivesFaults first OfFirst) (are_behind : (x : X) → IsTrue (first.right x) → GivesFaults (behind x) (OfNext x)) where
  part_found : (file : List ℕ) (at : ℕ) (fault : FileFaultKind) (place : ℕ) → AreBytes file → at ≤ length file → (part of first behind).read file at ≡ bad fault place → IsFaultInTurn first OfFirst OfNext file at fault place
  part_found file at fault place are within failed =
      elim (then_bad (first.read file at) (λ x next. (behind x).read file next) fault place failed) [
        | inl here ↦ in_first (is.found file at fault place are within here)
        | inr later ↦
            let right = exact.found file at later.0 later.1 are within later.2 in
            behind_first later.0 later.1 right ((are_behind later.0 right.right).found file later.1 fault place are right.stands.within later.3)
      ]

  part_again : (file : List ℕ) (at : ℕ) (fault : FileFaultKind) (place : ℕ) → AreBytes file → at ≤ length file → IsFaultInTurn first OfFirst OfNext file at fault place → (part of first behind).read file at ≡ bad fault place
  part_again file at fault place are within (in_first has) =
      ap (λ (answer : Decoded FileFaultKind X). decoded_then answer (λ x next. (behind x).read file next)) (is.again file at fault place are within has)
  part_again file at fault place are within (behind_first x next right has) =
      ap (λ (answer : Decoded FileFaultKind X). decoded_then answer (λ x next. (behind x).read file next)) (exact.again file at x next right)
      ∙ (are_behind x right.right).again file next fault place are right.stands.within has

  pub part_faults : GivesFaults (part of first behind) (IsFaultInTurn first OfFirst OfNext)
  part_faults = record { found = part_found; again = part_again }

-- ---- values one behind the other

module _ {X : Type 0} (layout : ℕ → Layout FileFaultKind X) (OfOne : ℕ → Faults) (exact : (k : ℕ) → IsExact (layout k)) (is : (k : ℕ) → GivesFaults (layout k) (OfOne k)) where
  abbrev in_front : X → List X → List X
  in_front x xs = x ∷ xs

  each_found : (from count : ℕ) (file : List ℕ) (at : ℕ) (fault : FileFaultKind) (place : ℕ) → AreBytes file → at ≤ length file → (each_from layout from count).read file at ≡ bad fault place → IsFaultOfEach layout OfOne from count file at fault place
  each_found from zero file at fault place are within failed = absurd cc
  each_found from (suc count) file at fault place are within failed =
      elim (then_bad ((layout from).read file at) (λ x next. decoded_map (in_front x) ((each_from layout (from + 1) count).read file next)) fault place failed) [
        | inl here ↦
            let same : from ≡ from + 0 = omega arith in
            record {
              values = [];
              next = at;
              few = omega arith;
              stand = record { right = refl; stands = stands_nothing file at within };
              due = subst (λ (k : ℕ). OfOne k file at fault place) same ((is from).found file at fault place are within here);
            }
        | inr later ↦
            let x = later.0 in
            let right = (exact from).found file at x later.1 are within later.2 in
            let others = each_found (from + 1) count file later.1 fault place are right.stands.within (map_bad (in_front x) ((each_from layout (from + 1) count).read file later.1) fault place later.3) in
            let few = others.few in
            let rest = each_from layout (from + 1) (length others.values) in
            let same : from + 1 + length others.values ≡ from + suc (length others.values) = omega arith in
            record {
              values = x ∷ others.values;
              next = others.next;
              few = omega (arith, few);
              stand = record {
                right = and_from ((layout from).right x) (rest.right others.values) right.right others.stand.right;
                stands = stands_both file at ((layout from).bytes_of x) later.1 (rest.bytes_of others.values) others.next right.stands others.stand.stands;
              };
              due = subst (λ (k : ℕ). OfOne k file others.next fault place) same others.due;
            }
      ]

  each_again : (from : ℕ) (xs : List X) (count : ℕ) (file : List ℕ) (at next : ℕ) (fault : FileFaultKind) (place : ℕ) → AreBytes file → at ≤ length file → length xs < count → IsRightAt (each_from layout from (length xs)) file at xs next → OfOne (from + length xs) file next fault place → (each_from layout from count).read file at ≡ bad fault place
  each_again from xs zero file at next fault place are within few stand due = absurd (omega (arith, few))
  each_again from [] (suc count) file at next fault place are within few stand due =
      let ends = stand.stands.ends in
      let here : next ≡ at = omega (arith, ends) in
      let same : from + 0 ≡ from = omega arith in
      let moved = subst (λ (n : ℕ). OfOne from file n fault place) here (subst (λ (k : ℕ). OfOne k file next fault place) same due) in
      ap (λ (answer : Decoded FileFaultKind X). decoded_then answer (λ x next. decoded_map (in_front x) ((each_from layout (from + 1) count).read file next))) ((is from).again file at fault place are within moved)
  each_again from (x ∷ xs) (suc count) file at next fault place are within few stand due =
      let rest = each_from layout (from + 1) (length xs) in
      let rights = and_parts ((layout from).right x) (rest.right xs) stand.right in
      let own = (layout from).bytes_of x in
      let first = stands_first file at own (rest.bytes_of xs) next stand.stands in
      let second = stands_second file at own (rest.bytes_of xs) next stand.stands in
      let same : from + suc (length xs) ≡ from + 1 + length xs = omega arith in
      ap (λ (answer : Decoded FileFaultKind X). decoded_then answer (λ x next. decoded_map (in_front x) ((each_from layout (from + 1) count).read file next))) ((exact from).again file at x (at + length own) (record { right = rights.0; stands = first }))
      ∙ ap (decoded_map (in_front x)) (each_again (from + 1) xs count file (at + length own) next fault place are first.within (omega (arith, few)) (record { right = rights.1; stands = second }) (subst (λ (k : ℕ). OfOne k file next fault place) same due))

  pub each_faults : (from count : ℕ) → GivesFaults (each_from layout from count) (IsFaultOfEach layout OfOne from count)
  each_faults from count =
      record {
        found = each_found from count;
        again = λ file at fault place are within has. each_again from has.values count file at has.next fault place are within has.few has.stand has.due;
      }
