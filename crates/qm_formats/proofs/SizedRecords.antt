-- Layouts of a fixed number of bytes, of which nothing is read only if the file ends before.
use Rattle.std.proofs.Common.{◌≡◌, ◌<◌, ◌≤◌, ℕ, zero, suc, ◌+◌, ◌*◌, Bool, true, false, cond, ltb, List, [], ◌∷◌, length, take, drop, refl, sym, ap, ◌∙◌, subst, arith, inl, inr}
use Rattle.std.specs.Int.{Width, byte_len}
use Rattle.std.proofs.lemmas.Bool.{cases_lt, lt-ltb, ltb-true}
use Rattle.qm_formats.specs.Layout.{Decoded, got, bad, Layout, decoded_map, decoded_then, seen_as, followed_by, part, last_part, each_from, choice}
use Rattle.qm_formats.specs.Fields.{raw, unsigned, signed, unwritten}
use Rattle.qm_formats.specs.FileParts.{FileFaultKind, short}
use Rattle.qm_formats.proofs.ExactParts.{map_got, then_got}
use Rattle.qm_formats.proofs.ShortFaults.{map_bad, then_bad, chosen_end}

-- so many bytes are read where they are there; else the file is too short
pub record IsSized {X : Type 0} (layout : Layout FileFaultKind X) (size : ℕ) : Type 0 where
  pub cut : (file : List ℕ) (at : ℕ) → at ≤ length file → length file < at + size → layout.read file at ≡ bad short (length file)
  pub alone : (file : List ℕ) (at : ℕ) (fault : FileFaultKind) (place : ℕ) → at ≤ length file → layout.read file at ≡ bad fault place → (length file < at + size) × (fault ≡ short) × (place ≡ length file)
  pub ends : (file : List ℕ) (at : ℕ) (x : X) (next : ℕ) → at ≤ length file → layout.read file at ≡ got x next → (next ≡ at + size) × (next ≤ length file)

end_got : {X : Type 0} (b : Bool) (fault : FileFaultKind) (place : ℕ) (x : X) (mid : ℕ) (y : X) (next : ℕ) → cond b (bad fault place) (got x mid) ≡ got y next → (b ≡ false) × (next ≡ mid)
end_got true fault place x mid y next is = absurd cc
end_got false fault place x mid y next is = (refl, cc)

not_less : (n m : ℕ) → ltb n m ≡ false → m ≤ n
not_less n m is = elim (cases_lt n m) [
  | inl less ↦ absurd (let e = sym is ∙ lt-ltb n m less in cc)
  | inr more ↦ more
]

pub raw_sized : (count : ℕ) → IsSized (raw short count) count
unfolding raw
raw_sized count =
    record {
      cut = λ file at within less. ap (λ (b : Bool). cond b (bad short (length file)) (got (take count (drop at file)) (at + count))) (lt-ltb (length file) (at + count) less);
      alone = λ file at fault place within is.
          let ends = chosen_end (ltb (length file) (at + count)) (take count (drop at file)) (at + count) short (length file) fault place is in
          (ltb-true (length file) (at + count) ends.0, ends.1, ends.2);
      ends = λ file at x next within is.
          let ends = end_got (ltb (length file) (at + count)) short (length file) (take count (drop at file)) (at + count) x next is in
          let fits = not_less (length file) (at + count) ends.0 in
          (ends.1, let e = ends.1 in omega (arith, e, fits));
    }

pub seen_as_sized : {X Y : Type 0} (size : ℕ) (to : Y → X) (from : X → Y) (right : X → Bool) (inner : Layout FileFaultKind Y) → IsSized inner size → IsSized (seen_as to from right inner) size
seen_as_sized size to from right inner is =
    record {
      cut = λ file at within less. ap (decoded_map to) (is.cut file at within less);
      alone = λ file at fault place within failed. is.alone file at fault place within (map_bad to (inner.read file at) fault place failed);
      ends = λ file at x next within read. let value = map_got to (inner.read file at) x next read in is.ends file at value.0 next within value.1;
    }

pub unsigned_sized : (width : Width) → IsSized (unsigned short width) (byte_len width)
unfolding unsigned
unsigned_sized width = seen_as_sized (byte_len width) _ _ _ (raw short (byte_len width)) (raw_sized (byte_len width))

pub signed_sized : (width : Width) → IsSized (signed short width) (byte_len width)
unfolding signed
signed_sized width = seen_as_sized (byte_len width) _ _ _ (unsigned short width) (unsigned_sized width)

pub unwritten_sized : (value : ℕ) → IsSized (unwritten value) 0
unfolding unwritten
unwritten_sized value =
    record {
      cut = λ file at within less. absurd (omega (arith, within, less));
      alone = λ file at fault place within is. absurd cc;
      ends = λ file at x next within is. let place : at ≡ next = cc in (omega (arith, place), omega (arith, place, within));
    }

module _ {X Y : Type 0} (first : Layout FileFaultKind X) (behind : X → Layout FileFaultKind Y) (n m : ℕ) (is : IsSized first n) (is_behind : (x : X) → IsSized (behind x) m) where
  part_cut : (file : List ℕ) (at : ℕ) → at ≤ length file → length file < at + (n + m) → (answer : Decoded FileFaultKind X) → first.read file at ≡ answer → decoded_then answer (λ x next. (behind x).read file next) ≡ bad short (length file)
  part_cut file at within less (got x mid) read =
      let ends = is.ends file at x mid within read in
      let here = ends.0 in
      (is_behind x).cut file mid ends.1 (omega (arith, here, less))
  part_cut file at within less (bad fault place) read = let ends = is.alone file at fault place within read in λ i. bad (ends.1 i) (ends.2 i)

  -- what is read of a value and what stands behind it
  abbrev pub read_both : Layout FileFaultKind Y
  read_both = record { bytes_of = λ _. []; right = λ _. true; read = λ file at. decoded_then (first.read file at) (λ x next. (behind x).read file next) }

  pub both_sized : IsSized read_both (n + m)
  both_sized =
      record {
        cut = λ file at within less. part_cut file at within less (first.read file at) refl;
        alone = λ file at fault place within failed.
            elim (then_bad (first.read file at) (λ x next. (behind x).read file next) fault place failed) [
              | inl here ↦ let ends = is.alone file at fault place within here in (let less = ends.0 in omega (arith, less), ends.1, ends.2)
              | inr later ↦
                  let first_ends = is.ends file at later.0 later.1 within later.2 in
                  let ends = (is_behind later.0).alone file later.1 fault place first_ends.1 later.3 in
                  (let here = first_ends.0 in let less = ends.0 in omega (arith, here, less), ends.1, ends.2)
            ];
        ends = λ file at y next within read.
            let one = then_got (first.read file at) (λ x mid. (behind x).read file mid) y next read in
            let first_ends = is.ends file at one.0 one.1 within one.2 in
            let ends = (is_behind one.0).ends file one.1 y next first_ends.1 one.3 in
            (let a = first_ends.0 in let b = ends.0 in omega (arith, a, b), ends.1);
      }

pub part_sized : {X Y : Type 0} (of : Y → X) (first : Layout FileFaultKind X) (behind : X → Layout FileFaultKind Y) (n m : ℕ) → IsSized first n → ((x : X) → IsSized (behind x) m) → IsSized (part of first behind) (n + m)
part_sized of first behind n m is is_behind =
    let both = both_sized first behind n m is is_behind in
    record { cut = both.cut; alone = both.alone; ends = both.ends }

pub last_part_sized : {X Y : Type 0} (size : ℕ) (of : Y → X) (last : Layout FileFaultKind X) (make : X → Y) → IsSized last size → IsSized (last_part of last make) size
last_part_sized size of last make is = seen_as_sized size make of _ last is

pub followed_by_sized : {X Y : Type 0} (first : Layout FileFaultKind X) (second : Layout FileFaultKind Y) (n m : ℕ) → IsSized first n → IsSized second m → IsSized (followed_by first second) (n + m)
followed_by_sized {X} {Y} first second n m is is_second =
    let both = both_sized first (λ x. last_part (λ (v : X × Y). v.1) second (λ y. (x, y))) n m is (λ x. last_part_sized m (λ (v : X × Y). v.1) second (λ y. (x, y)) is_second) in
    record { cut = both.cut; alone = both.alone; ends = both.ends }

pub choice_sized : {X : Type 0} (is_first : Bool) (first second : Layout FileFaultKind X) (n m : ℕ) → IsSized first n → IsSized second m → IsSized (choice is_first first second) (cond is_first n m)
choice_sized true first second n m of_first of_second = of_first
choice_sized false first second n m of_first of_second = of_second

module _ {X : Type 0} (layout : Layout FileFaultKind X) (size : ℕ) (is : IsSized layout size) where
  pub many_sized : (k count : ℕ) → IsSized (each_from (λ _. layout) k count) (count * size)
  many_sized k zero =
      record {
        cut = λ file at within less. absurd (omega (arith, within, less));
        alone = λ file at fault place within failed. absurd cc;
        ends = λ file at x next within read. let place : at ≡ next = cc in (omega (arith, place), omega (arith, place, within));
      }
  many_sized k (suc count) =
      let rest = each_from (λ _. layout) (k + 1) count in
      let both = both_sized layout (λ x. seen_as (λ (xs : List X). x ∷ xs) (λ (xs : List X). xs) (λ _. true) rest) size (count * size) is (λ x. seen_as_sized (count * size) (λ (xs : List X). x ∷ xs) (λ (xs : List X). xs) (λ _. true) rest (many_sized (k + 1) count)) in
      let same : size + count * size ≡ suc count * size = grind arith in
      let counted = subst (IsSized _) same both in
      record { cut = counted.cut; alone = counted.alone; ends = counted.ends }
