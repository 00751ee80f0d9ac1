-- What layouts are made of is exact where their parts are.
use Rattle.std.proofs.Common.{◌≡◌, ◌≤◌, ℕ, zero, suc, ◌+◌, Bool, true, false, cond, List, [], ◌∷◌, ◌++◌, length, Option, Some, None, refl, sym, ap, subst, ◌∙◌, arith}
use Rattle.std.specs.Prelude.{IsTrue}
use Rattle.std.proofs.lemmas.Bool.{and_parts, and_from}
use Rattle.qm_formats.specs.Fields.{AreBytes}
use Rattle.qm_formats.specs.Layout.{Decoded, got, bad, Layout, decoded_map, decoded_then, seen_as, recast, tested, both, followed_by, part, last_part, each_from, each_after, choice, present}
use Rattle.qm_formats.specs.Exact.{StandsAt, IsRightAt, IsExact}
use Rattle.qm_formats.proofs.Standing.{stands_nothing, stands_both, stands_first, stands_second}

-- where an answer is a value, so were the answers that it was made of
pub map_got : {F X Y : Type 0} (f : X → Y) (answer : Decoded F X) (y : Y) (next : ℕ) → decoded_map f answer ≡ got y next → (x : X) × (answer ≡ got x next) × (f x ≡ y)
map_got f (got x mid) y next is =
    let value : f x ≡ y = cc in
    let place : mid ≡ next = cc in
    (x, ap (got x) place, value)
map_got f (bad fault place) y next is = absurd (cc)

pub then_got : {F X Y : Type 0} (answer : Decoded F X) (behind : X → ℕ → Decoded F Y) (y : Y) (next : ℕ) → decoded_then answer behind ≡ got y next → (x : X) × (mid : ℕ) × (answer ≡ got x mid) × (behind x mid ≡ got y next)
then_got (got x mid) behind y next is = (x, mid, refl, is)
then_got (bad fault place) behind y next is = absurd (cc)

pub chosen_got : {F X : Type 0} (b : Bool) (x : X) (mid : ℕ) (fault : F) (place : ℕ) (y : X) (next : ℕ) → cond b (got x mid) (bad fault place) ≡ got y next → (b ≡ true) × (x ≡ y) × (mid ≡ next)
chosen_got true x mid fault place y next is = (refl, cc, cc)
chosen_got false x mid fault place y next is = absurd (cc)

-- the value of what is found
found_as : {F X : Type 0} (layout : Layout F X) (file : List ℕ) (at : ℕ) (x y : X) (mid next : ℕ) → x ≡ y → mid ≡ next → IsRightAt layout file at x mid → IsRightAt layout file at y next
found_as layout file at x y mid next same place found =
    subst (λ (n : ℕ). IsRightAt layout file at y n) place (subst (λ (v : _). IsRightAt layout file at v mid) same found)

pub seen_as_exact :
    {F X Y : Type 0} (to : Y → X) (from : X → Y) (right : X → Bool) (inner : Layout F Y) →
    IsExact inner →
    ((y : Y) → IsTrue (inner.right y) → (from (to y) ≡ y) × IsTrue (right (to y))) →
    ((x : X) → IsTrue (right x) → (to (from x) ≡ x) × IsTrue (inner.right (from x))) →
    IsExact (seen_as to from right inner)
seen_as_exact to from right inner exact there back =
    record {
      found = λ file at x next are within is.
          let value = map_got to (inner.read file at) x next is in
          let found = exact.found file at value.0 next are within value.1 in
          let other = there value.0 found.right in
          record {
            right = subst (λ (v : _). IsTrue (right v)) value.2 other.1;
            stands = subst (λ (v : _). StandsAt file at (inner.bytes_of v) next) (sym other.0 ∙ ap from value.2) found.stands;
          };
      again = λ file at x next found.
          let other = back x found.right in
          ap (decoded_map to) (exact.again file at (from x) next (record { right = other.1; stands = found.stands })) ∙ ap (λ (v : _). got v next) other.0;
    }

pub recast_exact :
    {F X Y : Type 0} (to : Y → X) (from : X → Y) (inner : Layout F Y) →
    IsExact inner →
    ((y : Y) → IsTrue (inner.right y) → from (to y) ≡ y) →
    ((x : X) → IsTrue (inner.right (from x)) → to (from x) ≡ x) →
    IsExact (recast to from inner)
recast_exact to from inner exact there back =
    seen_as_exact to from (λ x. inner.right (from x)) inner exact (λ y right. (there y right, subst (λ (v : _). IsTrue (inner.right v)) (sym (there y right)) right)) (λ x right. (back x right, right))

pub tested_exact : {F X : Type 0} (test : X → Bool) (fault : F) (place : X → ℕ → ℕ) (inner : Layout F X) → IsExact inner → IsExact (tested test fault place inner)
tested_exact test fault place inner exact =
    record {
      found = λ file at x next are within is.
          let value = then_got (inner.read file at) (λ v mid. cond (test v) (got v mid) (bad fault (place v at))) x next is in
          let passed = chosen_got (test value.0) value.0 value.1 fault (place value.0 at) x next value.3 in
          let found = found_as inner file at value.0 x value.1 next passed.1 passed.2 (exact.found file at value.0 value.1 are within value.2) in
          record { right = and_from (inner.right x) (test x) found.right (sym (ap test passed.1) ∙ passed.0); stands = found.stands };
      again = λ file at x next found.
          let both = and_parts (inner.right x) (test x) found.right in
          ap (λ (answer : _). decoded_then answer (λ v mid. cond (test v) (got v mid) (bad fault (place v at)))) (exact.again file at x next (record { right = both.0; stands = found.stands }))
          ∙ ap (λ (b : Bool). cond b (got x next) (bad fault (place x at))) both.1;
    }

pub both_exact : {F X Y : Type 0} (first : Layout F X) (second : X → Layout F Y) → IsExact first → ((x : X) → IsExact (second x)) → IsExact (both first second)
both_exact first second exact exact_second =
    record {
      found = λ file at v next are within is.
          let one = then_got (first.read file at) (λ x mid. decoded_map (λ y. (x, y)) ((second x).read file mid)) v next is in
          let other = map_got (λ (y : _). (one.0, y)) ((second one.0).read file one.1) v next one.3 in
          let front = exact.found file at one.0 one.1 are within one.2 in
          let behind = (exact_second one.0).found file one.1 other.0 next are front.stands.within other.1 in
          let whole : IsRightAt (both first second) file at (one.0, other.0) next = record {
            right = and_from (first.right one.0) ((second one.0).right other.0) front.right behind.right;
            stands = stands_both file at (first.bytes_of one.0) one.1 ((second one.0).bytes_of other.0) next front.stands behind.stands;
          } in
          subst (λ (w : _). IsRightAt (both first second) file at w next) other.2 whole;
      again = λ file at v next found.
          let rights = and_parts (first.right v.0) ((second v.0).right v.1) found.right in
          let p = first.bytes_of v.0 in
          let q = (second v.0).bytes_of v.1 in
          let one = exact.again file at v.0 (at + length p) (record { right = rights.0; stands = stands_first file at p q next found.stands }) in
          let other = (exact_second v.0).again file (at + length p) v.1 next (record { right = rights.1; stands = stands_second file at p q next found.stands }) in
          ap (λ (answer : _). decoded_then answer (λ x mid. decoded_map (λ y. (x, y)) ((second x).read file mid))) one ∙ ap (decoded_map (λ y. (v.0, y))) other;
    }

pub followed_by_exact : {F X Y : Type 0} (first : Layout F X) (second : Layout F Y) → IsExact first → IsExact second → IsExact (followed_by first second)
followed_by_exact first second exact other = both_exact first (λ _. second) exact (λ _. other)

-- a value is read exactly where it is right, its bytes stand, and something more holds of it; what is read is so
pub record IsExactWhere {F Y : Type 0} (holds : Y → Type 0) (layout : Layout F Y) : Type 0 where
  pub found : (file : List ℕ) (at : ℕ) (y : Y) (next : ℕ) → AreBytes file → at ≤ length file → layout.read file at ≡ got y next → holds y × IsRightAt layout file at y next
  pub again : (file : List ℕ) (at : ℕ) (y : Y) (next : ℕ) → holds y → IsRightAt layout file at y next → layout.read file at ≡ got y next

-- what more is known of a value, one of whose parts is read
pub record IsKnown {X Y : Type 0} (holds : Y → Type 0) (of : Y → X) (x : X) (y : Y) : Type 0 where
  pub before : holds y
  pub is : of y ≡ x

module _ {F X Y : Type 0} (holds : Y → Type 0) (of : Y → X) where
  pub part_exact : (first : Layout F X) (behind : X → Layout F Y) → IsExact first → ((x : X) → IsTrue (first.right x) → IsExactWhere (IsKnown holds of x) (behind x)) → IsExactWhere holds (part of first behind)
  part_exact first behind exact exact_behind =
      record {
        found = λ file at y next are within is.
            let one = then_got (first.read file at) (λ x mid. (behind x).read file mid) y next is in
            let front = exact.found file at one.0 one.1 are within one.2 in
            let rest = (exact_behind one.0 front.right).found file one.1 y next are front.stands.within one.3 in
            let same = sym rest.0.is in (
              rest.0.before,
              record {
                right = and_from (first.right (of y)) ((behind (of y)).right y) (subst (λ (x : X). IsTrue (first.right x)) same front.right) (subst (λ (x : X). IsTrue ((behind x).right y)) same rest.1.right);
                stands = subst (λ (x : X). StandsAt file at (first.bytes_of x ++ (behind x).bytes_of y) next) same (stands_both file at (first.bytes_of one.0) one.1 ((behind one.0).bytes_of y) next front.stands rest.1.stands);
              },
            );
        again = λ file at y next held found.
            let rights = and_parts (first.right (of y)) ((behind (of y)).right y) found.right in
            let p = first.bytes_of (of y) in
            let q = (behind (of y)).bytes_of y in
            let one = exact.again file at (of y) (at + length p) (record { right = rights.0; stands = stands_first file at p q next found.stands }) in
            let rest = (exact_behind (of y) rights.0).again file (at + length p) y next (record { before = held; is = refl }) (record { right = rights.1; stands = stands_second file at p q next found.stands }) in
            ap (λ (answer : Decoded F X). decoded_then answer (λ x mid. (behind x).read file mid)) one ∙ rest;
      }

  pub last_part_exact : (last : Layout F X) (make : X → Y) → IsExact last → ((x : X) → IsTrue (last.right x) → IsKnown holds of x (make x)) → ((y : Y) → holds y → make (of y) ≡ y) → IsExactWhere holds (last_part of last make)
  last_part_exact last make exact known back =
      record {
        found = λ file at y next are within is.
            let value = map_got make (last.read file at) y next is in
            let front = exact.found file at value.0 next are within value.1 in
            let made = known value.0 front.right in
            let same = sym made.is in
            let found : IsRightAt (last_part of last make) file at (make value.0) next = record {
              right = subst (λ (x : X). IsTrue (last.right x)) same front.right;
              stands = subst (λ (x : X). StandsAt file at (last.bytes_of x) next) same front.stands;
            } in
            subst (λ (z : Y). holds z × IsRightAt (last_part of last make) file at z next) value.2 (made.before, found);
        again = λ file at y next held found.
            ap (decoded_map make) (exact.again file at (of y) next (record { right = found.right; stands = found.stands })) ∙ ap (λ (z : Y). got z next) (back y held);
      }

-- nothing more is known of a value
abbrev pub IsAny : {Y : Type 0} → Y → Type 0
IsAny y = Unit {0}

pub exact_of_parts : {F Y : Type 0} (layout : Layout F Y) → IsExactWhere IsAny layout → IsExact layout
exact_of_parts layout exact =
    record {
      found = λ file at y next are within is. (exact.found file at y next are within is).1;
      again = λ file at y next found. exact.again file at y next tt found;
    }

module _ {F X : Type 0} (layout : ℕ → Layout F X) (exact : (k : ℕ) → IsExact (layout k)) where
  found_each : (k count : ℕ) (file : List ℕ) (at : ℕ) (xs : List X) (next : ℕ) → AreBytes file → at ≤ length file → (each_from layout k count).read file at ≡ got xs next → IsRightAt (each_from layout k count) file at xs next
  found_each k zero file at xs next are within is =
      let none : [] ≡ xs = cc in
      let place : at ≡ next = cc in
      found_as (each_from layout k zero) file at [] xs at next none place (record { right = refl; stands = stands_nothing file at within })
  found_each k (suc count) file at xs next are within is =
      let one = then_got ((layout k).read file at) (λ x mid. decoded_map (λ (rest : List X). x ∷ rest) ((each_from layout (k + 1) count).read file mid)) xs next is in
      let other = map_got (λ (rest : List X). one.0 ∷ rest) ((each_from layout (k + 1) count).read file one.1) xs next one.3 in
      let front = (exact k).found file at one.0 one.1 are within one.2 in
      let behind = found_each (k + 1) count file one.1 other.0 next are front.stands.within other.1 in
      found_as (each_from layout k (suc count)) file at (one.0 ∷ other.0) xs next next other.2 refl (
      record {
        right = and_from ((layout k).right one.0) ((each_from layout (k + 1) count).right other.0) front.right behind.right;
        stands = stands_both file at ((layout k).bytes_of one.0) one.1 ((each_from layout (k + 1) count).bytes_of other.0) next front.stands behind.stands;
      }
      )

  again_each : (k count : ℕ) (file : List ℕ) (at : ℕ) (xs : List X) (next : ℕ) → IsRightAt (each_from layout k count) file at xs next → (each_from layout k count).read file at ≡ got xs next
  again_each k zero file at [] next found = ap (got []) (let e = found.stands.ends in omega (arith, e))
  again_each k zero file at (x ∷ xs) next found = absurd (let e = found.right in cc)
  again_each k (suc count) file at [] next found = absurd (let e = found.right in cc)
  again_each k (suc count) file at (x ∷ xs) next found =
      let rest = each_from layout (k + 1) count in
      let rights = and_parts ((layout k).right x) (rest.right xs) found.right in
      let p = (layout k).bytes_of x in
      let q = rest.bytes_of xs in
      let one = (exact k).again file at x (at + length p) (record { right = rights.0; stands = stands_first file at p q next found.stands }) in
      let other = again_each (k + 1) count file (at + length p) xs next (record { right = rights.1; stands = stands_second file at p q next found.stands }) in
      ap (λ (answer : Decoded F X). decoded_then answer (λ y mid. decoded_map (λ (ys : List X). y ∷ ys) (rest.read file mid))) one ∙ ap (decoded_map (λ (ys : List X). x ∷ ys)) other

  pub each_exact : (k count : ℕ) → IsExact (each_from layout k count)
  each_exact k count = record { found = found_each k count; again = again_each k count }

module _ {F X : Type 0} (key : X → ℕ) (layout : ℕ → Layout F X) (exact : (k : ℕ) → IsExact (layout k)) where
  found_each_after : (before count : ℕ) (file : List ℕ) (at : ℕ) (xs : List X) (next : ℕ) → AreBytes file → at ≤ length file → (each_after key layout before count).read file at ≡ got xs next → IsRightAt (each_after key layout before count) file at xs next
  found_each_after before zero file at xs next are within is =
      let none : [] ≡ xs = cc in
      let place : at ≡ next = cc in
      found_as (each_after key layout before zero) file at [] xs at next none place (record { right = refl; stands = stands_nothing file at within })
  found_each_after before (suc count) file at xs next are within is =
      let one = then_got ((layout before).read file at) (λ x mid. decoded_map (λ (rest : List X). x ∷ rest) ((each_after key layout (key x) count).read file mid)) xs next is in
      let rest = each_after key layout (key one.0) count in
      let other = map_got (λ (ys : List X). one.0 ∷ ys) (rest.read file one.1) xs next one.3 in
      let front = (exact before).found file at one.0 one.1 are within one.2 in
      let behind = found_each_after (key one.0) count file one.1 other.0 next are front.stands.within other.1 in
      found_as (each_after key layout before (suc count)) file at (one.0 ∷ other.0) xs next next other.2 refl (
      record {
        right = and_from ((layout before).right one.0) (rest.right other.0) front.right behind.right;
        stands = stands_both file at ((layout before).bytes_of one.0) one.1 (rest.bytes_of other.0) next front.stands behind.stands;
      }
      )

  again_each_after : (before count : ℕ) (file : List ℕ) (at : ℕ) (xs : List X) (next : ℕ) → IsRightAt (each_after key layout before count) file at xs next → (each_after key layout before count).read file at ≡ got xs next
  again_each_after before zero file at [] next found = ap (got []) (let e = found.stands.ends in omega (arith, e))
  again_each_after before zero file at (x ∷ xs) next found = absurd (let e = found.right in cc)
  again_each_after before (suc count) file at [] next found = absurd (let e = found.right in cc)
  again_each_after before (suc count) file at (x ∷ xs) next found =
      let rest = each_after key layout (key x) count in
      let rights = and_parts ((layout before).right x) (rest.right xs) found.right in
      let p = (layout before).bytes_of x in
      let q = rest.bytes_of xs in
      let one = (exact before).again file at x (at + length p) (record { right = rights.0; stands = stands_first file at p q next found.stands }) in
      let other = again_each_after (key x) count file (at + length p) xs next (record { right = rights.1; stands = stands_second file at p q next found.stands }) in
      ap (λ (answer : Decoded F X). decoded_then answer (λ y mid. decoded_map (λ (ys : List X). y ∷ ys) ((each_after key layout (key y) count).read file mid))) one ∙ ap (decoded_map (λ (ys : List X). x ∷ ys)) other

  pub each_after_exact : (before count : ℕ) → IsExact (each_after key layout before count)
  each_after_exact before count = record { found = found_each_after before count; again = again_each_after before count }

pub choice_exact : {F X : Type 0} (is_first : Bool) (first second : Layout F X) → IsExact first → IsExact second → IsExact (choice is_first first second)
choice_exact true first second of_first of_second = of_first
choice_exact false first second of_first of_second = of_second

module _ {F X : Type 0} (layout : Layout F X) (exact : IsExact layout) where
  found_option : (is_there : Bool) (file : List ℕ) (at : ℕ) (x : Option X) (next : ℕ) → AreBytes file → at ≤ length file → (present layout is_there).read file at ≡ got x next → IsRightAt (present layout is_there) file at x next
  found_option true file at x next are within is =
      let value = map_got (λ (v : X). Some v) (layout.read file at) x next is in
      let found = exact.found file at value.0 next are within value.1 in
      found_as (present layout true) file at (Some value.0) x next next value.2 refl (record { right = found.right; stands = found.stands })
  found_option false file at x next are within is =
      let none : None ≡ x = cc in
      let place : at ≡ next = cc in
      found_as (present layout false) file at None x at next none place (record { right = refl; stands = stands_nothing file at within })

  again_option : (is_there : Bool) (file : List ℕ) (at : ℕ) (x : Option X) (next : ℕ) → IsRightAt (present layout is_there) file at x next → (present layout is_there).read file at ≡ got x next
  again_option true file at (Some x) next found = ap (decoded_map (λ (v : X). Some v)) (exact.again file at x next (record { right = found.right; stands = found.stands }))
  again_option true file at None next found = absurd (let e = found.right in cc)
  again_option false file at (Some x) next found = absurd (let e = found.right in cc)
  again_option false file at None next found = ap (got None) (let e = found.stands.ends in omega (arith, e))

  pub present_exact : (is_there : Bool) → IsExact (present layout is_there)
  present_exact is_there = record { found = found_option is_there; again = again_option is_there }
