-- What can stand in a file is written in bytes: what layouts are made of keeps this.
use Rattle.std.proofs.Common.{◌≡◌, ℕ, zero, suc, ◌+◌, Bool, true, false, ltb, List, [], ◌∷◌, ◌++◌, Option, Some, None, refl}
use Rattle.std.proofs.lemmas.Bool.{and_parts, and_from}
use Rattle.qm_formats.specs.Layout.{Layout, recast, tested, followed_by, part, last_part, bytes_of_each, right_each, each_from, many, bytes_of_each_after, right_each_after, each_after, choice, bytes_of_option, right_option, present}
use Rattle.qm_formats.specs.Fields.{are_bytes}
use Rattle.qm_formats.proofs.ExactFields.{bytes_behind}

-- what is right is written in bytes
pub record IsInBytes {F X : Type 0} (layout : Layout F X) : Type 0 where
  pub are : (x : X) → layout.right x ≡ true → are_bytes (layout.bytes_of x) ≡ true

-- the first of some bytes
pub front_bytes : (front behind : List ℕ) → are_bytes (front ++ behind) ≡ true → are_bytes front ≡ true
front_bytes [] behind are = refl
front_bytes (byte ∷ front) behind are =
    let both = and_parts (ltb byte 256) (are_bytes (front ++ behind)) are in
    and_from (ltb byte 256) (are_bytes front) both.0 (front_bytes front behind both.1)

module _ {F : Type 0} where
  pub recast_in_bytes : {X Y : Type 0} (to : Y → X) (from : X → Y) (inner : Layout F Y) → IsInBytes inner → IsInBytes (recast to from inner)
  recast_in_bytes to from inner its = record { are = λ x right. its.are (from x) right }

  pub tested_in_bytes : {X : Type 0} (test : X → Bool) (fault : F) (place : X → ℕ → ℕ) (inner : Layout F X) → IsInBytes inner → IsInBytes (tested test fault place inner)
  tested_in_bytes test fault place inner its = record { are = λ x right. its.are x (and_parts (inner.right x) (test x) right).0 }

  pub followed_by_in_bytes : {X Y : Type 0} (first : Layout F X) (second : Layout F Y) → IsInBytes first → IsInBytes second → IsInBytes (followed_by first second)
  followed_by_in_bytes first second of_first of_second = record {
    are = λ v right.
        let both = and_parts (first.right v.0) (second.right v.1) right in
        bytes_behind (first.bytes_of v.0) (second.bytes_of v.1) (of_first.are v.0 both.0) (of_second.are v.1 both.1);
  }

  pub part_in_bytes : {X Y : Type 0} (of : Y → X) (first : Layout F X) (rest : X → Layout F Y) → IsInBytes first → ((x : X) → IsInBytes (rest x)) → IsInBytes (part of first rest)
  part_in_bytes of first rest of_first of_rest = record {
    are = λ y right.
        let both = and_parts (first.right (of y)) ((rest (of y)).right y) right in
        bytes_behind (first.bytes_of (of y)) ((rest (of y)).bytes_of y) (of_first.are (of y) both.0) ((of_rest (of y)).are y both.1);
  }

  pub last_part_in_bytes : {X Y : Type 0} (of : Y → X) (last : Layout F X) (make : X → Y) → IsInBytes last → IsInBytes (last_part of last make)
  last_part_in_bytes of last make its = recast_in_bytes make of last its

  pub choice_in_bytes : {X : Type 0} (is_first : Bool) (first second : Layout F X) → IsInBytes first → IsInBytes second → IsInBytes (choice is_first first second)
  choice_in_bytes true first second of_first of_second = of_first
  choice_in_bytes false first second of_first of_second = of_second

  module _ {X : Type 0} (layout : ℕ → Layout F X) (its : (k : ℕ) → IsInBytes (layout k)) where
    in_bytes_each : (k count : ℕ) (xs : List X) → right_each layout k count xs ≡ true → are_bytes (bytes_of_each layout k xs) ≡ true
    in_bytes_each k zero [] right = refl
    in_bytes_each k zero (x ∷ xs) right = absurd cc
    in_bytes_each k (suc count) [] right = absurd cc
    in_bytes_each k (suc count) (x ∷ xs) right =
        let both = and_parts ((layout k).right x) (right_each layout (k + 1) count xs) right in
        bytes_behind ((layout k).bytes_of x) (bytes_of_each layout (k + 1) xs) ((its k).are x both.0) (in_bytes_each (k + 1) count xs both.1)

    pub each_in_bytes : (k count : ℕ) → IsInBytes (each_from layout k count)
    each_in_bytes k count = record { are = λ xs right. in_bytes_each k count xs right }

  pub many_in_bytes : {X : Type 0} (layout : Layout F X) → IsInBytes layout → (count : ℕ) → IsInBytes (many layout count)
  many_in_bytes layout its count = each_in_bytes (λ _. layout) (λ _. its) 0 count

  module _ {X : Type 0} (key : X → ℕ) (layout : ℕ → Layout F X) (its : (k : ℕ) → IsInBytes (layout k)) where
    in_bytes_each_after : (before count : ℕ) (xs : List X) → right_each_after key layout before count xs ≡ true → are_bytes (bytes_of_each_after key layout before xs) ≡ true
    in_bytes_each_after before zero [] right = refl
    in_bytes_each_after before zero (x ∷ xs) right = absurd cc
    in_bytes_each_after before (suc count) [] right = absurd cc
    in_bytes_each_after before (suc count) (x ∷ xs) right =
        let both = and_parts ((layout before).right x) (right_each_after key layout (key x) count xs) right in
        bytes_behind ((layout before).bytes_of x) (bytes_of_each_after key layout (key x) xs) ((its before).are x both.0) (in_bytes_each_after (key x) count xs both.1)

    pub each_after_in_bytes : (before count : ℕ) → IsInBytes (each_after key layout before count)
    each_after_in_bytes before count = record { are = λ xs right. in_bytes_each_after before count xs right }

  module _ {X : Type 0} (layout : Layout F X) (its : IsInBytes layout) where
    in_bytes_option : (is_there : Bool) (x : Option X) → right_option layout is_there x ≡ true → are_bytes (bytes_of_option layout x) ≡ true
    in_bytes_option true (Some x) right = its.are x right
    in_bytes_option true None right = refl
    in_bytes_option false (Some x) right = absurd cc
    in_bytes_option false None right = refl

    pub present_in_bytes : (is_there : Bool) → IsInBytes (present layout is_there)
    present_in_bytes is_there = record { are = λ x right. in_bytes_option is_there x right }
