use Rattle.std.specs.Prelude.{ℕ, zero, suc, ◌+◌, Bool, true, false, ◌&&◌, List, [], ◌∷◌, ◌++◌, Option, Some, None, length, nat_lt, if◌then◌else◌}

-- One description of a format for both directions: what bytes a value has, and what is read. The first fault is the one
-- that is met first where parts are read in order.

-- what is read at a place of a file: a value and where it ends, or a fault and its place
pub data Decoded (F X : Type 0) : Type 0 where
  got : X → ℕ → Decoded F X
  bad : F → ℕ → Decoded F X

-- how values stand in a file: the bytes of each; which values can stand there; what is read at a place of a file
pub record Layout (F X : Type 0) : Type 0 where
  pub bytes_of : X → List ℕ
  pub right : X → Bool
  pub read : List ℕ → ℕ → Decoded F X

-- the answer with another value
abbrev pub decoded_map : {F X Y : Type 0} → (X → Y) → Decoded F X → Decoded F Y
decoded_map f (got x next) = got (f x) next
decoded_map f (bad fault place) = bad fault place

-- what is read behind a value, or the fault where there is none
abbrev pub decoded_then : {F X Y : Type 0} → Decoded F X → (X → ℕ → Decoded F Y) → Decoded F Y
decoded_then (got x next) behind = behind x next
decoded_then (bad fault place) behind = bad fault place

-- values seen as others, of which a test says which ones can stand there
abbrev pub seen_as : {F X Y : Type 0} → (Y → X) → (X → Y) → (X → Bool) → Layout F Y → Layout F X
seen_as to from right inner =
    record {
      bytes_of = λ x. inner.bytes_of (from x);
      right = right;
      read = λ file at. decoded_map to (inner.read file at);
    }

-- values with other names for their parts: those can stand there whose parts can
abbrev pub recast : {F X Y : Type 0} → (Y → X) → (X → Y) → Layout F Y → Layout F X
recast to from inner = seen_as to from (λ x. inner.right (from x)) inner

-- values that pass a test; where one does not, there is a fault, whose place follows from the value and its own place
abbrev pub tested : {F X : Type 0} → (X → Bool) → F → (X → ℕ → ℕ) → Layout F X → Layout F X
tested test fault place inner =
    record {
      bytes_of = inner.bytes_of;
      right = λ x. inner.right x && test x;
      read = λ file at. decoded_then (inner.read file at) (λ x next. if test x then got x next else bad fault (place x at));
    }

-- two values one behind the other, where the layout of the second follows from the first
abbrev pub both : {F X Y : Type 0} → Layout F X → (X → Layout F Y) → Layout F (X × Y)
both first second =
    record {
      bytes_of = λ v. first.bytes_of v.0 ++ (second v.0).bytes_of v.1;
      right = λ v. first.right v.0 && (second v.0).right v.1;
      read = λ file at. decoded_then (first.read file at) (λ x next. decoded_map (λ y. (x, y)) ((second x).read file next));
    }

-- two values one behind the other
abbrev pub followed_by : {F X Y : Type 0} → Layout F X → Layout F Y → Layout F (X × Y)
followed_by first second = both first (λ _. second)

-- a value part by part: the part that stands first, and then what stands behind it, whose layout follows from the part
abbrev pub part : {F X Y : Type 0} → (Y → X) → Layout F X → (X → Layout F Y) → Layout F Y
part of first behind =
    record {
      bytes_of = λ y. first.bytes_of (of y) ++ (behind (of y)).bytes_of y;
      right = λ y. first.right (of y) && (behind (of y)).right y;
      read = λ file at. decoded_then (first.read file at) (λ x next. (behind x).read file next);
    }

-- the last part of a value, which with those before it makes the whole
abbrev pub last_part : {F X Y : Type 0} → (Y → X) → Layout F X → (X → Y) → Layout F Y
last_part of last make = recast make of last

module _ {F X : Type 0} (layout : ℕ → Layout F X) where
  -- the bytes of values, of which the first has the number k
  abbrev pub bytes_of_each : ℕ → List X → List ℕ
  bytes_of_each k [] = []
  bytes_of_each k (x ∷ xs) = (layout k).bytes_of x ++ bytes_of_each (k + 1) xs

  -- whether there are so many values, each right
  abbrev pub right_each : ℕ → ℕ → List X → Bool
  right_each k zero [] = true
  right_each k zero (x ∷ xs) = false
  right_each k (suc count) [] = false
  right_each k (suc count) (x ∷ xs) = (layout k).right x && right_each (k + 1) count xs

  -- so many values are read one behind the other
  abbrev pub read_each : ℕ → ℕ → List ℕ → ℕ → Decoded F (List X)
  read_each k zero file at = got [] at
  read_each k (suc count) file at = decoded_then ((layout k).read file at) (λ x next. decoded_map (λ (xs : List X). x ∷ xs) (read_each (k + 1) count file next))

  -- so many values one behind the other, each in the layout of its number, from k on
  abbrev pub each_from : ℕ → ℕ → Layout F (List X)
  each_from k count = record { bytes_of = bytes_of_each k; right = right_each k count; read = read_each k count }

  abbrev pub each : ℕ → Layout F (List X)
  each count = each_from 0 count

-- so many values one behind the other
abbrev pub many : {F X : Type 0} → Layout F X → ℕ → Layout F (List X)
many layout count = each (λ _. layout) count

-- values one behind the other, each in the layout that follows from the key of the one before
module _ {F X : Type 0} (key : X → ℕ) (layout : ℕ → Layout F X) where
  -- the bytes of values, of which the first stands behind one with that key
  abbrev pub bytes_of_each_after : ℕ → List X → List ℕ
  bytes_of_each_after before [] = []
  bytes_of_each_after before (x ∷ xs) = (layout before).bytes_of x ++ bytes_of_each_after (key x) xs

  -- whether there are so many values, each right
  abbrev pub right_each_after : ℕ → ℕ → List X → Bool
  right_each_after before zero [] = true
  right_each_after before zero (x ∷ xs) = false
  right_each_after before (suc count) [] = false
  right_each_after before (suc count) (x ∷ xs) = (layout before).right x && right_each_after (key x) count xs

  -- so many values are read one behind the other
  abbrev pub read_each_after : ℕ → ℕ → List ℕ → ℕ → Decoded F (List X)
  read_each_after before zero file at = got [] at
  read_each_after before (suc count) file at =
      decoded_then ((layout before).read file at) (λ x next. decoded_map (λ (xs : List X). x ∷ xs) (read_each_after (key x) count file next))

  -- so many values, of which the first stands behind one with that key
  abbrev pub each_after : ℕ → ℕ → Layout F (List X)
  each_after before count = record { bytes_of = bytes_of_each_after before; right = right_each_after before count; read = read_each_after before count }

-- one of two layouts
abbrev pub choice : {F X : Type 0} → Bool → Layout F X → Layout F X → Layout F X
choice is_first first second =
    record {
      bytes_of = λ x. if is_first then first.bytes_of x else second.bytes_of x;
      right = λ x. if is_first then first.right x else second.right x;
      read = λ file at. if is_first then first.read file at else second.read file at;
    }

-- a value where there is one
module _ {F X : Type 0} (layout : Layout F X) where
  abbrev pub bytes_of_option : Option X → List ℕ
  bytes_of_option None = []
  bytes_of_option (Some x) = layout.bytes_of x

  abbrev pub right_option : Bool → Option X → Bool
  right_option true (Some x) = layout.right x
  right_option true None = false
  right_option false (Some x) = false
  right_option false None = true

  abbrev pub read_option : Bool → List ℕ → ℕ → Decoded F (Option X)
  read_option true file at = decoded_map (λ (x : X). Some x) (layout.read file at)
  read_option false file at = got None at

  abbrev pub present : Bool → Layout F (Option X)
  present is_there = record { bytes_of = bytes_of_option; right = right_option is_there; read = read_option is_there }

-- a value with nothing behind it
abbrev pub read_to_end : {F X : Type 0} → Layout F X → F → List ℕ → Decoded F X
read_to_end layout trailing file =
    decoded_then (layout.read file 0) (λ x next. if nat_lt next (length file) then bad trailing next else got x next)

-- a whole file, of so many bytes at most: its length is looked at first, and nothing stands behind the value
abbrev pub read_whole_file : {F X : Type 0} → Layout F X → ℕ → F → F → List ℕ → Decoded F X
read_whole_file layout limit too_long trailing file =
    if nat_lt limit (length file) then bad too_long limit else read_to_end layout trailing file
