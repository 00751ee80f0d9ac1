-- Values that are read one behind the other.
use Rattle.std.proofs.Common.{◌≡◌, ◌<◌, ℕ, suc, ◌+◌, ◌-◌, List, [], ◌∷◌, ◌++◌, refl, sym, ap, ◌∙◌, append_assoc, arith}
use Rattle.qm_formats.specs.Layout.{Decoded, got, bad, Layout, decoded_map, decoded_then, read_each, read_each_after}

map_behind : {F X : Type 0} (items : List X) (x : X) (answer : Decoded F (List X)) → decoded_map (λ (xs : List X). items ++ xs) (decoded_map (λ (xs : List X). x ∷ xs) answer) ≡ decoded_map (λ (xs : List X). (items ++ x ∷ []) ++ xs) answer
map_behind items x (got xs next) = ap (λ (ys : List _). got ys next) (sym (append_assoc items (x ∷ []) xs))
map_behind items x (bad fault place) = refl

-- a fault of the part is the fault of the whole
abbrev pub PassesFault : {F X Y : Type 0} → Decoded F X → Decoded F Y → Type 0
PassesFault {F} part whole = (fault : F) (place : ℕ) → part ≡ bad fault place → whole ≡ bad fault place

module _ {F X : Type 0} (layout : ℕ → Layout F X) (count : ℕ) (file : List ℕ) (whole : Decoded F (List X)) where
  -- these values are read, and what is read of the others completes them
  abbrev pub IsReadSoFar : List X → ℕ → ℕ → Type 0
  IsReadSoFar items counter next = whole ≡ decoded_map (λ (xs : List X). items ++ xs) (read_each layout counter (count - counter) file next)

  module _ (items : List X) (counter next : ℕ) where
    -- the values, where one more is due
    abbrev completed : Decoded F X → Decoded F (List X)
    completed one = decoded_map (λ (xs : List X). items ++ xs) (decoded_then one (λ x after. decoded_map (λ (xs : List X). x ∷ xs) (read_each layout (counter + 1) (count - (counter + 1)) file after)))

    due : counter < count → IsReadSoFar items counter next → whole ≡ completed ((layout counter).read file next)
    due less so_far =
        let one_due : count - counter ≡ suc (count - (counter + 1)) = omega (arith, less) in
        so_far ∙ ap (λ (n : ℕ). decoded_map (λ (xs : List X). items ++ xs) (read_each layout counter n file next)) one_due

    pub one_more : (x : X) (after : ℕ) (more : List X) → counter < count → IsReadSoFar items counter next → (layout counter).read file next ≡ got x after → more ≡ items ++ x ∷ [] → IsReadSoFar more (counter + 1) after
    one_more x after more less so_far read pushed =
        let others = read_each layout (counter + 1) (count - (counter + 1)) file after in
        due less so_far
        ∙ ap completed read
        ∙ map_behind items x others
        ∙ ap (λ (all : List X). decoded_map (λ (xs : List X). all ++ xs) others) (sym pushed)

    pub one_fault : counter < count → IsReadSoFar items counter next → PassesFault ((layout counter).read file next) whole
    one_fault less so_far fault place is = due less so_far ∙ ap completed is

module _ {F X : Type 0} (key : X → ℕ) (layout : ℕ → Layout F X) (count : ℕ) (file : List ℕ) (whole : Decoded F (List X)) where
  -- these values are read, the last of which has that key, and what is read of the others completes them
  abbrev pub IsReadUpTo : List X → ℕ → ℕ → ℕ → Type 0
  IsReadUpTo items before counter next = whole ≡ decoded_map (λ (xs : List X). items ++ xs) (read_each_after key layout before (count - counter) file next)

  module _ (items : List X) (before counter next : ℕ) where
    -- the values, where one more is due
    abbrev completed_after : Decoded F X → Decoded F (List X)
    completed_after one = decoded_map (λ (xs : List X). items ++ xs) (decoded_then one (λ x after. decoded_map (λ (xs : List X). x ∷ xs) (read_each_after key layout (key x) (count - (counter + 1)) file after)))

    due_after : counter < count → IsReadUpTo items before counter next → whole ≡ completed_after ((layout before).read file next)
    due_after less so_far =
        let one_due : count - counter ≡ suc (count - (counter + 1)) = omega (arith, less) in
        so_far ∙ ap (λ (n : ℕ). decoded_map (λ (xs : List X). items ++ xs) (read_each_after key layout before n file next)) one_due

    pub one_more_after : (x : X) (after : ℕ) (more : List X) → counter < count → IsReadUpTo items before counter next → (layout before).read file next ≡ got x after → more ≡ items ++ x ∷ [] → IsReadUpTo more (key x) (counter + 1) after
    one_more_after x after more less so_far read pushed =
        let others = read_each_after key layout (key x) (count - (counter + 1)) file after in
        due_after less so_far
        ∙ ap completed_after read
        ∙ map_behind items x others
        ∙ ap (λ (all : List X). decoded_map (λ (xs : List X). all ++ xs) others) (sym pushed)

    pub one_fault_after : counter < count → IsReadUpTo items before counter next → PassesFault ((layout before).read file next) whole
    one_fault_after less so_far fault place is = due_after less so_far ∙ ap completed_after is
