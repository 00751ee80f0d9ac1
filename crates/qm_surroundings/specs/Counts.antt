use Rattle.std.specs.Prelude.{ℕ, ◌≡◌, ◌≢◌, ◌<◌, ◌≤◌, ◌-◌, ◌^◌, ◌⊎◌, List}

-- What is known of names, and counts of faults, before and after.

-- a count is greater after a call than before it, or stands at its type's end
abbrev pub Rose : ℕ → ℕ → Type 0
Rose before after = (before < after) ⊎ (2 ^ 64 - 1 ≤ after)

-- what is known of each name is the same before and after
abbrev pub Stays : {A : Type 0} → (List ℕ → A) → (List ℕ → A) → Type 0
Stays before after = (name : List ℕ) → after name ≡ before name

-- what is known of each name but this one is the same before and after
abbrev pub StaysElsewhere : {A : Type 0} → List ℕ → (List ℕ → A) → (List ℕ → A) → Type 0
StaysElsewhere here before after = (name : List ℕ) → name ≢ here → after name ≡ before name

-- no name's count is lower after than before
abbrev pub NeverFall : (List ℕ → ℕ) → (List ℕ → ℕ) → Type 0
NeverFall before after = (name : List ℕ) → before name ≤ after name
