use Rattle.std.specs.Prelude.{ℕ, List, [], ◌∷◌, ◌++◌, ◌==◌, cond}

-- What one pass has found by its own steps.

-- word k of the row of a portal lies within a word from then on
pub record Ceiling : Type 0 where
  pub portal : ℕ
  pub k : ℕ
  pub word : ℕ

-- the done word of a portal was this one
pub record DoneWord : Type 0 where
  pub portal : ℕ
  pub word : ℕ

-- ceilings, portals that are known as done, done words that were found, and numbers that were drawn
pub record Findings : Type 0 where
  pub ceilings : List Ceiling
  pub known : List ℕ
  pub found : List DoneWord
  pub drawn : List ℕ

abbrev pub none_found : Findings
none_found = record { ceilings = []; known = []; found = []; drawn = [] }

abbrev pub ceiling : ℕ → ℕ → ℕ → Ceiling
ceiling portal k word = record { portal = portal; k = k; word = word }

abbrev pub done_word : ℕ → ℕ → DoneWord
done_word portal word = record { portal = portal; word = word }

-- one ceiling more
abbrev pub with_ceiling : Ceiling → Findings → Findings
with_ceiling more pass = record { ceilings = more ∷ pass.ceilings; known = pass.known; found = pass.found; drawn = pass.drawn }

-- one portal more that is known as done
abbrev pub with_known : ℕ → Findings → Findings
with_known portal pass = record { ceilings = pass.ceilings; known = portal ∷ pass.known; found = pass.found; drawn = pass.drawn }

-- one done word more; a 1 makes its portal known as done
abbrev pub with_found : DoneWord → Findings → Findings
with_found more pass = record {
  ceilings = pass.ceilings;
  known = cond (more.word == 1) (more.portal ∷ pass.known) pass.known;
  found = more ∷ pass.found;
  drawn = pass.drawn;
}

-- one number more
abbrev pub with_drawn : ℕ → Findings → Findings
with_drawn number pass = record { ceilings = pass.ceilings; known = pass.known; found = pass.found; drawn = number ∷ pass.drawn }

-- the same, but for the numbers drawn
abbrev pub without_drawn : Findings → Findings
without_drawn pass = record { ceilings = pass.ceilings; known = pass.known; found = pass.found; drawn = [] }

-- what both have found
abbrev pub found_by_both : Findings → Findings → Findings
found_by_both pass other = record {
  ceilings = pass.ceilings ++ other.ceilings;
  known = pass.known ++ other.known;
  found = pass.found ++ other.found;
  drawn = pass.drawn ++ other.drawn;
}
