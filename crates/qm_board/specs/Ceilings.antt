use Rattle.std.specs.Prelude.{ℕ, ◌/◌, ◌%◌, ◌==◌, Bool, true, not, ◌&&◌, ◌||◌, List, [], ◌∷◌, map, length}
use Rattle.std.specs.List.{range_with_len}
use Rattle.qm_lists.specs.Word.{has_bit}
use Rattle.qm_contacts.specs.NumberedLeaves.{numbered_leaves}
use Rattle.qm_contacts.specs.World.{World}
use Rattle.qm_shared_rows.specs.Findings.{Ceiling, Findings}

-- What a row may have of all that a pass has found: for each portal the leaves that lie within each of its ceilings.

-- a ceiling lets the row of a portal have a leaf: it is one of another word, or has the leaf's bit
abbrev pub lets_have : Ceiling → ℕ → ℕ → Bool
lets_have ceiling portal leaf = not ((ceiling.portal == portal) && (ceiling.k == leaf / 64)) || has_bit ceiling.word (leaf % 64)

-- each of these ceilings does
abbrev pub all_let_have : List Ceiling → ℕ → ℕ → Bool
all_let_have [] portal leaf = true
all_let_have (ceiling ∷ ceilings) portal leaf = lets_have ceiling portal leaf && all_let_have ceilings portal leaf

-- the row of a portal that has all these leaves
unfoldable pub ceiling_row : ℕ → List Ceiling → ℕ → List Bool
ceiling_row leaves ceilings portal = map (all_let_have ceilings portal) (range_with_len 0 leaves)

-- one for each portal of a world
unfoldable pub ceiling_rows : World → Findings → List (List Bool)
ceiling_rows world pass = map (ceiling_row (length (numbered_leaves world.tree)) pass.ceilings) (range_with_len 0 (length world.portals))
