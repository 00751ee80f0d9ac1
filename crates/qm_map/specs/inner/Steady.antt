use Rattle.std.specs.Prelude.{◌≡◌, ◌≤◌, ℕ, ◌+◌, List, [], ◌∷◌, length}
use Rattle.qm_grammar.specs.declared.slot.Slot.{Slot}
use Rattle.qm_grammar.specs.declared.slot.Slot.TheVariants.{Coordinate, Texture, FirstOfMapping}
use Rattle.qm_grammar.specs.declared.context.Context.{Context}
use Rattle.qm_grammar.specs.declared.context.Context.TheVariants.{Face}
use Rattle.qm_grammar.specs.Prefix.{Prefix}

-- What a reader keeps true of the face that it reads.

-- how many coordinates are still due; none is behind the texture
abbrev pub coordinates_left : List Slot → ℕ
coordinates_left [] = 0
coordinates_left (Coordinate ∷ slots) = 1 + coordinates_left slots
coordinates_left (FirstOfMapping ∷ slots) = 0
coordinates_left (_ ∷ slots) = coordinates_left slots

-- how many textures are still due
abbrev pub textures_left : List Slot → ℕ
textures_left [] = 0
textures_left (Texture ∷ slots) = 1 + textures_left slots
textures_left (FirstOfMapping ∷ slots) = 0
textures_left (_ ∷ slots) = textures_left slots

-- an open face has nine coordinates and a texture, read or still due; behind a face no number is left over
abbrev pub HasDueParts : Context → ℕ → ℕ → List Slot → Type 0
HasDueParts Face numbers texts left = (numbers + coordinates_left left ≡ 9) × (1 ≤ texts + textures_left left)
HasDueParts _ numbers texts left = numbers ≡ 0

-- a face is open, of which these slots are due
abbrev pub IsAwaiting : Prefix → List Slot → Type 0
IsAwaiting prefix slots = (prefix.context ≡ Face) × HasDueParts Face (length prefix.numbers) (length prefix.texts) slots
