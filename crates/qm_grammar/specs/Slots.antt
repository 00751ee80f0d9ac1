use Rattle.std.specs.Prelude.{◌≡◌, ℕ, ℤ, List, [], ◌∷◌, ◌++◌, length, ◌==◌, if◌then◌else◌}
use Rattle.qm_mapfile.specs.declared.face.Face.{Face}
use Rattle.qm_mapfile.specs.declared.face.Mapping.{Mapping}
use Rattle.qm_mapfile.specs.declared.face.Mapping.TheVariants as mapping
use Rattle.qm_grammar.specs.declared.mark.Mark.TheVariants.{OpenParenthesis, CloseParenthesis, OpenBracket, CloseBracket}
use Rattle.qm_grammar.specs.declared.mark.Sort.TheVariants as sort
use Rattle.qm_grammar.specs.declared.slot.Slot.{Slot}
use Rattle.qm_grammar.specs.declared.slot.Slot.TheVariants as slot
use Rattle.qm_grammar.specs.Symbol.{Symbol, sort_of}
use Rattle.qm_grammar.specs.Number.{SpellsCoordinate}

-- A face is a row of tokens, each with a slot that it fills: three points, the texture, and the mapping in one of two forms.

-- ( x y z )
abbrev pub point_slots : List Slot
point_slots = slot.Mark OpenParenthesis ∷ slot.Coordinate ∷ slot.Coordinate ∷ slot.Coordinate ∷ slot.Mark CloseParenthesis ∷ []

-- three points and a texture
abbrev pub head_slots : List Slot
head_slots = point_slots ++ (point_slots ++ (point_slots ++ slot.Texture ∷ []))

-- the slots of a face as far as its form is open
abbrev pub open_slots : List Slot
open_slots = head_slots ++ slot.FirstOfMapping ∷ []

-- two offsets, a rotation and two scales
abbrev pub standard_slots : List Slot
standard_slots = slot.Word ∷ slot.Word ∷ slot.Word ∷ slot.Word ∷ slot.Word ∷ []

-- [ a b c d ]
abbrev pub axis_slots : List Slot
axis_slots = slot.Mark OpenBracket ∷ slot.Word ∷ slot.Word ∷ slot.Word ∷ slot.Word ∷ slot.Mark CloseBracket ∷ []

-- two axes, a rotation and two scales
abbrev pub valve_slots : List Slot
valve_slots = axis_slots ++ (axis_slots ++ slot.Word ∷ slot.Word ∷ slot.Word ∷ [])

-- the two forms of a mapping
pub data Form : Type 0 where
  standard : Form
  valve : Form

abbrev pub mapping_slots : Form → List Slot
mapping_slots standard = standard_slots
mapping_slots valve = valve_slots

-- all slots of a face
abbrev pub face_slots : Form → List Slot
face_slots form = head_slots ++ mapping_slots form

-- a symbol fills a slot, and gives these coordinates, in thousandths, and these texts: one of either, or none
pub data Fills : Slot → Symbol → List ℤ → List (List ℕ) → Type 0 where
  mark : {m : _} {symbol : Symbol} → sort_of symbol ≡ sort.Mark m → Fills (slot.Mark m) symbol [] []
  coordinate :
      {symbol : Symbol} {number : ℤ} → sort_of symbol ≡ sort.Name → SpellsCoordinate symbol.bytes number →
      Fills slot.Coordinate symbol (number ∷ []) []
  texture : {symbol : Symbol} → sort_of symbol ≡ sort.Name → Fills slot.Texture symbol [] (symbol.bytes ∷ [])
  quoted_texture : {symbol : Symbol} → sort_of symbol ≡ sort.Quoted → Fills slot.Texture symbol [] (symbol.bytes ∷ [])
  word : {symbol : Symbol} → sort_of symbol ≡ sort.Name → Fills slot.Word symbol [] (symbol.bytes ∷ [])

-- symbols fill slots, one for one, and give these coordinates and these texts
pub data Fill : List Slot → List Symbol → List ℤ → List (List ℕ) → Type 0 where
  none : Fill [] [] [] []
  more :
      {one : Slot} {slots : List Slot} {symbol : Symbol} {symbols : List Symbol}
      {number numbers : List ℤ} {text texts : List (List ℕ)} →
      Fills one symbol number text → Fill slots symbols numbers texts →
      Fill (one ∷ slots) (symbol ∷ symbols) (number ++ numbers) (text ++ texts)

-- nine coordinates as three points
abbrev pub points_of : List ℤ → List (List ℤ)
points_of (a ∷ b ∷ c ∷ d ∷ e ∷ f ∷ g ∷ h ∷ i ∷ []) = (a ∷ b ∷ c ∷ []) ∷ (d ∷ e ∷ f ∷ []) ∷ (g ∷ h ∷ i ∷ []) ∷ []
points_of _ = []

-- the words of a mapping: the form with axes has eleven
abbrev pub mapping_of : List (List ℕ) → Mapping
mapping_of words = if length words == 11 then mapping.Valve words else mapping.Standard words

-- the face of coordinates and texts, the first of which is the texture
abbrev pub face_of : List ℤ → List (List ℕ) → Face
face_of numbers [] = record { points = points_of numbers; texture = []; mapping = mapping_of [] }
face_of numbers (name ∷ words) = record { points = points_of numbers; texture = name; mapping = mapping_of words }
