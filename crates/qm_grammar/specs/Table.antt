use Rattle.std.specs.Prelude.{◌≡◌, ◌≢◌, List, [], ◌∷◌, IsNone, length}
use Rattle.qm_numerals.specs.Answer.{IsNoNumber, IsTooFineText, IsTooLargeText}
use Rattle.qm_mapfile.specs.Face.{SpanPlane, SpanTooFine}
use Rattle.qm_grammar.specs.declared.mark.Mark.TheVariants.{OpenBrace, CloseBrace, OpenParenthesis, CloseParenthesis, OpenBracket}
use Rattle.qm_grammar.specs.declared.mark.Sort.{Sort}
use Rattle.qm_grammar.specs.declared.mark.Sort.TheVariants as sort
use Rattle.qm_grammar.specs.declared.slot.Slot.{Slot}
use Rattle.qm_grammar.specs.declared.slot.Slot.TheVariants as slot
use Rattle.qm_grammar.specs.declared.context.Context.{Context}
use Rattle.qm_grammar.specs.declared.context.Context.TheVariants as context
use Rattle.qm_grammar.specs.declared.refusal.Refusal.{Refusal}
use Rattle.qm_grammar.specs.declared.refusal.Refusal.TheVariants as refusal
use Rattle.qm_grammar.specs.Symbol.{Symbol, sort_of}
use Rattle.qm_grammar.specs.Number.{coordinate_places, IsOutsideText}
use Rattle.qm_grammar.specs.Origin.{origin_key, value_of, IsOriginText}
use Rattle.qm_grammar.specs.Slots.{points_of}
use Rattle.qm_grammar.specs.Prefix.{Prefix}

-- which sorts of token may stand in a context; in a face the first slot that is left says it
pub data Allows : Context → List Slot → Sort → Type 0 where
  entity_opens : {left : List Slot} → Allows context.Outside left (sort.Mark OpenBrace)
  key : {left : List Slot} → Allows context.Entity left sort.Quoted
  brush_opens : {left : List Slot} → Allows context.Entity left (sort.Mark OpenBrace)
  entity_closes : {left : List Slot} → Allows context.Entity left (sort.Mark CloseBrace)
  value : {left : List Slot} → Allows context.Value left sort.Quoted
  face_begins : {left : List Slot} → Allows context.Brush left (sort.Mark OpenParenthesis)
  brush_closes : {left : List Slot} → Allows context.Brush left (sort.Mark CloseBrace)
  mark : {m : _} {others : List Slot} → Allows context.Face (slot.Mark m ∷ others) (sort.Mark m)
  coordinate : {others : List Slot} → Allows context.Face (slot.Coordinate ∷ others) sort.Name
  texture : {others : List Slot} → Allows context.Face (slot.Texture ∷ others) sort.Name
  quoted_texture : {others : List Slot} → Allows context.Face (slot.Texture ∷ others) sort.Quoted
  word_of_mapping : {others : List Slot} → Allows context.Face (slot.FirstOfMapping ∷ others) sort.Name
  axis_opens : {others : List Slot} → Allows context.Face (slot.FirstOfMapping ∷ others) (sort.Mark OpenBracket)
  word : {others : List Slot} → Allows context.Face (slot.Word ∷ others) sort.Name

-- the next token fills a coordinate
pub record IsAtCoordinate (prefix : Prefix) (symbol : Symbol) : Type 0 where
  pub others : List Slot
  pub in_face : prefix.context ≡ context.Face
  pub next : prefix.left ≡ slot.Coordinate ∷ others
  pub is_name : sort_of symbol ≡ sort.Name

-- the next token closes the third point
pub record ClosesThirdPoint (prefix : Prefix) (symbol : Symbol) : Type 0 where
  pub others : List Slot
  pub in_face : prefix.context ≡ context.Face
  pub next : prefix.left ≡ slot.Mark CloseParenthesis ∷ others
  pub three_points : length prefix.numbers ≡ 9
  pub closes : sort_of symbol ≡ sort.Mark CloseParenthesis

-- the next token is the value of the first origin of an entity that is not the first
pub record IsOriginValue (prefix : Prefix) (symbol : Symbol) : Type 0 where
  pub behind_key : prefix.context ≡ context.Value
  pub is_quoted : sort_of symbol ≡ sort.Quoted
  pub not_world : prefix.entities ≢ []
  pub key_is : prefix.key ≡ origin_key
  pub first : IsNone (value_of origin_key prefix.pairs)

-- the next token closes a brush without faces
pub record ClosesEmptyBrush (prefix : Prefix) (symbol : Symbol) : Type 0 where
  pub in_brush : prefix.context ≡ context.Brush
  pub closes : sort_of symbol ≡ sort.Mark CloseBrace
  pub no_faces : prefix.faces ≡ []

-- a token is refused behind a prefix, and why
pub data Refuses (prefix : Prefix) (symbol : Symbol) : Refusal → Type 0 where
  unexpected : (Allows prefix.context prefix.left (sort_of symbol) → ⊥) → Refuses prefix symbol refusal.Unexpected
  bad_number : IsAtCoordinate prefix symbol → IsNoNumber symbol.bytes → Refuses prefix symbol refusal.BadNumber
  fraction : IsAtCoordinate prefix symbol → IsTooFineText symbol.bytes coordinate_places → Refuses prefix symbol refusal.Fraction
  too_large : IsAtCoordinate prefix symbol → IsTooLargeText symbol.bytes coordinate_places → Refuses prefix symbol refusal.CoordinateRange
  out_of_range : IsAtCoordinate prefix symbol → IsOutsideText symbol.bytes → Refuses prefix symbol refusal.CoordinateRange
  no_normal :
      ClosesThirdPoint prefix symbol → (SpanPlane (points_of prefix.numbers) → ⊥) →
      Refuses prefix symbol refusal.NoNormal
  too_fine :
      ClosesThirdPoint prefix symbol → SpanTooFine (points_of prefix.numbers) →
      Refuses prefix symbol refusal.PlaneTooFine
  no_faces : ClosesEmptyBrush prefix symbol → Refuses prefix symbol refusal.NoFaces
  bad_origin :
      IsOriginValue prefix symbol → (IsOriginText symbol.bytes → ⊥) → Refuses prefix symbol refusal.BadOrigin
