-- How the tokens of a map are read one by one. What a reader has read is a prefix; a token leads from one prefix to the
-- next, or is refused.
use Rattle.std.specs.Prelude.{ℕ, ◌*◌, ℤ, pos, neg_ℤ, unsigned_abs, int_le, nat_lt, ◌==◌, Bool, not, ◌&&◌, ◌||◌, if◌then◌else◌, List, [], ◌∷◌, ◌++◌, length, drop, Option, Some, None, is_none, option_and_then, Result, Ok, Err, bytes_eq}
use Rattle.std.specs.Ordering.{int_eq}
use Rattle.qm_numerals.specs.declared.fraction.Fraction.{Fraction}
use Rattle.qm_numerals.specs.declared.fraction.NumberFault.{NumberFault}
use Rattle.qm_numerals.specs.declared.fraction.NumberFault.TheVariants as number
use Rattle.qm_numerals.specs.Computed.{read_at}
use Rattle.qm_tokens.specs.Lexeme.{Lexeme}
use Rattle.qm_tokens.specs.inner.Modes.{between, read}
use Rattle.qm_space.specs.Point.{Point}
use Rattle.qm_space.specs.Bounds.{world_extent, thousandths_extent, normal_bound}
use Rattle.qm_space.specs.Plane.{Plane}
use Rattle.qm_space.specs.ThreePoints.{outward_plane, plane_through}
use Rattle.qm_mapfile.specs.declared.entity.MapFile.{MapFile}
use Rattle.qm_mapfile.specs.Face.{point_at}
use Rattle.qm_grammar.specs.Words.{words_of_text}
use Rattle.qm_grammar.specs.declared.mark.Mark.{Mark}
use Rattle.qm_grammar.specs.declared.mark.Mark.TheVariants.{OpenBrace, CloseBrace, OpenParenthesis, CloseParenthesis, OpenBracket, CloseBracket}
use Rattle.qm_grammar.specs.declared.mark.Sort.{Sort}
use Rattle.qm_grammar.specs.declared.mark.Sort.TheVariants as sort
use Rattle.qm_grammar.specs.declared.slot.Slot.{Slot}
use Rattle.qm_grammar.specs.declared.slot.Slot.TheVariants as slot
use Rattle.qm_grammar.specs.declared.context.Context.{Context}
use Rattle.qm_grammar.specs.declared.context.Context.TheVariants as context
use Rattle.qm_grammar.specs.declared.refusal.Refusal.{Refusal}
use Rattle.qm_grammar.specs.declared.refusal.Refusal.TheVariants as refusal
use Rattle.qm_grammar.specs.declared.fault.MapFault.{MapFault}
use Rattle.qm_grammar.specs.declared.fault.MapFault.TheVariants as fault
use Rattle.qm_grammar.specs.Symbol.{Symbol, symbol_of, sort_of}
use Rattle.qm_grammar.specs.Number.{coordinate_places, parts_of_unit}
use Rattle.qm_grammar.specs.Origin.{origin_key, value_of}
use Rattle.qm_grammar.specs.Slots.{open_slots, standard_slots, valve_slots, points_of, face_of}
use Rattle.qm_grammar.specs.Prefix.{Prefix, between_entities}
use Rattle.qm_grammar.specs.Faults.{text_limit, line_at, last_line, end_of, fault_of}

-- the byte of a mark
abbrev pub mark_byte : Mark → ℕ
mark_byte OpenBrace = 123
mark_byte CloseBrace = 125
mark_byte OpenParenthesis = 40
mark_byte CloseParenthesis = 41
mark_byte OpenBracket = 91
mark_byte CloseBracket = 93

-- whether two marks are the same
abbrev pub is_same_mark : Mark → Mark → Bool
is_same_mark one other = mark_byte one == mark_byte other

-- a coordinate of the closed cube, or why it is none
abbrev pub coordinate_in_range : Fraction → Result ℤ Refusal
coordinate_in_range fraction =
    if int_le (neg_ℤ thousandths_extent) fraction.numerator && int_le fraction.numerator thousandths_extent then Ok fraction.numerator
    else Err refusal.CoordinateRange

abbrev pub coordinate_of_answer : Result Fraction NumberFault → Result ℤ Refusal
coordinate_of_answer (Ok fraction) = coordinate_in_range fraction
coordinate_of_answer (Err number.Form) = Err refusal.BadNumber
coordinate_of_answer (Err number.TooFine) = Err refusal.Fraction
coordinate_of_answer (Err number.TooLarge) = Err refusal.CoordinateRange

-- the coordinate that a word spells, or why it spells none
unfoldable pub coordinate_of : List ℕ → Result ℤ Refusal
coordinate_of text = coordinate_of_answer (read_at text coordinate_places)

-- one number of an origin, in millionths
abbrev pub millionths_in_range : Fraction → Option ℤ
millionths_in_range fraction =
    if nat_lt (unsigned_abs fraction.numerator) (world_extent * parts_of_unit) then Some fraction.numerator else None

abbrev pub millionths_of_answer : Result Fraction NumberFault → Option ℤ
millionths_of_answer (Ok fraction) = millionths_in_range fraction
millionths_of_answer (Err fault) = None

unfoldable pub millionths_of : List ℕ → Option ℤ
millionths_of text = millionths_of_answer (read_at text 6)

-- the point that three words spell
abbrev pub point_of_words : List (List ℕ) → Option Point
point_of_words (first ∷ second ∷ third ∷ []) =
    option_and_then (λ x. option_and_then (λ y. option_and_then (λ z.
    Some (record { x = x; y = y; z = z; w = pos parts_of_unit })) (millionths_of third)) (millionths_of second)) (millionths_of first)
point_of_words _ = None

-- the point that the value of an origin gives
unfoldable pub origin_of : List ℕ → Option Point
origin_of value = point_of_words (words_of_text value)

-- whether the normal of an outward plane is not zero
abbrev pub has_normal : Plane → Bool
has_normal h = not (int_eq h.nx (pos 0)) || not (int_eq h.ny (pos 0)) || not (int_eq h.nz (pos 0))

-- whether three points are not on one line
unfoldable pub span_plane : List (List ℤ) → Bool
span_plane points = has_normal (outward_plane (point_at points 0) (point_at points 1) (point_at points 2))

-- whether some component of the normal is beyond its bound
abbrev pub has_large_normal : Plane → Bool
has_large_normal h =
    nat_lt normal_bound (unsigned_abs h.nx) || nat_lt normal_bound (unsigned_abs h.ny) || nat_lt normal_bound (unsigned_abs h.nz)

-- whether three points give a plane: they are not on one line, and it is not too fine
unfoldable pub give_plane : List (List ℤ) → Bool
give_plane points =
    span_plane points && not (has_large_normal (plane_through (point_at points 0) (point_at points 1) (point_at points 2)).0)

-- why three points that give no plane are refused
unfoldable pub plane_refusal : List (List ℤ) → Refusal
plane_refusal points = if span_plane points then refusal.PlaneTooFine else refusal.NoNormal

-- between entities an open brace begins one
unfoldable pub step_outside : Prefix → Sort → Result Prefix Refusal
step_outside prefix (sort.Mark OpenBrace) = Ok (record prefix { context = context.Entity })
step_outside prefix _ = Err refusal.Unexpected

-- in an entity a key, a brush or its end
unfoldable pub step_entity : Prefix → Sort → List ℕ → Result Prefix Refusal
step_entity prefix sort.Quoted bytes = Ok (record prefix { context = context.Value; key = bytes })
step_entity prefix (sort.Mark OpenBrace) bytes = Ok (record prefix { context = context.Brush })
step_entity prefix (sort.Mark CloseBrace) bytes =
    Ok (between_entities (prefix.entities ++ (record { pairs = prefix.pairs; brushes = prefix.brushes }) ∷ []))
step_entity prefix _ bytes = Err refusal.Unexpected

-- whether a value is the first one under the key `origin` in an entity that is not the first, and gives no point
unfoldable pub is_bad_origin : Prefix → List ℕ → Bool
is_bad_origin prefix value =
    not (length prefix.entities == 0) && bytes_eq prefix.key origin_key
    && is_none (value_of origin_key prefix.pairs) && is_none (origin_of value)

abbrev pub with_value : Prefix → List ℕ → Prefix
with_value prefix value =
    record prefix { context = context.Entity; key = []; pairs = prefix.pairs ++ (record { key = prefix.key; value = value }) ∷ [] }

-- behind a key its value
unfoldable pub step_value : Prefix → Sort → List ℕ → Result Prefix Refusal
step_value prefix sort.Quoted bytes = if is_bad_origin prefix bytes then Err refusal.BadOrigin else Ok (with_value prefix bytes)
step_value prefix _ bytes = Err refusal.Unexpected

-- what is left of a face's slots behind the first token of one
abbrev pub behind_first : List Slot
behind_first = drop 1 open_slots

abbrev pub without_brush : Prefix → Prefix
without_brush prefix =
    record prefix { context = context.Entity; faces = []; brushes = prefix.brushes ++ (record { faces = prefix.faces }) ∷ [] }

-- in a brush a face or its end
unfoldable pub step_brush : Prefix → Sort → Result Prefix Refusal
step_brush prefix (sort.Mark OpenParenthesis) = Ok (record prefix { context = context.Face; left = behind_first })
step_brush prefix (sort.Mark CloseBrace) =
    if length prefix.faces == 0 then Err refusal.NoFaces else Ok (without_brush prefix)
step_brush prefix _ = Err refusal.Unexpected

abbrev pub with_face : Prefix → Prefix
with_face prefix =
    record prefix {
      context = context.Brush;
      faces = prefix.faces ++ face_of prefix.numbers prefix.texts ∷ [];
      numbers = [];
      texts = [];
      left = [];
    }

-- behind a token of a face: the face is ended where no slot is left
abbrev pub with_left : Prefix → List Slot → Prefix
with_left prefix [] = with_face prefix
with_left prefix (next ∷ others) = record prefix { left = next ∷ others }

abbrev pub with_number : Prefix → List Slot → Result ℤ Refusal → Result Prefix Refusal
with_number prefix others (Ok coordinate) = Ok (with_left (record prefix { numbers = prefix.numbers ++ coordinate ∷ [] }) others)
with_number prefix others (Err reason) = Err reason

abbrev pub with_text : Prefix → List Slot → List ℕ → Prefix
with_text prefix others text = with_left (record prefix { texts = prefix.texts ++ text ∷ [] }) others

-- a mark in a mark's slot; the one that closes the third point ends three points that have to give a plane
unfoldable pub step_mark : Prefix → Mark → List Slot → Result Prefix Refusal
step_mark prefix CloseParenthesis others =
    if length prefix.numbers == 9 && not (give_plane (points_of prefix.numbers)) then Err (plane_refusal (points_of prefix.numbers))
    else Ok (with_left prefix others)
step_mark prefix _ others = Ok (with_left prefix others)

-- the words that are left of a mapping behind its first
abbrev pub behind_word : List Slot
behind_word = drop 1 standard_slots

-- what is left of a mapping behind its first bracket
abbrev pub behind_bracket : List Slot
behind_bracket = drop 1 valve_slots

-- in a face a token for its first slot that is left
unfoldable pub step_slot : Prefix → Slot → List Slot → Sort → List ℕ → Result Prefix Refusal
step_slot prefix (slot.Mark due) others (sort.Mark mark) bytes =
    if is_same_mark due mark then step_mark prefix due others else Err refusal.Unexpected
step_slot prefix slot.Coordinate others sort.Name bytes = with_number prefix others (coordinate_of bytes)
step_slot prefix slot.Texture others sort.Name bytes = Ok (with_text prefix others bytes)
step_slot prefix slot.Texture others sort.Quoted bytes = Ok (with_text prefix others bytes)
step_slot prefix slot.FirstOfMapping others sort.Name bytes = Ok (with_text prefix behind_word bytes)
step_slot prefix slot.FirstOfMapping others (sort.Mark OpenBracket) bytes = Ok (with_left prefix behind_bracket)
step_slot prefix slot.Word others sort.Name bytes = Ok (with_text prefix others bytes)
step_slot prefix _ others _ bytes = Err refusal.Unexpected

abbrev pub step_face : Prefix → List Slot → Sort → List ℕ → Result Prefix Refusal
step_face prefix [] sort bytes = Err refusal.Unexpected
step_face prefix (next ∷ others) sort bytes = step_slot prefix next others sort bytes

abbrev pub step_at : Context → Prefix → Sort → List ℕ → Result Prefix Refusal
step_at context.Outside prefix sort bytes = step_outside prefix sort
step_at context.Entity prefix sort bytes = step_entity prefix sort bytes
step_at context.Value prefix sort bytes = step_value prefix sort bytes
step_at context.Brush prefix sort bytes = step_brush prefix sort
step_at context.Face prefix sort bytes = step_face prefix prefix.left sort bytes

-- a token leads from one prefix to the next, or is refused
unfoldable pub step : Prefix → Symbol → Result Prefix Refusal
step prefix symbol = step_at prefix.context prefix (sort_of symbol) symbol.bytes

-- tokens lead from one prefix to another, or one of them is refused
abbrev pub steps : Prefix → List Lexeme → Result Prefix (Refusal × Lexeme)
steps prefix [] = Ok prefix
steps prefix (lexeme ∷ lexemes) =
    elim (step prefix (symbol_of lexeme)) [ Ok next ↦ steps next lexemes | Err reason ↦ Err (reason, lexeme) ]

-- symbols lead from one prefix to another, or one of them is refused
abbrev pub runs : Prefix → List Symbol → Result Prefix Refusal
runs prefix [] = Ok prefix
runs prefix (symbol ∷ symbols) = elim (step prefix symbol) [ Ok next ↦ runs next symbols | Err reason ↦ Err reason ]

-- what the end of a text makes of what was read
abbrev pub closed_by_end : List ℕ → Option ℕ → Prefix → Result MapFile MapFault
closed_by_end text (Some line) prefix = Err (fault.UnclosedQuote line)
closed_by_end text None prefix =
    elim prefix.context [
      | context.Outside ↦ if length prefix.entities == 0 then Err (fault.NoEntity (last_line text)) else Ok (record { entities = prefix.entities })
      | _ ↦ Err (fault.EndInside (last_line text))
    ]

-- a refused token, unless the text is too long before the token ends
abbrev pub refused_at : List ℕ → Refusal → Lexeme → MapFault
refused_at text reason lexeme =
    if nat_lt text_limit (end_of lexeme) then fault.TextTooLong (line_at text text_limit) else fault_of reason lexeme.line

abbrev pub ended : List ℕ → Option ℕ → Result Prefix (Refusal × Lexeme) → Result MapFile MapFault
ended text unclosed (Err refused) = Err (refused_at text refused.0 refused.1)
ended text unclosed (Ok prefix) =
    if nat_lt text_limit (length text) then Err (fault.TextTooLong (line_at text text_limit)) else closed_by_end text unclosed prefix

-- what a text means
unfoldable pub meaning_of : List ℕ → Result MapFile MapFault
meaning_of text =
    let lexing = read between 0 1 text in
    ended text lexing.unclosed_line (steps (between_entities []) lexing.lexemes)
