use Rattle.std.specs.Prelude.{ℕ, ℤ, Bool, false, ◌||◌, ◌&&◌, ◌==◌, nat_le, if◌then◌else◌, List, [], ◌∷◌, ◌++◌, length, map, flat_map, take, drop, slice_index_or, is_some}
use Rattle.std.specs.List.{list_any}
use Rattle.qm_tokens.specs.declared.token.TokenKind.TheVariants as kind
use Rattle.qm_numerals.specs.Printed.{signed_thousandths}
use Rattle.qm_mapfile.specs.declared.face.Face.{Face}
use Rattle.qm_mapfile.specs.declared.face.Mapping.{Mapping}
use Rattle.qm_mapfile.specs.declared.face.Mapping.TheVariants.{Standard, Valve}
use Rattle.qm_mapfile.specs.declared.entity.Brush.{Brush}
use Rattle.qm_mapfile.specs.declared.entity.Pair.{Pair}
use Rattle.qm_mapfile.specs.declared.entity.Entity.{Entity}
use Rattle.qm_mapfile.specs.declared.entity.MapFile.{MapFile}
use Rattle.qm_grammar.specs.Symbol.{Symbol, mark_of}
use Rattle.qm_grammar.specs.Lines.{TokenLine, text_of_lines}

-- The canonical text of a map, line by line.

abbrev pub word_symbol : List ℕ → Symbol
word_symbol bytes = record { kind = kind.Word; bytes = bytes }

abbrev pub quoted : List ℕ → Symbol
quoted bytes = record { kind = kind.Quoted; bytes = bytes }

abbrev pub open_brace : Symbol
open_brace = word_symbol (123 ∷ [])

abbrev pub close_brace : Symbol
close_brace = word_symbol (125 ∷ [])

abbrev pub open_parenthesis : Symbol
open_parenthesis = word_symbol (40 ∷ [])

abbrev pub close_parenthesis : Symbol
close_parenthesis = word_symbol (41 ∷ [])

abbrev pub open_bracket : Symbol
open_bracket = word_symbol (91 ∷ [])

abbrev pub close_bracket : Symbol
close_bracket = word_symbol (93 ∷ [])

-- a coordinate, which is kept in thousandths, without zeros at its end
abbrev pub number_symbol : ℤ → Symbol
number_symbol n = word_symbol (signed_thousandths n)

-- ( x y z )
unfoldable pub point_symbols : List ℤ → List Symbol
point_symbols point = open_parenthesis ∷ (map number_symbol point ++ close_parenthesis ∷ [])

-- whether a text begins with two slashes
abbrev pub begins_comment : List ℕ → Bool
begins_comment (first ∷ second ∷ others) = first == 47 && second == 47
begins_comment _ = false

-- whether a texture would not be read as one word: it is empty, has a blank, begins a comment, or is a mark
unfoldable pub needs_quotes : List ℕ → Bool
needs_quotes name =
    length name == 0 || list_any (λ byte. nat_le byte 32) name || begins_comment name || is_some (mark_of name)

unfoldable pub texture_symbol : List ℕ → Symbol
texture_symbol name = if needs_quotes name then quoted name else word_symbol name

-- [ a b c d ]
abbrev pub axis_symbols : List (List ℕ) → List Symbol
axis_symbols words = open_bracket ∷ (map word_symbol words ++ close_bracket ∷ [])

-- the tokens of a mapping before its last: four words, or two axes of four words each and two words
unfoldable pub mapping_prefix : Mapping → List Symbol
mapping_prefix (Standard words) = map word_symbol (take 4 words)
mapping_prefix (Valve words) =
    axis_symbols (take 4 words) ++ (axis_symbols (take 4 (drop 4 words)) ++ map word_symbol (take 2 (drop 8 words)))

-- the last word of a mapping
unfoldable pub mapping_last : Mapping → Symbol
mapping_last (Standard words) = word_symbol (slice_index_or words 4 [])
mapping_last (Valve words) = word_symbol (slice_index_or words 10 [])

-- three points, the texture and the mapping
unfoldable pub face_line : Face → TokenLine
face_line face = record {
  prefix = flat_map point_symbols face.points ++ texture_symbol face.texture ∷ mapping_prefix face.mapping;
  last = mapping_last face.mapping;
}

abbrev pub brace_line : Symbol → TokenLine
brace_line brace = record { prefix = []; last = brace }

-- a key and a value
unfoldable pub pair_line : Pair → TokenLine
pair_line pair = record { prefix = quoted pair.key ∷ []; last = quoted pair.value }

-- { faces }
unfoldable pub brush_lines : Brush → List TokenLine
brush_lines brush = brace_line open_brace ∷ (map face_line brush.faces ++ brace_line close_brace ∷ [])

-- { pairs, and then brushes }
unfoldable pub entity_lines : Entity → List TokenLine
entity_lines entity =
    brace_line open_brace
    ∷ (map pair_line entity.pairs ++ (flat_map brush_lines entity.brushes ++ brace_line close_brace ∷ []))

abbrev pub map_lines : MapFile → List TokenLine
map_lines map = flat_map entity_lines map.entities

-- the canonical text
unfoldable pub printed_map : MapFile → List ℕ
printed_map map = text_of_lines (map_lines map)
