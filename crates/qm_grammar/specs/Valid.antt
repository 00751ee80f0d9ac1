use Rattle.std.specs.Prelude.{◌≡◌, ◌≢◌, ◌<◌, ◌≤◌, ◌⊎◌, ℕ, List, [], None, length, sum_by, All, Contains}
use Rattle.qm_space.specs.Point.{AreThousandths}
use Rattle.qm_tokens.specs.Piece.{OpensWord}
use Rattle.qm_mapfile.specs.declared.face.Face.{Face}
use Rattle.qm_mapfile.specs.declared.face.Mapping.{Mapping}
use Rattle.qm_mapfile.specs.declared.face.Mapping.TheVariants.{Standard, Valve}
use Rattle.qm_mapfile.specs.declared.entity.Brush.{Brush}
use Rattle.qm_mapfile.specs.declared.entity.Pair.{Pair}
use Rattle.qm_mapfile.specs.declared.entity.Entity.{Entity}
use Rattle.qm_mapfile.specs.declared.entity.MapFile.{MapFile}
use Rattle.qm_mapfile.specs.Face.{HasPlane}
use Rattle.qm_grammar.specs.Symbol.{mark_of}
use Rattle.qm_grammar.specs.Origin.{OriginsAreGood}
use Rattle.qm_grammar.specs.Faults.{text_limit}

-- Which maps a text can mean, said of the map alone.

-- a text that can stand between quotes
abbrev pub HasNoQuote : List ℕ → Type 0
HasNoQuote bytes = Contains bytes 34 → ⊥

-- a text that can stand as a word that is not a mark
pub record IsNameText (bytes : List ℕ) : Type 0 where
  pub opens : OpensWord bytes
  pub no_blank : All (λ byte. 32 < byte) bytes
  pub no_mark : mark_of bytes ≡ None

abbrev pub words_of_mapping : Mapping → List (List ℕ)
words_of_mapping (Standard words) = words
words_of_mapping (Valve words) = words

abbrev pub HasWords : Mapping → Type 0
HasWords (Standard words) = length words ≡ 5
HasWords (Valve words) = length words ≡ 11

pub record IsValidFace (face : Face) : Type 0 where
  pub three : length face.points ≡ 3
  pub triples : All (λ point. length point ≡ 3) face.points
  pub coordinates : All AreThousandths face.points
  pub plane : HasPlane face
  pub texture : IsNameText face.texture ⊎ HasNoQuote face.texture
  pub count_of_words : HasWords face.mapping
  pub words : All IsNameText (words_of_mapping face.mapping)

pub record IsValidBrush (brush : Brush) : Type 0 where
  pub some : brush.faces ≢ []
  pub faces : All IsValidFace brush.faces

pub record IsValidPair (pair : Pair) : Type 0 where
  pub key : HasNoQuote pair.key
  pub value : HasNoQuote pair.value

pub record IsValidEntity (entity : Entity) : Type 0 where
  pub pairs : All IsValidPair entity.pairs
  pub brushes : All IsValidBrush entity.brushes

-- the most faces that a map has, since each takes more than one byte of its text
abbrev pub face_limit : ℕ
face_limit = text_limit

-- how many faces the brushes of an entity have
abbrev pub face_count : Entity → ℕ
face_count entity = sum_by (λ brush. length brush.faces) entity.brushes

-- a map that some text could mean, if texts had no limit, and of which no number can run over
unfoldable pub IsValidMap : MapFile → Type 0
IsValidMap map =
    (map.entities ≢ []) × All IsValidEntity map.entities × OriginsAreGood map.entities
    × (sum_by face_count map.entities ≤ face_limit)
