use Rattle.std.specs.Prelude.{◌≡◌, ◌≢◌, ◌≤◌, ℕ, ℤ, List, [], ◌∷◌, ◌++◌, length}
use Rattle.qm_mapfile.specs.declared.face.Face.{Face}
use Rattle.qm_mapfile.specs.declared.entity.Brush.{Brush}
use Rattle.qm_mapfile.specs.declared.entity.Pair.{Pair}
use Rattle.qm_mapfile.specs.declared.entity.Entity.{Entity}
use Rattle.qm_mapfile.specs.Face.{GivePlane}
use Rattle.qm_grammar.specs.declared.mark.Mark.TheVariants.{OpenBrace}
use Rattle.qm_grammar.specs.declared.mark.Sort.TheVariants as sort
use Rattle.qm_grammar.specs.declared.slot.Slot.{Slot}
use Rattle.qm_grammar.specs.declared.context.Context.{Context}
use Rattle.qm_grammar.specs.declared.context.Context.TheVariants as context
use Rattle.qm_grammar.specs.Symbol.{Symbol, sort_of}
use Rattle.qm_grammar.specs.Slots.{Form, open_slots, face_slots, Fill, points_of}
use Rattle.qm_grammar.specs.Grammar.{SpellsFaces, SpellsParts, SpellsEntities}
use Rattle.qm_grammar.specs.Origin.{OriginsAreGood}

-- The prefix of a map: tokens that may be the first ones of a map. What they spell is whole entities, and then perhaps
-- an entity, a brush and a face that are not ended yet.

-- what a prefix has spelled: whole entities; of the open entity its pairs and brushes, and a key without its value;
-- of the open brush its faces; of the open face its coordinates, its texts and the slots that are left
pub record Prefix : Type 0 where
  pub context : Context
  pub entities : List Entity
  pub pairs : List Pair
  pub brushes : List Brush
  pub key : List ℕ
  pub faces : List Face
  pub numbers : List ℤ
  pub texts : List (List ℕ)
  pub left : List Slot

-- between entities
abbrev pub between_entities : List Entity → Prefix
between_entities entities = record {
  context = context.Outside;
  entities = entities;
  pairs = [];
  brushes = [];
  key = [];
  faces = [];
  numbers = [];
  texts = [];
  left = [];
}

-- in an entity, between its parts
abbrev pub in_entity : List Entity → List Pair → List Brush → Prefix
in_entity entities pairs brushes =
    record (between_entities entities) { context = context.Entity; pairs = pairs; brushes = brushes }

-- behind a key
abbrev pub behind_key : List Entity → List Pair → List Brush → List ℕ → Prefix
behind_key entities pairs brushes key =
    record (in_entity entities pairs brushes) { context = context.Value; key = key }

-- in a brush, between its faces
abbrev pub in_brush : List Entity → List Pair → List Brush → List Face → Prefix
in_brush entities pairs brushes faces =
    record (in_entity entities pairs brushes) { context = context.Brush; faces = faces }

-- in a face
abbrev pub in_face : List Entity → List Pair → List Brush → List Face → List ℤ → List (List ℕ) → List Slot → Prefix
in_face entities pairs brushes faces numbers texts left =
    record (in_brush entities pairs brushes faces) { context = context.Face; numbers = numbers; texts = texts; left = left }

-- whole entities
pub record IsOutside (symbols : List Symbol) (entities : List Entity) : Type 0 where
  pub spelled : SpellsEntities symbols entities
  pub origins : OriginsAreGood entities

-- whole entities, an open brace, and parts of an entity
pub record IsInEntity (symbols : List Symbol) (entities : List Entity) (pairs : List Pair) (brushes : List Brush) : Type 0 where
  pub before : List Symbol
  pub open_brace : Symbol
  pub inner : List Symbol
  pub split : symbols ≡ before ++ open_brace ∷ inner
  pub spelled : SpellsEntities before entities
  pub opens : sort_of open_brace ≡ sort.Mark OpenBrace
  pub parts : SpellsParts inner pairs brushes
  pub origins : OriginsAreGood (entities ++ (record { pairs = pairs; brushes = brushes }) ∷ [])

-- a prefix in an entity, an open brace, and faces
pub record IsInBrush
    (symbols : List Symbol) (entities : List Entity) (pairs : List Pair) (brushes : List Brush) (faces : List Face) : Type 0 where
  pub before : List Symbol
  pub open_brace : Symbol
  pub inner : List Symbol
  pub split : symbols ≡ before ++ open_brace ∷ inner
  pub entity : IsInEntity before entities pairs brushes
  pub opens : sort_of open_brace ≡ sort.Mark OpenBrace
  pub spelled : SpellsFaces inner faces

-- The symbols have begun a face and not ended it: they have filled the first of its slots, and these are left. Before
-- the mapping its form is open. Once the third point is closed, the points give a plane.
pub data IsBegunFace (symbols : List Symbol) (numbers : List ℤ) (texts : List (List ℕ)) (left : List Slot) : Type 0 where
  in_head :
      {filled : List Slot} → Fill filled symbols numbers texts → filled ≢ [] →
      filled ++ left ≡ open_slots →
      (15 ≤ length filled → GivePlane (points_of numbers)) →
      IsBegunFace symbols numbers texts left
  in_mapping :
      (form : Form) {filled : List Slot} → Fill filled symbols numbers texts → 17 ≤ length filled → left ≢ [] →
      filled ++ left ≡ face_slots form → GivePlane (points_of numbers) →
      IsBegunFace symbols numbers texts left

-- a prefix in a brush, and a face that is not ended
pub record IsInFace
    (symbols : List Symbol) (entities : List Entity) (pairs : List Pair) (brushes : List Brush) (faces : List Face)
    (numbers : List ℤ) (texts : List (List ℕ)) (left : List Slot) : Type 0 where
  pub before : List Symbol
  pub begun : List Symbol
  pub split : symbols ≡ before ++ begun
  pub brush : IsInBrush before entities pairs brushes faces
  pub begins : IsBegunFace begun numbers texts left

-- a prefix in an entity, and a quoted key
pub record IsBehindKey
    (symbols : List Symbol) (entities : List Entity) (pairs : List Pair) (brushes : List Brush) (key : List ℕ) : Type 0 where
  pub before : List Symbol
  pub key_symbol : Symbol
  pub split : symbols ≡ before ++ key_symbol ∷ []
  pub entity : IsInEntity before entities pairs brushes
  pub quoted : sort_of key_symbol ≡ sort.Quoted
  pub is_key : key ≡ key_symbol.bytes

-- the symbols are a prefix, and this is what they have spelled
pub data IsPrefix (symbols : List Symbol) : Prefix → Type 0 where
  outside_prefix : {entities : List Entity} → IsOutside symbols entities → IsPrefix symbols (between_entities entities)
  entity_prefix :
      {entities : List Entity} {pairs : List Pair} {brushes : List Brush} →
      IsInEntity symbols entities pairs brushes → IsPrefix symbols (in_entity entities pairs brushes)
  key_prefix :
      {entities : List Entity} {pairs : List Pair} {brushes : List Brush} {key : List ℕ} →
      IsBehindKey symbols entities pairs brushes key → IsPrefix symbols (behind_key entities pairs brushes key)
  brush_prefix :
      {entities : List Entity} {pairs : List Pair} {brushes : List Brush} {faces : List Face} →
      IsInBrush symbols entities pairs brushes faces → IsPrefix symbols (in_brush entities pairs brushes faces)
  face_prefix :
      {entities : List Entity} {pairs : List Pair} {brushes : List Brush} {faces : List Face}
      {numbers : List ℤ} {texts : List (List ℕ)} {left : List Slot} →
      IsInFace symbols entities pairs brushes faces numbers texts left →
      IsPrefix symbols (in_face entities pairs brushes faces numbers texts left)
