use Rattle.std.specs.Prelude.{◌≡◌, ◌≢◌, ℕ, ℤ, List, [], ◌∷◌, ◌++◌}
use Rattle.qm_mapfile.specs.declared.face.Face.{Face}
use Rattle.qm_mapfile.specs.declared.entity.Brush.{Brush}
use Rattle.qm_mapfile.specs.declared.entity.Pair.{Pair}
use Rattle.qm_mapfile.specs.declared.entity.Entity.{Entity}
use Rattle.qm_mapfile.specs.declared.entity.MapFile.{MapFile}
use Rattle.qm_mapfile.specs.Face.{HasPlane}
use Rattle.qm_grammar.specs.declared.mark.Mark.TheVariants.{OpenBrace, CloseBrace}
use Rattle.qm_grammar.specs.declared.mark.Sort.TheVariants as sort
use Rattle.qm_grammar.specs.Symbol.{Symbol, sort_of}
use Rattle.qm_grammar.specs.Slots.{Form, face_slots, Fill, face_of}
use Rattle.qm_grammar.specs.Origin.{OriginsAreGood}

-- What the tokens of a map spell, part by part.

-- a face, in one of its two forms, whose three points give a plane
pub record SpellsFace (symbols : List Symbol) (face : Face) : Type 0 where
  pub form : Form
  pub numbers : List ℤ
  pub texts : List (List ℕ)
  pub filled : Fill (face_slots form) symbols numbers texts
  pub is_face : face ≡ face_of numbers texts
  pub plane : HasPlane face

-- faces, one after another
pub data SpellsFaces : List Symbol → List Face → Type 0 where
  none : SpellsFaces [] []
  more :
      {symbols others : List Symbol} {face : Face} {faces : List Face} →
      SpellsFace symbols face → SpellsFaces others faces → SpellsFaces (symbols ++ others) (face ∷ faces)

-- what stands between an open and a closing brace
pub record IsBraced (symbols inner : List Symbol) : Type 0 where
  pub open_brace : Symbol
  pub close_brace : Symbol
  pub opens : sort_of open_brace ≡ sort.Mark OpenBrace
  pub closes : sort_of close_brace ≡ sort.Mark CloseBrace
  pub spelled : symbols ≡ open_brace ∷ (inner ++ close_brace ∷ [])

-- { one or more faces }
pub record SpellsBrush (symbols : List Symbol) (brush : Brush) : Type 0 where
  pub inner : List Symbol
  pub braced : IsBraced symbols inner
  pub faces : SpellsFaces inner brush.faces
  pub some : brush.faces ≢ []

-- a quoted key and a quoted value
pub record SpellsPair (key value : Symbol) (pair : Pair) : Type 0 where
  pub key_quoted : sort_of key ≡ sort.Quoted
  pub value_quoted : sort_of value ≡ sort.Quoted
  pub is_pair : pair ≡ record { key = key.bytes; value = value.bytes }

-- the parts of an entity, pairs and brushes in any order
pub data SpellsParts : List Symbol → List Pair → List Brush → Type 0 where
  none : SpellsParts [] [] []
  pair :
      {key value : Symbol} {others : List Symbol} {pair : Pair} {pairs : List Pair} {brushes : List Brush} →
      SpellsPair key value pair → SpellsParts others pairs brushes →
      SpellsParts (key ∷ value ∷ others) (pair ∷ pairs) brushes
  brush :
      {symbols others : List Symbol} {brush : Brush} {pairs : List Pair} {brushes : List Brush} →
      SpellsBrush symbols brush → SpellsParts others pairs brushes →
      SpellsParts (symbols ++ others) pairs (brush ∷ brushes)

-- { pairs and brushes }
pub record SpellsEntity (symbols : List Symbol) (entity : Entity) : Type 0 where
  pub inner : List Symbol
  pub braced : IsBraced symbols inner
  pub parts : SpellsParts inner entity.pairs entity.brushes

-- entities, one after another
pub data SpellsEntities : List Symbol → List Entity → Type 0 where
  none : SpellsEntities [] []
  more :
      {symbols others : List Symbol} {entity : Entity} {entities : List Entity} →
      SpellsEntity symbols entity → SpellsEntities others entities →
      SpellsEntities (symbols ++ others) (entity ∷ entities)

-- one or more entities, whose origins are points of the world
pub record SpellsMap (symbols : List Symbol) (map : MapFile) : Type 0 where
  pub entities : SpellsEntities symbols map.entities
  pub some : map.entities ≢ []
  pub origins : OriginsAreGood map.entities
