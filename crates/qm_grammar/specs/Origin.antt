use Rattle.std.specs.Prelude.{◌≡◌, ℕ, pos, List, [], ◌∷◌, Option, Some, None, IfSome, All, codes, if◌then◌else◌, bytes_eq}
use Rattle.qm_space.specs.Point.{Point}
use Rattle.qm_grammar.specs.Words.{words_of_text}
use Rattle.qm_mapfile.specs.declared.entity.Pair.{Pair}
use Rattle.qm_mapfile.specs.declared.entity.Entity.{Entity}
use Rattle.qm_grammar.specs.Number.{SpellsMillionths, parts_of_unit}

-- a value that gives a point: three numbers of at most six decimals, parted by blanks, which may also stand around
-- them; each is strictly inside the extent of the world
pub record SpellsOrigin (value : List ℕ) (point : Point) : Type 0 where
  pub first : List ℕ
  pub second : List ℕ
  pub third : List ℕ
  pub words : words_of_text value ≡ first ∷ second ∷ third ∷ []
  pub x : SpellsMillionths first point.x
  pub y : SpellsMillionths second point.y
  pub z : SpellsMillionths third point.z
  pub w : point.w ≡ pos parts_of_unit

-- the value gives some point
abbrev pub IsOriginText : List ℕ → Type 0
IsOriginText value = (point : Point) × SpellsOrigin value point

unfoldable pub origin_key : List ℕ
origin_key = codes "origin"

-- the value of the first pair with a key; keys are compared byte by byte
abbrev pub value_of : List ℕ → List Pair → Option (List ℕ)
value_of key [] = None
value_of key (pair ∷ pairs) = if bytes_eq pair.key key then Some pair.value else value_of key pairs

-- the first pair with the key `origin`, if there is one, gives a point
abbrev pub HasGoodOrigin : List Pair → Type 0
HasGoodOrigin pairs = IfSome (value_of origin_key pairs) IsOriginText

-- the rule of origins holds of each entity but the first, which is the world
abbrev pub OriginsAreGood : List Entity → Type 0
OriginsAreGood [] = Unit {0}
OriginsAreGood (world ∷ others) = All (λ entity. HasGoodOrigin entity.pairs) others
