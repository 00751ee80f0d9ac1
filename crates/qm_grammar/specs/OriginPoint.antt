use Rattle.std.specs.Prelude.{◌≡◌, ℕ, List, Some}
use Rattle.qm_space.specs.Point.{Point}
use Rattle.qm_mapfile.specs.declared.entity.Pair.{Pair}
use Rattle.qm_grammar.specs.Origin.{origin_key, value_of, SpellsOrigin}

-- the first pair with the key `origin` gives the point
pub record IsOriginPoint (pairs : List Pair) (point : Point) : Type 0 where
  pub value : List ℕ
  pub first : value_of origin_key pairs ≡ Some value
  pub spelled : SpellsOrigin value point
