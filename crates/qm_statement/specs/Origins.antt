use Rattle.std.specs.Prelude.{◌≡◌, ℕ, ◌+◌, List, [], ◌∷◌, None, drop}
use Rattle.qm_space.specs.Point.{Point}
use Rattle.qm_mapfile.specs.declared.entity.Entity.{Entity}
use Rattle.qm_mapfile.specs.declared.entity.MapFile.{MapFile}
use Rattle.qm_grammar.specs.Origin.{origin_key, value_of}
use Rattle.qm_grammar.specs.OriginPoint.{IsOriginPoint}
use Rattle.qm_contacts.specs.Leak.{Origin}

-- where entities stand, of which the first has the number k: those that have the key `origin`, at the point that it gives
pub data StandAt : ℕ → List Entity → List Origin → Type 0 where
  none_left : {k : ℕ} → StandAt k [] []
  nowhere : {k : ℕ} {entity : Entity} {entities : List Entity} {origins : List Origin} →
      value_of origin_key entity.pairs ≡ None → StandAt (k + 1) entities origins →
      StandAt k (entity ∷ entities) origins
  somewhere : {k : ℕ} {entity : Entity} {point : Point} {entities : List Entity} {origins : List Origin} →
      IsOriginPoint entity.pairs point → StandAt (k + 1) entities origins →
      StandAt k (entity ∷ entities) (record { entity = k; point = point } ∷ origins)

-- where the entities of a map stand, all but the world, which is the first and has the number 0
abbrev pub AreOriginsOf : MapFile → List Origin → Type 0
AreOriginsOf map origins = StandAt 1 (drop 1 map.entities) origins
