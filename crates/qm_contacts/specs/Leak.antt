use Rattle.std.specs.Prelude.{◌≡◌, ◌<◌, ◌≤◌, ◌⊎◌, ℕ, List, [], ◌∷◌, length, Contains}
use Rattle.std.specs.List.{AllPairs}
use Rattle.qm_contents.specs.declared.contents.Contents.TheVariants.{Solid}
use Rattle.qm_space.specs.Point.{Point}
use Rattle.qm_partition.specs.Tree.{Tree}
use Rattle.qm_partition.specs.LeafOfPoint.{leaf_at, leaf_record_at}
use Rattle.qm_contacts.specs.Contact.{Touch}
use Rattle.qm_contacts.specs.Outside.{TouchesOutside}
use Rattle.qm_contacts.specs.Reached.{IsReached}

-- Which entities the outside must not reach, and the way on which it reaches one.

-- where an entity stands, by its number in the map
pub record Origin : Type 0 where
  pub entity : ℕ
  pub point : Point

-- the entities stand in the order of their numbers, each once
abbrev pub AreInOrder : List Origin → Type 0
AreInOrder origins = AllPairs (λ first second. first.entity < second.entity) origins

abbrev pub leaf_of_origin : Tree → Origin → ℕ
leaf_of_origin tree origin = leaf_at tree.planes tree.shape origin.point

-- an entity takes part where it does not stand in solid
abbrev pub TakesPart : Tree → Origin → Type 0
TakesPart tree origin = (leaf_record_at tree.planes tree.shape origin.point).contents ≡ Solid → ⊥

-- it leaks where it takes part and the outside reaches its leaf
pub record Leaks (tree : Tree) (origin : Origin) : Type 0 where
  pub takes_part : TakesPart tree origin
  pub reached : IsReached tree (leaf_of_origin tree origin)

-- the first entity that leaks
pub record IsFirstLeak (tree : Tree) (origins : List Origin) (origin : Origin) : Type 0 where
  pub listed : Contains origins origin
  pub leaks : Leaks tree origin
  pub first : (other : Origin) → Contains origins other → Leaks tree other → origin.entity ≤ other.entity

-- a way out of a leaf: reached leaves, the first this leaf, each touching the next, and the last the outside
pub data IsWayOut (tree : Tree) : ℕ → List ℕ → Type 0 where
  out : {k : ℕ} → IsReached tree k → TouchesOutside tree k → IsWayOut tree k (k ∷ [])
  on : {a b : ℕ} {rest : List ℕ} → IsReached tree a → Touch tree a b → IsWayOut tree b (b ∷ rest) → IsWayOut tree a (a ∷ b ∷ rest)

-- a list of numbers comes before another in their order, or is the same: the first place at which they differ decides
abbrev pub IsNotAfter : List ℕ → List ℕ → Type 0
IsNotAfter [] others = Unit {0}
IsNotAfter (n ∷ numbers) [] = ⊥
IsNotAfter (n ∷ numbers) (m ∷ others) = (n < m) ⊎ ((n ≡ m) × IsNotAfter numbers others)

-- the trail: of the shortest ways out the first in the order of their leaves
pub record IsTrail (tree : Tree) (k : ℕ) (trail : List ℕ) : Type 0 where
  pub way_out : IsWayOut tree k trail
  pub least : (other : List ℕ) → IsWayOut tree k other → (length trail < length other) ⊎ ((length trail ≡ length other) × IsNotAfter trail other)

-- the leak: the first entity that leaks, and its trail
pub record IsLeak (tree : Tree) (origins : List Origin) (entity : ℕ) (trail : List ℕ) : Type 0 where
  pub origin : Origin
  pub first : IsFirstLeak tree origins origin
  pub entity_is : entity ≡ origin.entity
  pub trail_is : IsTrail tree (leaf_of_origin tree origin) trail
