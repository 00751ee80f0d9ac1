use Rattle.std.specs.Prelude.{◌≡◌, ◌+◌, ℕ, List, [], ◌∷◌, ◌++◌, length}
use Rattle.qm_space.specs.Plane.{Plane}
use Rattle.qm_space.specs.Cuboid.{Cuboid}
use Rattle.qm_space.specs.Entered.{AreEnteredInBook}
use Rattle.qm_mapfile.specs.declared.entity.MapFile.{MapFile}
use Rattle.qm_drawn.specs.Planes.{entity_planes}
use Rattle.qm_drawn.specs.Solids.{entity_solids}
use Rattle.qm_partition.specs.Tree.{Tree}
use Rattle.qm_solid_tree.specs.TreeOf.{IsTreeOf}
use Rattle.qm_solid_tree.specs.GivesContents.{GivesContents}
use Rattle.qm_outlines.specs.HeldPoints.{IsModelBox, HasNoFull}
use Rattle.qm_outlines.specs.ModelLeaves.{AreModelLeaves}

-- The models of a map: one for each entity but the world that has a full brush that is not clip.

-- an entity's number, its box, the numbered leaves of the world that it touches, and its own tree
pub record FoundModel : Type 0 where
  pub entity : ℕ
  pub box : Cuboid
  pub leaves : List ℕ
  pub tree : Tree

-- the model of an entity, beside the world's tree: its own tree is made of its own brushes, with a book of their planes alone
pub record IsModelOf (map : MapFile) (world : Tree) (e : ℕ) (model : FoundModel) : Type 0 where
  pub entity_is : model.entity ≡ e
  pub box_is : IsModelBox (entity_solids map e) model.box
  pub leaves_are : AreModelLeaves world (entity_solids map e) model.leaves
  pub book : List Plane
  pub entered : AreEnteredInBook [] (entity_planes map e) book
  pub is_tree : IsTreeOf (entity_solids map e) book model.tree
  pub gives_contents : GivesContents model.tree (entity_solids map e)

-- those of the entities from 1 up to a number, in their order
pub data AreModelsUpTo (map : MapFile) (world : Tree) : ℕ → List FoundModel → Type 0 where
  none_yet : AreModelsUpTo map world 1 []
  no_model : {e : ℕ} {models : List FoundModel} →
      AreModelsUpTo map world e models → HasNoFull (entity_solids map e) → AreModelsUpTo map world (e + 1) models
  model : {e : ℕ} {models : List FoundModel} {found : FoundModel} →
      AreModelsUpTo map world e models → IsModelOf map world e found → AreModelsUpTo map world (e + 1) (models ++ found ∷ [])

-- those of all entities; a map without entities has none
pub data AreModelsOf (map : MapFile) (world : Tree) (models : List FoundModel) : Type 0 where
  no_entity : map.entities ≡ [] → models ≡ [] → AreModelsOf map world models
  of_entities : AreModelsUpTo map world (length map.entities) models → AreModelsOf map world models
