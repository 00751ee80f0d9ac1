-- The brush models of a map, by one entity after another, and the one that the brushes of an entity make.
use Rattle.std.proofs.Common.{◌≡◌, ◌≢◌, ◌<◌, ◌≤◌, ℕ, ◌+◌, ◌^◌, List, [], ◌∷◌, ◌++◌, length, inr, refl, sym, ap, subst, arith}
use Rattle.std.specs.Prelude.{IfSome, count_by}
use Rattle.std.specs.Prelude.{map as mapped}
use Rattle.std.specs.List.{AllZip}
use Rattle.std.proofs.lemmas.List.{map-append}
use Rattle.std.proofs.lemmas.List.Elements.{All-nil, All-push}
use Rattle.qm_space.specs.Bounds.{world_extent}
use Rattle.qm_space.specs.Plane.{Plane}
use Rattle.qm_space.specs.Book.{AreBookPlanes}
use Rattle.qm_space.specs.Cuboid.{Cuboid}
use Rattle.qm_space.specs.Entered.{AreEnteredInBook}
use Rattle.qm_mapfile.specs.declared.entity.Entity.{Entity}
use Rattle.qm_mapfile.specs.declared.entity.MapFile.{MapFile}
use Rattle.qm_grammar.specs.Valid.{IsValidMap}
use Rattle.qm_drawn.specs.Planes.{entity_planes}
use Rattle.qm_drawn.specs.Solids.{entity_solids}
use Rattle.qm_solids.specs.Solid.{Solid}
use Rattle.qm_solids.specs.Alike.{IsAlike}
use Rattle.qm_solids.specs.InBook.{BookSolid, solids_in, IsBookOf}
use Rattle.qm_partition.specs.Tree.{Tree}
use Rattle.qm_partition.specs.Counting.{leaves_of, node_count}
use Rattle.qm_solid_tree.specs.GivesContents.{GivesContents}
use Rattle.qm_solid_tree.specs.TreeOf.{IsTreeOf}
use Rattle.qm_contacts.specs.NumberedLeaves.{is_numbered}
use Rattle.qm_formats.specs.TreeFile.{TreeFile, Section, AreRows, AreSections, IsValidFile}
use Rattle.qm_plain.specs.PlainFile.{IsPlainFile}
use Rattle.qm_build.proofs.BuiltTrees.{tree_well_made, tree_reduced}
use Rattle.qm_outlines.specs.HeldPoints.{HasNoFull}
use Rattle.qm_outlines.specs.Outlines.{IsOutline, AreSortedNumbers}
use Rattle.qm_outlines.specs.Models.{FoundModel, IsModelOf, AreModelsUpTo, none_yet, no_model, model, of_entities}
use Rattle.qm_outlines.proofs.AlikeModels.{model_of_alike}
use Rattle.qm_model_layout.specs.BrushModel.{BrushModel}
use Rattle.qm_model_sections.specs.MapModels.{model_found, AreBrushModelsOf}
use Rattle.qm_models.specs.inner.OneModel.{IsBrushModelOf, AreBrushModelsUpTo}

-- ---- one entity after another

by_length : (entities : List Entity) → entities ≢ [] → 1 ≤ length entities
by_length [] some = absurd (some refl)
by_length (world ∷ others) some = omega arith

module _ (map : MapFile) (world : Tree) where
  pub no_entity_yet : AreBrushModelsUpTo map world 1 []
  no_entity_yet = record {
    are_found = none_yet;
    are_plain = All-nil (λ (its : BrushModel). IsPlainFile world_extent its.file);
    are_valid = All-nil (λ (its : BrushModel). IsValidFile its.file);
  }

  module _ (e : ℕ) (models : List BrushModel) (are : AreBrushModelsUpTo map world e models) where
    pub no_model_more : HasNoFull (entity_solids map e) → AreBrushModelsUpTo map world (e + 1) models
    no_model_more flat = record { are_found = no_model are.are_found flat; are_plain = are.are_plain; are_valid = are.are_valid }

    pub one_model_more : (found : BrushModel) → IsBrushModelOf map world e found → AreBrushModelsUpTo map world (e + 1) (models ++ found ∷ [])
    one_model_more found is = record {
      are_found = subst (AreModelsUpTo map world (e + 1)) (sym (map-append model_found models (found ∷ []))) (model are.are_found is.is_found);
      are_plain = All-push (λ (its : BrushModel). IsPlainFile world_extent its.file) models found are.are_plain is.is_plain;
      are_valid = All-push (λ (its : BrushModel). IsValidFile its.file) models found are.are_valid is.is_valid;
    }

  -- a valid map has the world
  pub some_entity : IsValidMap map → 1 ≤ length map.entities
  unfolding IsValidMap
  some_entity valid = by_length map.entities valid.0

  pub of_all_entities : (e : ℕ) (models : List BrushModel) → e ≡ length map.entities → AreBrushModelsUpTo map world e models → AreBrushModelsOf map world models
  of_all_entities e models all are = record {
    are_found = of_entities (subst (λ (n : ℕ). AreModelsUpTo map world n (mapped model_found models)) all are.are_found);
    are_plain = are.are_plain;
    are_valid = are.are_valid;
  }

-- ---- the model of one entity

-- the plain file of a tree that solids define is valid
valid_plain : (solids : List Solid) (book : List Plane) (file : TreeFile) → AreBookPlanes book → IsPlainFile world_extent file → IsTreeOf solids book file.tree → node_count file.tree.shape < 2 ^ 63 → IsValidFile file
valid_plain solids book file planes plain is_tree few = record {
  of_version = inr (record { version = plain.version; bound = inr plain.bound_is });
  well_made = tree_well_made solids book planes file.tree is_tree;
  few_nodes = few;
  reduced = tree_reduced solids book planes file.tree is_tree;
  rows = subst (λ rows. IfSome rows (AreRows (count_by is_numbered (leaves_of file.tree.shape)))) (sym plain.no_rows) tt;
  sections = subst (λ (sections : List Section). AreSections sections) (sym plain.no_sections) tt;
}

-- the brushes of an entity, in a list
pub record AreBrushesOf (map : MapFile) (e : ℕ) (book : List Plane) (list : List BookSolid) : Type 0 where
  pub solids : AllZip IsAlike (entity_solids map e) (solids_in book list)
  pub filled : IsBookOf book list
  pub entered : AreEnteredInBook [] (entity_planes map e) book

module _ (map : MapFile) (world : Tree) (e : ℕ) (book : List Plane) (list : List BookSolid) (are : AreBrushesOf map e book list) where
  abbrev its_solids : List Solid
  its_solids = solids_in book list

  pub model_of_brushes : (box : Cuboid) (touched numbers : List ℕ) (tree : Tree) (found : BrushModel) → IsOutline world its_solids box touched → AreSortedNumbers world touched numbers → IsTreeOf its_solids book tree → GivesContents tree its_solids → node_count tree.shape < 2 ^ 63 →
      model_found found ≡ record { entity = e; box = box; leaves = numbers; tree = tree } → IsPlainFile world_extent found.file → IsBrushModelOf map world e found
  model_of_brushes box touched numbers tree found outline numbered is_tree gives few same plain = record {
    is_found = subst (IsModelOf map world e) (sym same) (model_of_alike map world e its_solids box touched numbers book tree are.solids outline numbered are.entered is_tree gives);
    is_plain = plain;
    is_valid =
        let its = sym (ap (λ (m : FoundModel). m.tree) same) in
        valid_plain its_solids book found.file are.filled.planes plain (subst (IsTreeOf its_solids book) its is_tree) (subst (λ (t : Tree). node_count t.shape < 2 ^ 63) its few);
  }
