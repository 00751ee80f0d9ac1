use Rattle.std.proofs.Common.{ℕ, List, subst}
use Rattle.std.proofs.lemmas.Option.{MatchOption-at_some, MatchOption-at_none}
use Rattle.qm_space.specs.Plane.{Plane}
use Rattle.qm_space.specs.Entered.{AreEnteredInBook}
use Rattle.qm_drawn.specs.Planes.{entity_planes}
use Rattle.qm_drawn.specs.Solids.{entity_solids}
use Rattle.qm_solids.specs.InBook.{solids_in}
use Rattle.qm_partition.specs.Tree.{Tree}
use Rattle.qm_outlines.specs.Outlines.{IsOutline, AreSortedNumbers}
use Rattle.qm_outlines.proofs.AlikeModels.{no_full_back}
use Rattle.qm_outlines.proofs.TouchedLeaves.{all_within}
use Rattle.qm_models.proofs.EntityModels.{AreBrushesOf, model_of_brushes}
use Rattle.qm_models.proofs.finding.model_of.Goals as goal
use Rattle.qm_models.proofs.finding.model_of.Goals.{In_ok-list, In-Some}

brushes_are : (c : In_ok-list) → AreBrushesOf c.args.map.now c.args.entity c.brushes_of.new.book c.in_ok-list.list
brushes_are c = record {
  solids = c.in_ok-list.ensures.solids;
  filled = c.in_ok-list.ensures.book;
  entered = subst (λ (old : List Plane). AreEnteredInBook old (entity_planes c.args.map.now c.args.entity) c.brushes_of.new.book) c.new-book.ensures c.in_ok-list.ensures.entered;
}

outline_is : (c : In-Some) → IsOutline c.args.world.now.tree (solids_in c.brushes_of.new.book c.in_ok-list.list) c.in-Some.outline.extents c.in-Some.outline.touched.items
outline_is c =
    subst (λ (tree : Tree). IsOutline tree (solids_in c.brushes_of.new.book c.in_ok-list.list) c.in-Some.outline.extents c.in-Some.outline.touched.items) c.tree.ensures
    (MatchOption-at_some _ _ c.in-Some.outline c.in-Some.is c.in_ok-outline_of.ensures)

pub returns-in-None : goal.returns-in-None
returns-in-None c =
    no_full_back (entity_solids c.args.map.now c.args.entity) (solids_in c.brushes_of.new.book c.in_ok-list.list) c.in_ok-list.ensures.solids (MatchOption-at_none _ _ c.in-None.is c.in_ok-outline_of.ensures)

pub numbers_of-requires : goal.numbers_of-requires
numbers_of-requires c =
    rw c.deref.ensures.value
    (record { within = all_within c.args.world.now.tree (solids_in c.brushes_of.new.book c.in_ok-list.list) c.in-Some.outline.touched.items (outline_is (goal.at.numbers_of-requires c).In-Some).touched_are })

pub returns : goal.returns
returns c =
    model_of_brushes c.args.map.now c.args.world.now.tree c.args.entity c.brushes_of.new.book c.in_ok-list.list (brushes_are (goal.at.returns c).In_ok-list)
    c.in-Some.outline.extents c.in-Some.outline.touched.items c.in_ok-leaves-in-Some.leaves.items c.in_ok-tree-in-Some.tree c.plain_model.result (outline_is (goal.at.returns c).In-Some)
    (subst (λ (touched : List ℕ). AreSortedNumbers c.args.world.now.tree touched c.in_ok-leaves-in-Some.leaves.items) c.deref.ensures.value c.in_ok-leaves-in-Some.ensures)
    c.in_ok-tree-in-Some.ensures.tree c.in_ok-tree-in-Some.ensures.contents c.in_ok-tree-in-Some.ensures.few c.plain_model.ensures.found c.plain_model.ensures.plain
