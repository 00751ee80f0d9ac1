-- Solids that are alike, place by place, have the same box and touch the same leaves, and so make the same model.
use Rattle.std.proofs.Common.{◌<◌, ℕ, List, [], Contains, get_or, refl, subst, sym}
use Rattle.std.specs.List.{AllZip}
use Rattle.std.proofs.lemmas.List.Elements.{All-append, AllZip-get_or, length_all_zip, Contains-get_or}
use Rattle.qm_lists.proofs.Elements.{All-first_part, All-last_part}
use Rattle.qm_space.specs.Point.{Point}
use Rattle.qm_space.specs.Plane.{Plane, IsBehind, IsInFront}
use Rattle.qm_space.specs.Cell.{IsInCell}
use Rattle.qm_space.specs.Cuboid.{Cuboid}
use Rattle.qm_space.specs.Entered.{AreEnteredInBook}
use Rattle.qm_space.proofs.Multiples.{multiple_behind}
use Rattle.qm_mapfile.specs.declared.entity.MapFile.{MapFile}
use Rattle.qm_drawn.specs.Planes.{entity_planes}
use Rattle.qm_drawn.specs.Solids.{entity_solids}
use Rattle.qm_solids.specs.Solid.{Solid, inward}
use Rattle.qm_solids.specs.Holding.{IsInside}
use Rattle.qm_solids.specs.Flat.{IsFlat}
use Rattle.qm_solids.specs.Alike.{IsAlike}
use Rattle.qm_solids.proofs.Insides.{behind_all, inside_of_behind}
use Rattle.qm_solids.proofs.AlikeSolids.{there, back, full_there, holds_there, holds_back, same_contents_back}
use Rattle.qm_partition.specs.Tree.{Tree}
use Rattle.qm_partition.specs.Ways.{cell_of_way}
use Rattle.qm_partition.specs.LeafOfPoint.{leaf_record_at}
use Rattle.qm_solid_tree.specs.TreeOf.{IsTreeOf}
use Rattle.qm_solid_tree.specs.GivesContents.{GivesContents}
use Rattle.qm_solid_tree.proofs.SameTree.{tree_back}
use Rattle.qm_reach.specs.ReachedLeaves.{ReachesLeaf}
use Rattle.qm_outlines.specs.HeldPoints.{IsHeldPoint, IsModelBox, HasNoFull}
use Rattle.qm_outlines.specs.ModelLeaves.{IsTouchedLeaf, AreModelLeaves}
use Rattle.qm_outlines.specs.Outlines.{IsOutline, AreSortedNumbers}
use Rattle.qm_outlines.specs.Models.{IsModelOf}
use Rattle.qm_outlines.proofs.TouchedLeaves.{leaves_of_touched}

-- ---- two solids

module _ (solid other : Solid) (alike : IsAlike solid other) where
  inside_there : (x : Point) → IsInside solid x → IsInside other x
  inside_there x inside =
      inside_of_behind other.outward x (there (λ h. IsBehind h x) (λ h g m. (multiple_behind h g x m).0) solid.outward other.outward alike.multiples (behind_all solid.outward x inside))

  inside_back : (x : Point) → IsInside other x → IsInside solid x
  inside_back x inside =
      inside_of_behind solid.outward x (back (λ h. IsBehind h x) (λ h g m. (multiple_behind h g x m).1) solid.outward other.outward alike.multiples (behind_all other.outward x inside))

-- a cell that has the points of another reaches the leaves that it reaches
reaches_more : (tree : Tree) (cell more : List Plane) (k : ℕ) → ((x : Point) → IsInCell cell x → IsInCell more x) → ReachesLeaf tree cell k → ReachesLeaf tree more k
reaches_more tree cell more k wider is = record {
  way = is.way;
  way_is = is.way_is;
  reached =
      let x = is.reached.point in
      let way = cell_of_way tree.planes is.way in
      let own = All-first_part (λ g. IsInFront g x) cell way is.reached.in_cell in
      let rest = All-last_part (λ g. IsInFront g x) cell way is.reached.in_cell in
      record { point = x; in_cube = is.reached.in_cube; in_cell = All-append (λ g. IsInFront g x) more way (wider x own) rest };
}

-- ---- lists of such solids

module _ (solids others : List Solid) (alike : AllZip IsAlike solids others) where
  -- the one at the same place
  other_of : (solid : Solid) → Contains solids solid → (other : Solid) × Contains others other × IsAlike solid other
  other_of solid (k, within, at) =
      let pair = subst (λ (s : Solid). IsAlike s (get_or others k solid)) at (AllZip-get_or IsAlike solids others k solid solid alike within) in
      (get_or others k solid, Contains-get_or others k solid (subst (λ (n : ℕ). k < n) (length_all_zip IsAlike solids others alike) within), pair)

  one_of : (other : Solid) → Contains others other → (solid : Solid) × Contains solids solid × IsAlike solid other
  one_of other (k, within, at) =
      let within_too = subst (λ (n : ℕ). k < n) (sym (length_all_zip IsAlike solids others alike)) within in
      let pair = subst (λ (o : Solid). IsAlike (get_or solids k other) o) at (AllZip-get_or IsAlike solids others k other other alike within_too) in
      (get_or solids k other, Contains-get_or solids k other within_too, pair)

  held_there : (x : Point) → IsHeldPoint solids x → IsHeldPoint others x
  held_there x held =
      let o = other_of held.solid held.listed in
      record { in_cube = held.in_cube; solid = o.0; listed = o.1; holds = holds_there held.solid o.0 o.2 x held.holds }

  held_back : (x : Point) → IsHeldPoint others x → IsHeldPoint solids x
  held_back x held =
      let o = one_of held.solid held.listed in
      record { in_cube = held.in_cube; solid = o.0; listed = o.1; holds = holds_back o.0 held.solid o.2 x held.holds }

  pub box_back : (box : Cuboid) → IsModelBox others box → IsModelBox solids box
  box_back box is = record {
    has_all = λ x held. is.has_all x (held_there x held);
    least = λ other has. is.least other (λ x held. has x (held_back x held));
  }

  touched_there : (tree : Tree) (k : ℕ) → IsTouchedLeaf tree solids k → IsTouchedLeaf tree others k
  touched_there tree k touched =
      let o = other_of touched.solid touched.listed in
      record { solid = o.0; listed = o.1; reached = reaches_more tree (inward touched.solid) (inward o.0) k (inside_there touched.solid o.0 o.2) touched.reached }

  touched_back : (tree : Tree) (k : ℕ) → IsTouchedLeaf tree others k → IsTouchedLeaf tree solids k
  touched_back tree k touched =
      let o = one_of touched.solid touched.listed in
      record { solid = o.0; listed = o.1; reached = reaches_more tree (inward touched.solid) (inward o.0) k (inside_back o.0 touched.solid o.2) touched.reached }

  pub leaves_back : (tree : Tree) (leaves : List ℕ) → AreModelLeaves tree others leaves → AreModelLeaves tree solids leaves
  leaves_back tree leaves are = record {
    ascending = are.ascending;
    are = λ n. (
      (λ listed. let its = (are.are n).0 listed in record { leaf = its.leaf; number = its.number; touched = touched_back tree its.leaf its.touched }),
      (λ its. (are.are n).1 (record { leaf = its.leaf; number = its.number; touched = touched_there tree its.leaf its.touched })),
    );
  }

  pub no_full_back : HasNoFull others → HasNoFull solids
  no_full_back flat = λ place d within full.
      let o = other_of (get_or solids place d) (Contains-get_or solids place d within) in
      let at = o.1 in
      subst IsFlat at.2 (flat at.0 o.0 at.1) (full_there (get_or solids place d) o.0 o.2 full)

-- ---- the model of an entity, by solids that are alike

pub model_of_alike : (map : MapFile) (world : Tree) (e : ℕ) (others : List Solid) (box : Cuboid) (touched numbers : List ℕ) (book : List Plane) (tree : Tree) → AllZip IsAlike (entity_solids map e) others →
    IsOutline world others box touched → AreSortedNumbers world touched numbers → AreEnteredInBook [] (entity_planes map e) book → IsTreeOf others book tree → GivesContents tree others →
    IsModelOf map world e (record { entity = e; box = box; leaves = numbers; tree = tree })
model_of_alike map world e others box touched numbers book tree alike outline are entered is_tree gives = record {
  entity_is = refl;
  box_is = box_back (entity_solids map e) others alike box outline.box_is;
  leaves_are = leaves_back (entity_solids map e) others alike world numbers (leaves_of_touched world others touched numbers outline.touched_are are);
  book = book;
  entered = entered;
  is_tree = tree_back (entity_solids map e) others alike book tree is_tree;
  gives_contents = record {
    named = gives.named;
    normals = gives.normals;
    gives = λ x in_cube off. same_contents_back (entity_solids map e) others alike x (leaf_record_at tree.planes tree.shape x).contents (gives.gives x in_cube off);
  };
}
