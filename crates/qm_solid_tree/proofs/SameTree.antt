-- Solids that have the same faces, place by place, define the same tree: such are solids whose planes are multiples of
-- those of others.
use Rattle.std.proofs.Common.{List}
use Rattle.std.specs.List.{AllZip}
use Rattle.qm_space.specs.Plane.{Plane}
use Rattle.qm_solids.specs.Solid.{Solid}
use Rattle.qm_solids.specs.Alike.{IsAlike}
use Rattle.qm_solids.proofs.SameFaces.{HaveSameFaces, solids_back, alike_have_same_faces, cell_contents_kept, numbered_kept, least_kept}
use Rattle.qm_partition.specs.Partition.{Partition}
use Rattle.qm_partition.specs.Tree.{Tree}
use Rattle.qm_solid_tree.specs.Division.{HasNoCandidate, Divides, undivided, divided}
use Rattle.qm_solid_tree.specs.TreeOf.{IsTreeOf}

module _ (solids others : List Solid) (same : HaveSameFaces solids others) (book : List Plane) where
  pub no_candidate_kept : {cell : List Plane} → HasNoCandidate solids book cell → HasNoCandidate others book cell
  no_candidate_kept {cell} none = λ n h is. none n h (numbered_kept others solids book cell n h (solids_back solids others same) is)

  pub division_kept : {cell : List Plane} {shape : Partition} → Divides solids book cell shape → Divides others book cell shape
  division_kept (undivided {cell = cell} {found = found} none has unfilled) =
      undivided (no_candidate_kept {cell = cell} none) (cell_contents_kept solids others same cell found.contents has) unfilled
  division_kept (divided {cell = cell} {n = n} {h = h} least in_front behind) =
      divided (least_kept solids others book cell n h same least) (division_kept in_front) (division_kept behind)

  pub tree_kept : (tree : Tree) → IsTreeOf solids book tree → IsTreeOf others book tree
  tree_kept tree is = record { planes = is.planes; whole = is.whole; divides = division_kept is.divides; is_joined = is.is_joined }

-- solids that are alike, place by place, define the same tree
module _ (solids others : List Solid) (alike : AllZip IsAlike solids others) (book : List Plane) where
  pub tree_back : (tree : Tree) → IsTreeOf others book tree → IsTreeOf solids book tree
  tree_back tree is = tree_kept others solids (solids_back solids others (alike_have_same_faces solids others alike)) book tree is
