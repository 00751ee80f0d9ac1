-- The tree that solids define with the planes of a book is well made, and its planes are in lowest terms.
use Rattle.std.proofs.Common.{◌≡◌, List, get_or, sym, subst, All}
use Rattle.std.proofs.lemmas.Option.{slice_get-get_or}
use Rattle.qm_space.specs.Book.{AreBookPlanes}
use Rattle.qm_space.specs.Plane.{Plane}
use Rattle.qm_space.specs.Reduced.{IsReduced}
use Rattle.qm_solids.specs.Solid.{Solid}
use Rattle.qm_partition.specs.Joining.{joined}
use Rattle.qm_partition.specs.Tree.{Tree}
use Rattle.qm_partition.specs.WellMade.{IsWellMade}
use Rattle.qm_partition.proofs.JoinedParts.{joined_well_made}
use Rattle.qm_solid_tree.specs.TreeOf.{IsTreeOf}
use Rattle.qm_build.proofs.DefinedTrees.{well_made}

module _ (solids : List Solid) (book : List Plane) (planes : AreBookPlanes book) (tree : Tree) (is : IsTreeOf solids book tree) where
  pub tree_well_made : IsWellMade tree
  tree_well_made =
      let same : tree ≡ record { planes = book; shape = joined is.whole } = λ i. record { planes = is.planes i; shape = is.is_joined i } in
      subst IsWellMade (sym same) (joined_well_made book is.whole (well_made solids book planes is.whole is.divides))

  pub tree_reduced : All IsReduced tree.planes
  tree_reduced =
      subst (λ (b : List Plane). All IsReduced b) (sym is.planes) (λ n h within. planes.reduced n (get_or book n h) (slice_get-get_or book n h within))
