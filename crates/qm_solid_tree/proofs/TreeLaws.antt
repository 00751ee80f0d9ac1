-- What the tree that solids define is: it names its planes, each of its leaves has a point, and it gives the contents that
-- the solids define.
use Rattle.std.proofs.Common.{◌<◌, get_or, List, ◌++◌, length, All, sym, subst}
use Rattle.std.proofs.lemmas.List.Elements.{All-nil, All-cons, All-append}
use Rattle.std.proofs.lemmas.Option.{slice_get_within, slice_get-get_or}
use Rattle.qm_space.specs.Plane.{Plane}
use Rattle.qm_space.specs.Reduced.{HasNormal}
use Rattle.qm_space.specs.Book.{AreBookPlanes}
use Rattle.qm_solids.specs.Solid.{Solid}
use Rattle.qm_partition.specs.Partition.{Partition}
use Rattle.qm_partition.specs.Counting.{node_planes}
use Rattle.qm_partition.specs.Tree.{Tree, NamesItsPlanes}
use Rattle.qm_partition.proofs.JoinedCells.{joined_node_planes}
use Rattle.qm_solid_tree.specs.Division.{HasPlanesOf, Divides, undivided, divided}
use Rattle.qm_solid_tree.specs.TreeOf.{IsTreeOf}
use Rattle.qm_solid_tree.specs.GivesContents.{GivesContents}
use Rattle.qm_solid_tree.proofs.TreeContents.{leaf_contents}

-- each plane of a book has a normal
pub book_normals : (book : List Plane) → AreBookPlanes book → All HasNormal book
book_normals book planes = λ place h there. (planes.reduced place (get_or book place h) (slice_get-get_or book place h there)).normal

module _ (solids : List Solid) (book : List Plane) where
  -- each node of a division names a plane of the book
  pub division_names_planes : {cell : List Plane} {shape : Partition} → Divides solids book cell shape → All (λ n. n < length book) (node_planes shape)
  division_names_planes (undivided none has unfilled) = All-nil (λ n. n < length book)
  division_names_planes (divided {n = n} {h = h} {front = front} {back = back} least in_front behind) =
      All-cons (λ n. n < length book) n (node_planes front ++ node_planes back) (slice_get_within book n h least.is_one.numbered)
      (All-append (λ n. n < length book) (node_planes front) (node_planes back) (division_names_planes in_front) (division_names_planes behind))

  pub tree_names_planes : (tree : Tree) → IsTreeOf solids book tree → NamesItsPlanes tree
  tree_names_planes tree is =
      let its = joined_node_planes (λ n. n < length book) is.whole (division_names_planes is.divides) in
      subst (λ (all : List Plane). All (λ n. n < length all) (node_planes tree.shape)) (sym is.planes)
      (subst (λ (s : Partition). All (λ n. n < length book) (node_planes s)) (sym is.is_joined) its)

  -- the tree gives the contents that the solids define
  pub gives_contents : (tree : Tree) → AreBookPlanes book → HasPlanesOf book solids → IsTreeOf solids book tree → GivesContents tree solids
  gives_contents tree planes has_planes is = record {
    named = tree_names_planes tree is;
    normals = subst (λ (all : List Plane). All HasNormal all) (sym is.planes) (book_normals book planes);
    gives = λ x in_cube off. leaf_contents solids book planes has_planes tree x is in_cube off;
  }
