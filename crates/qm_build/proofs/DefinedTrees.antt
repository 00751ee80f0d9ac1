-- The tree whose walk is that of the division of the whole cube.
use Rattle.std.proofs.Common.{◌≡◌, true, false, List, [], All, refl, sym, ◌∙◌, subst}
use Rattle.std.proofs.lemmas.Option.{slice_get-get_or}
use Rattle.std.proofs.lemmas.List.Elements.{All-nil, All-cons, All-append}
use Rattle.qm_space.specs.Plane.{Plane}
use Rattle.qm_space.specs.Book.{AreBookPlanes}
use Rattle.qm_solids.specs.Solid.{Solid}
use Rattle.qm_partition.specs.Partition.{Partition}
use Rattle.qm_partition.specs.Counting.{leaves_of}
use Rattle.qm_partition.specs.Joining.{joined}
use Rattle.qm_partition.specs.Tree.{Tree}
use Rattle.qm_partition.specs.WellMade.{IsSolidIfFilled, IsWellMade}
use Rattle.qm_solid_tree.specs.Division.{Divides, undivided, divided}
use Rattle.qm_solid_tree.specs.TreeOf.{IsTreeOf}
use Rattle.qm_solid_tree.proofs.TreeLaws.{division_names_planes}

module _ (solids : List Solid) (book : List Plane) where
  -- no leaf of a division is filled
  unfilled_leaves : {cell : List Plane} {shape : Partition} → Divides solids book cell shape → All IsSolidIfFilled (leaves_of shape)
  unfilled_leaves (undivided {found = found} none has unfilled) =
      All-cons IsSolidIfFilled found [] (λ filled. absurd (let both : true ≡ false = sym filled ∙ unfilled in cc)) (All-nil IsSolidIfFilled)
  unfilled_leaves (divided {front = front} {back = back} least in_front behind) =
      All-append IsSolidIfFilled (leaves_of front) (leaves_of back) (unfilled_leaves in_front) (unfilled_leaves behind)

  -- a division with the whole book is well made
  pub well_made : (planes : AreBookPlanes book) (shape : Partition) → Divides solids book [] shape → IsWellMade (record { planes = book; shape = shape })
  well_made planes shape divides = record {
    few = planes.short;
    leads = λ n h within. planes.leads n _ (slice_get-get_or book n h within);
    names = division_names_planes solids book divides;
    solid = unfilled_leaves divides;
  }

  -- the joined division is the defined tree
  pub is_defined : (shape : Partition) (tree : Tree) → Divides solids book [] shape → tree ≡ record { planes = book; shape = joined shape } → IsTreeOf solids book tree
  is_defined shape tree divides is =
      subst (λ (t : Tree). IsTreeOf solids book t) (sym is) (record { planes = refl; whole = shape; divides = divides; is_joined = refl })
