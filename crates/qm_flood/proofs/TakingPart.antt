-- Which entities take part, by the leaves in which they stand.
use Rattle.std.proofs.Common.{◌≡◌, ℕ, ◌↔◌, Bool, true, false, not, refl, Some, slice_get, sym, ap, ◌∙◌}
use Rattle.std.specs.Prelude.{IsTrue}
use Rattle.qm_contents.specs.declared.contents.Contents.{Contents}
use Rattle.qm_contents.specs.declared.contents.Contents.TheVariants.{Solid}
use Rattle.qm_contents.proofs.SixKinds.{each_but_solid}
use Rattle.qm_partition.specs.declared.node.Leaf.{Leaf}
use Rattle.qm_partition.specs.Tree.{Tree}
use Rattle.qm_partition.specs.Counting.{leaves_of}
use Rattle.qm_partition.specs.LeafOfPoint.{leaf_record_at}
use Rattle.qm_partition.proofs.LeafNumbers.{leaf_of_number}
use Rattle.qm_contacts.specs.NumberedLeaves.{is_solid}
use Rattle.qm_contacts.specs.Leak.{Origin, leaf_of_origin, TakesPart}

-- the leaf of that number is the one to which the point is led
pub leaf_there : (tree : Tree) (origin : Origin) (k : ℕ) (found : Leaf) → k ≡ leaf_of_origin tree origin → slice_get (leaves_of tree.shape) k ≡ Some found → found ≡ leaf_record_at tree.planes tree.shape origin.point
leaf_there tree origin k found is at =
    let e : Some found ≡ Some (leaf_record_at tree.planes tree.shape origin.point) = sym at ∙ ap (slice_get (leaves_of tree.shape)) is ∙ leaf_of_number tree.planes tree.shape origin.point in
    cc

solid_test : (contents : Contents) → is_solid contents ≡ false → contents ≡ Solid → ⊥
solid_test contents other is = let e : is_solid contents ≡ true = ap is_solid is in absurd (let f : true ≡ false = sym e ∙ other in cc)

not_solid_test : (contents : Contents) → (contents ≡ Solid → ⊥) → is_solid contents ≡ false
not_solid_test = each_but_solid (λ contents. is_solid contents ≡ false) refl refl refl refl refl

-- it takes part exactly where the leaf is not solid
pub takes_part_test : (tree : Tree) (origin : Origin) (found : Leaf) (solid : Bool) → found ≡ leaf_record_at tree.planes tree.shape origin.point → solid ≡ is_solid found.contents → IsTrue (not solid) ↔ TakesPart tree origin
takes_part_test tree origin found solid same is = (
  (λ is_open. solid_test (leaf_record_at tree.planes tree.shape origin.point).contents (sym its ∙ closed solid is_open)),
  (λ takes. let e = its ∙ not_solid_test (leaf_record_at tree.planes tree.shape origin.point).contents takes in ap not e),
)
  where
    its : solid ≡ is_solid (leaf_record_at tree.planes tree.shape origin.point).contents
    its = is ∙ ap (λ (l : Leaf). is_solid l.contents) same

    closed : (b : Bool) → not b ≡ true → b ≡ false
    closed true is_open = sym is_open
    closed false is_open = refl
