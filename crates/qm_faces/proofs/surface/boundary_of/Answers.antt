use Rattle.std.proofs.Common.{◌≡◌, Some, slice_get, sym, ap, ◌∙◌, subst}
use Rattle.qm_partition.specs.Counting.{leaves_of}
use Rattle.qm_partition.specs.Numbering.{nodes_of}
use Rattle.qm_contacts.specs.Touching.{Touching}
use Rattle.qm_faces.proofs.PairsThere.{plane_of_its_node, rock_in_front, rock_behind, no_rock_side}
use Rattle.qm_faces.proofs.surface.boundary_of.Goals as goal

pub returns-then-is_boundary : goal.returns-then-is_boundary
returns-then-is_boundary c =
    let tree = c.args.tree.now in
    let pair = c.pair.view_is in
    let front = subst (λ (p : Touching). slice_get (leaves_of tree.shape) p.front ≡ Some c.leaf-front.result) pair c.leaf-front.ensures in
    let back = subst (λ (p : Touching). slice_get (leaves_of tree.shape) p.back ≡ Some c.leaf-back.result) pair c.leaf-back.ensures in
    let node = subst (λ (p : Touching). slice_get (nodes_of tree.shape 0 0) p.node ≡ Some c.node-plane.result) pair c.node-plane.ensures.value in
    record {
      plane = plane_of_its_node tree c.args.pair.now.node c.node-plane.result node;
      there = c.node-plane.ensures.plane;
      side = rock_in_front tree c.args.pair.now.front c.args.pair.now.back c.leaf-front.result c.leaf-back.result front back (sym c.is_boundary.ensures ∙ c.if-is_boundary.true);
      leaf = ap (λ (p : Touching). p.back) pair;
    }

pub returns-then-is_boundary-2 : goal.returns-then-is_boundary-2
returns-then-is_boundary-2 c =
    let tree = c.args.tree.now in
    let pair = c.pair.view_is in
    let front = subst (λ (p : Touching). slice_get (leaves_of tree.shape) p.front ≡ Some c.leaf-front.result) pair c.leaf-front.ensures in
    let back = subst (λ (p : Touching). slice_get (leaves_of tree.shape) p.back ≡ Some c.leaf-back.result) pair c.leaf-back.ensures in
    let node = subst (λ (p : Touching). slice_get (nodes_of tree.shape 0 0) p.node ≡ Some c.node-plane.result) pair c.node-plane.ensures.value in
    record {
      plane = plane_of_its_node tree c.args.pair.now.node c.node-plane.result node;
      there = c.node-plane.ensures.plane;
      side = rock_behind tree c.args.pair.now.front c.args.pair.now.back c.leaf-front.result c.leaf-back.result front back (sym c.is_boundary.ensures ∙ c.if-is_boundary.false) (sym c.is_boundary-2.ensures ∙ c.if-is_boundary-2.true);
      leaf = ap (λ (p : Touching). p.front) pair;
    }

pub returns : goal.returns
returns c =
    let tree = c.args.tree.now in
    let pair = c.pair.view_is in
    let front = subst (λ (p : Touching). slice_get (leaves_of tree.shape) p.front ≡ Some c.leaf-front.result) pair c.leaf-front.ensures in
    let back = subst (λ (p : Touching). slice_get (leaves_of tree.shape) p.back ≡ Some c.leaf-back.result) pair c.leaf-back.ensures in
    no_rock_side tree c.args.pair.now.front c.args.pair.now.back c.leaf-front.result c.leaf-back.result front back (sym c.is_boundary.ensures ∙ c.if-is_boundary.false) (sym c.is_boundary-2.ensures ∙ c.if-is_boundary-2.false)
