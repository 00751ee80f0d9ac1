use Rattle.std.proofs.Common.{◌≡◌, List, [], ◌∷◌, ◌++◌, ap, subst, ◌∙◌, arith}
use Rattle.std.proofs.lemmas.List.{nil_from_length}
use Rattle.qm_partition.specs.declared.node.Child.{Child}
use Rattle.qm_partition.proofs.Walking.{IsWalking, walking_begins, leaf_walked, leaf_walked_within, node_walked, node_walked_within, walked_at_most, all_walked}
use Rattle.qm_tree.proofs.tree.Tree.walk.Goals as goal

pub loop-child-init : goal.loop-child-init
loop-child-init c =
    let pushed : c.push.new.self.items ≡ _ ∷ [] = c.in_ok-push.ensures.items ∙ ap (λ (due : List Child). due ++ c.root.result ∷ []) c.new-due.ensures.items ∙ ap (λ (child : Child). child ∷ []) c.root.ensures in
    rw (pushed, c.in_ok-walk.ensures.items) (walking_begins c.args.self.now.shape)

pub leaf-requires : goal.leaf-requires
leaf-requires c =
    let rest = c.pop.new.self.items in
    let popped = c.in-Some.ensures.items ∙ ap (λ (child : Child). rest ++ child ∷ []) c.in-Leaf.is in
    let walking = subst (λ (due : List Child). IsWalking c.args.self.now.shape due c.loop-child.walk.items) popped c.loop-child.invariant in
    leaf_walked_within c.args.self.now.shape rest c.loop-child.walk.items c.in-Leaf.leaf walking

pub node-node-requires : goal.node-node-requires
node-node-requires c =
    let rest = c.pop.new.self.items in
    let popped = c.in-Some.ensures.items ∙ ap (λ (child : Child). rest ++ child ∷ []) c.in-Node.is in
    let walking = subst (λ (due : List Child). IsWalking c.args.self.now.shape due c.loop-child.walk.items) popped c.loop-child.invariant in
    node_walked_within c.args.self.now.shape rest c.loop-child.walk.items c.in-Node.n walking

pub loop-child-preserved-in-Continue-branch-3 : goal.loop-child-preserved-in-Continue-branch-3
loop-child-preserved-in-Continue-branch-3 c =
    let rest = c.pop.new.self.items in
    let popped = c.in-Some.ensures.items ∙ ap (λ (child : Child). rest ++ child ∷ []) c.in-Leaf.is in
    let walking = subst (λ (due : List Child). IsWalking c.args.self.now.shape due c.loop-child.walk.items) popped c.loop-child.invariant in
    rw c.in_ok-push-in-Leaf.ensures.items (leaf_walked c.args.self.now.shape rest c.loop-child.walk.items c.in-Leaf.leaf c.leaf.result walking c.leaf.ensures)

pub loop-child-smaller-in-Continue-branch-3 : goal.loop-child-smaller-in-Continue-branch-3
loop-child-smaller-in-Continue-branch-3 c =
    let shape = c.args.self.now.shape in
    let most = walked_at_most shape c.pop.new.self.items c.push-in-Leaf.new.self.items (loop-child-preserved-in-Continue-branch-3 c) in
    omega (arith, most, c.in_ok-push-in-Leaf.ensures.len, c.push-in-Leaf.new.self.ok.0)

pub loop-child-preserved : goal.loop-child-preserved
loop-child-preserved c =
    let rest = c.pop.new.self.items in
    let popped = c.in-Some.ensures.items ∙ ap (λ (child : Child). rest ++ child ∷ []) c.in-Node.is in
    let walking = subst (λ (due : List Child). IsWalking c.args.self.now.shape due c.loop-child.walk.items) popped c.loop-child.invariant in
    rw (c.in_ok-push-in-Node-3.ensures.items, c.in_ok-push-in-Node-2.ensures.items, c.in_ok-push-in-Node.ensures.items)
    (node_walked c.args.self.now.shape rest c.loop-child.walk.items c.in-Node.n c.node-node.result walking c.node-node.ensures.value)

pub loop-child-smaller : goal.loop-child-smaller
loop-child-smaller c =
    let shape = c.args.self.now.shape in
    let most = walked_at_most shape c.push-in-Node-3.new.self.items c.push-in-Node.new.self.items (loop-child-preserved c) in
    omega (arith, most, c.in_ok-push-in-Node.ensures.len, c.push-in-Node.new.self.ok.0)

pub returns : goal.returns
returns c =
    let shape = c.args.self.now.shape in
    let none : c.loop-child.due.items ≡ [] = nil_from_length c.loop-child.due.items (omega (arith, c.loop-child.due.ok.0, c.in_default.ensures.cases.0)) in
    all_walked shape c.loop-child.walk.items (subst (λ (due : List Child). IsWalking shape due c.loop-child.walk.items) none c.loop-child.invariant)
