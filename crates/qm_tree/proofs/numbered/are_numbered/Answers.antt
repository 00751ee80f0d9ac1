use Rattle.std.proofs.Common.{◌≡◌, List, [], ◌∷◌, ◌++◌, ap, subst, ◌∙◌, get_or, eq-eqb, arith}
use Rattle.std.proofs.lemmas.List.{nil_from_length}
use Rattle.std.proofs.lemmas.Bool.Decides.{nat_tests}
use Rattle.qm_partition.specs.declared.node.Child.{Child}
use Rattle.qm_partition.specs.declared.node.Child.TheVariants.{Node, Leaf}
use Rattle.qm_partition.proofs.NumberedWalks.{IsWalked, walk_begins, walk_leaf, walk_node, leaf_is_next, node_is_next, all_have_come, whole_is_numbered}
use Rattle.qm_tree.proofs.numbered.are_numbered.Goals as goal
use Rattle.qm_tree.proofs.numbered.are_numbered.Goals.{After-drop-due-2, then-next_node-nodes, else-next_node-nodes}

pub loop-child-init : goal.loop-child-init
loop-child-init c =
    let pushed : c.push.new.self.items ≡ _ ∷ [] = c.in_ok-push.ensures.items ∙ ap (λ (due : List Child). due ++ c.first_child.result ∷ []) c.new-due.ensures.items ∙ ap (λ (child : Child). child ∷ []) c.first_child.ensures in
    rw pushed (walk_begins c.args.nodes.now c.args.leaves)

pub returns-then-leaf-next_leaf : goal.returns-then-leaf-next_leaf
returns-then-leaf-next_leaf c = λ all long.
    let nodes = c.args.nodes.now in
    let rest = c.pop.new.self.items in
    let popped = c.in-Some.ensures.items ∙ ap (λ (child : Child). rest ++ child ∷ []) c.in-Leaf.is in
    let walked = subst (λ (due : List Child). IsWalked nodes c.args.leaves due c.loop-child.next_node c.loop-child.next_leaf) popped c.loop-child.invariant in (
      λ yes. absurd cc,
      λ whole.
          let next = leaf_is_next nodes c.args.leaves rest c.loop-child.next_node c.loop-child.next_leaf c.in-Leaf.leaf walked all long whole in
          absurd (grind (arith, next.0, next.1, c.then-leaf-next_leaf.either)),
    )

pub loop-child-preserved-in-Leaf : goal.loop-child-preserved-in-Leaf
loop-child-preserved-in-Leaf c =
    let nodes = c.args.nodes.now in
    let rest = c.pop.new.self.items in
    let next = c.if-leaf-next_leaf.false in
    let popped = c.in-Some.ensures.items ∙ ap (λ (child : Child). rest ++ child ∷ []) (c.in-Leaf.is ∙ ap Leaf next) in
    let walked = subst (λ (due : List Child). IsWalked nodes c.args.leaves due c.loop-child.next_node c.loop-child.next_leaf) popped c.loop-child.invariant in
    walk_leaf nodes c.args.leaves rest c.loop-child.next_node c.loop-child.next_leaf walked (omega (arith, next, c.if-leaf-leaves.false))

pub returns-then-n-next_node : goal.returns-then-n-next_node
returns-then-n-next_node c = λ all long.
    let nodes = c.args.nodes.now in
    let rest = c.pop.new.self.items in
    let popped = c.in-Some.ensures.items ∙ ap (λ (child : Child). rest ++ child ∷ []) c.in-Node.is in
    let walked = subst (λ (due : List Child). IsWalked nodes c.args.leaves due c.loop-child.next_node c.loop-child.next_leaf) popped c.loop-child.invariant in (
      λ yes. absurd cc,
      λ whole.
          let next = node_is_next nodes c.args.leaves rest c.loop-child.next_node c.loop-child.next_leaf c.in-Node.n walked all long whole in
          absurd (grind (arith, next.0, next.1, c.then-n-next_node.either)),
    )

pub loop-child-preserved : goal.loop-child-preserved
loop-child-preserved c =
    let nodes = c.args.nodes.now in
    let rest = c.pop.new.self.items in
    let next = c.if-n-next_node.false in
    let here = get_or nodes c.in-Node.n (record { plane = 0; front = Node 0; back = Node 0 }) in
    let popped = c.in-Some.ensures.items ∙ ap (λ (child : Child). rest ++ child ∷ []) (c.in-Node.is ∙ ap Node next) in
    let walked = subst (λ (due : List Child). IsWalked nodes c.args.leaves due c.loop-child.next_node c.loop-child.next_leaf) popped c.loop-child.invariant in
    let after = walk_node nodes c.args.leaves rest c.loop-child.next_node c.loop-child.next_leaf (record { plane = 0; front = Node 0; back = Node 0 }) walked (omega (arith, next, c.if-n-nodes.false)) in
    rw (c.in_ok-push-in-Node-2.ensures.items, c.in_ok-push-in-Node.ensures.items, next) after

-- nothing is due any more
walked_all : (c : After-drop-due-2) → IsWalked c.args.nodes.now c.args.leaves [] c.loop-child.next_node c.loop-child.next_leaf
walked_all c =
    let none : c.loop-child.due.items ≡ [] = nil_from_length c.loop-child.due.items (omega (arith, c.loop-child.due.ok.0, c.in_default.ensures.cases.0)) in
    subst (λ (due : List Child). IsWalked c.args.nodes.now c.args.leaves due c.loop-child.next_node c.loop-child.next_leaf) none c.loop-child.invariant

pub returns : goal.returns
returns c = λ all long.
    let nodes = c.args.nodes.now in
    let leaves = c.args.leaves in
    let n = c.loop-child.next_node in
    let k = c.loop-child.next_leaf in
    let walked = walked_all c in
    elim c.if-next_node-nodes.branch [
      | then-next_node-nodes w ↦ (
        λ yes. whole_is_numbered nodes leaves n k walked w.if-next_node-nodes.true (grind (arith, nat_tests, w.result-is, yes)) all long,
        λ whole. let come = all_have_come nodes leaves n k walked all long whole in w.result-is ∙ eq-eqb k leaves come.1,
      )
      | else-next_node-nodes w ↦ (
        λ yes. absurd (grind (arith, nat_tests, w.result-is, yes, w.if-next_node-nodes.false)),
        λ whole. let come = all_have_come nodes leaves n k walked all long whole in absurd (w.if-next_node-nodes.false come.0),
      )
    ]
