use Rattle.std.proofs.Common.{◌≡◌, ℕ, List, [], ◌∷◌, ◌++◌, sym, ap, ◌∙◌, subst, arith}
use Rattle.std.proofs.lemmas.List.{nil_from_length}
use Rattle.qm_lists.proofs.KeptStacks.{under_way_next, under_way_goes_on, under_way_smaller}
use Rattle.qm_convex.specs.inner.Facets.{Facet}
use Rattle.qm_partition.specs.declared.node.Child.{Child}
use Rattle.qm_partition.specs.Tree.{Tree}
use Rattle.qm_partition.specs.Numbering.{child_of}
use Rattle.qm_reach.specs.inner.DueBodies.{DueBody, body_at, due_body_of, IsDueBody, ComesToLeaves, body_weight, IsWalking}
use Rattle.qm_reach.proofs.Walks.{root_is_due, walk_begins, walk_ends}
use Rattle.qm_descent.proofs.walk.reached_leaves.Goals as goal
use Rattle.qm_descent.proofs.walk.reached_leaves.Goals.{In_ok-push}

-- the body at the root
abbrev first : Tree → List Facet → DueBody
first tree facets = body_at facets (child_of tree.shape 0 0)

-- it alone is due
alone : (c : In_ok-push) → c.push.new.self.items ≡ first c.args.tree.now c.args.body ∷ []
alone c =
    c.in_ok-push.ensures.items
    ∙ ap (λ (due : List DueBody). due ++ body_at c.args.body c.root.result ∷ []) c.new-due.ensures.items
    ∙ ap (λ (child : Child). body_at c.args.body child ∷ []) c.root.ensures

pub loop-next-init : goal.loop-next-init
loop-next-init c =
    let root = first c.args.tree.now c.args.body in
    subst (λ (due : List DueBody). IsWalking c.args.tree.now root due c.new-found.result.items) (sym (alone (goal.at.loop-next-init c).In_ok-push))
    (subst (λ (found : List ℕ). IsWalking c.args.tree.now root (root ∷ []) found) (sym c.new-found.ensures.items) (walk_begins c.args.tree.now root))

pub visit-requires : goal.visit-requires
visit-requires c =
    let tree = c.args.tree.now in
    under_way_next due_body_of (IsDueBody tree) (ComesToLeaves tree.planes) (first tree c.args.body) c.loop-next.due.items c.pop.new.self.items c.in-Some.next c.loop-next.found.items c.in-Some.ensures.items (root_is_due tree c.args.body c.some_cell.ensures) c.loop-next.invariant

pub loop-next-preserved : goal.loop-next-preserved
loop-next-preserved c =
    let tree = c.args.tree.now in
    under_way_goes_on due_body_of (IsDueBody tree) (ComesToLeaves tree.planes) (first tree c.args.body) c.loop-next.due.items c.pop.new.self.items c.in-Some.next c.loop-next.found.items c.in-Some.ensures.items (body_weight tree) c.visit.new.due.items c.visit.new.found.items c.in_ok-visit.ensures c.loop-next.invariant

pub loop-next-smaller : goal.loop-next-smaller
loop-next-smaller c =
    let tree = c.args.tree.now in
    under_way_smaller due_body_of (IsDueBody tree) (ComesToLeaves tree.planes) (first tree c.args.body) c.loop-next.due.items c.pop.new.self.items c.in-Some.next c.loop-next.found.items c.in-Some.ensures.items (body_weight tree) c.visit.new.due.items c.visit.new.found.items c.in_ok-visit.ensures

pub returns : goal.returns
returns c =
    let tree = c.args.tree.now in
    walk_ends tree c.args.body c.loop-next.found.items
    (subst (λ (due : List DueBody). IsWalking tree (first tree c.args.body) due c.loop-next.found.items) (nil_from_length c.loop-next.due.items (omega (arith, c.loop-next.due.ok.0, c.in_default.ensures.cases.0))) c.loop-next.invariant)
