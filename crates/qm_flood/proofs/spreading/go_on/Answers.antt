use Rattle.std.proofs.Common.{◌≡◌, ◌<◌, false, true, length, refl, sym, arith, get_or, inl, inr, ◌∙◌}
use Rattle.std.proofs.lemmas.List.{get_or_default}
use Rattle.qm_lists.specs.inner.Steps.{steps_of}
use Rattle.qm_partition.specs.Counting.{leaf_count}
use Rattle.qm_flood.proofs.GoingOn.{none_gained, one_gained}
use Rattle.qm_flood.proofs.spreading.go_on.Goals as goal
use Rattle.qm_flood.proofs.spreading.go_on.Goals.{then-index-eq0+then-is_passable_leaf+in_ok-push, else-index-eq0, else-index-eq0-via-then-index-eq0+else-is_passable_leaf, else-index-eq0-via-else-index-eq0}

pub loop-other-preserved : goal.loop-other-preserved
loop-other-preserved c =
    let tree = c.args.tree.now in
    let others = c.args.others.now in
    let i = c.loop-other.other-index in
    let next = get_or others i 0 in
    let so_far = c.loop-other.invariant in
    let in_tree : next < leaf_count tree.shape = c.requires.within i 0 c.loop-other-test.true in
    let in_steps : next < length c.loop-other.steps.items = (let same = so_far.same_length in let each = c.requires.from.one_each in omega (arith, in_tree, same, each)) in
    let read : c.index-in-loop-other.result.now ≡ steps_of c.loop-other.steps.items next = c.index-in-loop-other.ensures ∙ get_or_default c.loop-other.steps.items next _ 0 in_steps in
    let count : c.index.result.now ≡ steps_of c.args.steps.now.items c.args.leaf = c.index.ensures ∙ get_or_default c.args.steps.now.items c.args.leaf _ 0 c.requires.from.within in
    elim c.if-index-eq0.branch [
      | then-index-eq0+then-is_passable_leaf+in_ok-push w ↦
          let none = sym read ∙ w.if-index-eq0.true in
          let gained = one_gained tree others c.args.leaf i next c.args.steps.now.items c.loop-other.steps.items c.args.found.now.items c.loop-other.found.items c.loop-other-test.true refl so_far c.requires.from in_tree none (w.if-is_passable_leaf.ensures.0 refl) in
          rw (w.steps-is, w.found-is, w.in_ok-push.ensures.items, count) gained
      | else-index-eq0 w ↦
          rw (w.steps-is, w.found-is) (none_gained tree others c.args.leaf i next c.args.steps.now.items c.loop-other.steps.items c.args.found.now.items c.loop-other.found.items c.loop-other-test.true refl so_far
          (elim w.else-index-eq0.branch [
            | else-index-eq0-via-then-index-eq0+else-is_passable_leaf v ↦ inr (λ can. let never : false ≡ true = v.if-is_passable_leaf.ensures.1 can in cc)
            | else-index-eq0-via-else-index-eq0 v ↦ inl (let none = v.if-index-eq0.false in omega (arith, none, read))
          ]))
    ]
