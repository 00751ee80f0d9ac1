use Rattle.std.proofs.Common.{◌≡◌, true, false, refl, arith}
use Rattle.std.proofs.lemmas.List.{length_push}
use Rattle.qm_contacts.specs.Reached.{Begins}
use Rattle.qm_lists.proofs.SpreadSteps.{begun_none}
use Rattle.qm_flood.proofs.Beginning.{begun_spreading, one_begins, none_begins}
use Rattle.qm_flood.proofs.spreading.begin.Goals as goal
use Rattle.qm_flood.proofs.spreading.begin.Goals.{then-begins+in_ok-push+in_ok-push-2, else-begins+in_ok-push-3}

pub loop-leaf-init : goal.loop-leaf-init
loop-leaf-init c = rw (c.requires.no_steps, c.requires.none_found) (record { one_each = refl; begun = begun_none (Begins c.args.tree.now) })

pub returns : goal.returns
returns c = begun_spreading c.args.tree.now _ _ (let l = c.loop-leaf.invariant.one_each in let t = c.loop-leaf-test.false in let a = c.loop-leaf.auto.leaf-end in let n = c.leaves-leaf-end.ensures in omega (arith, l, t, a, n)) c.loop-leaf.invariant.begun

pub loop-leaf-preserved : goal.loop-leaf-preserved
loop-leaf-preserved c =
    let tree = c.args.tree.now in
    let steps = c.loop-leaf.steps.items in
    let found = c.loop-leaf.found.items in
    let one_each = c.loop-leaf.invariant.one_each in
    let begun = c.loop-leaf.invariant.begun in
    elim c.if-begins.branch [
      | then-begins+in_ok-push+in_ok-push-2 w ↦
          let long = length_push steps 1 in
          rw (w.steps-is, w.found-is, w.in_ok-push.ensures.items, w.in_ok-push-2.ensures.items)
          (record { one_each = omega (arith, long, one_each); begun = one_begins tree steps found c.loop-leaf.leaf one_each begun (w.if-begins.ensures.0 refl) })
      | else-begins+in_ok-push-3 w ↦
          let long = length_push steps 0 in
          rw (w.steps-is, w.found-is, w.in_ok-push-3.ensures.items)
          (record { one_each = omega (arith, long, one_each); begun = none_begins tree steps found c.loop-leaf.leaf one_each begun (λ is. let never : false ≡ true = w.if-begins.ensures.1 is in cc) })
    ]
