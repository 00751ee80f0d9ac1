use Rattle.std.proofs.Common.{◌≡◌, ◌∙◌, sym, ap, get_or, Some, true, false, arith}
use Rattle.std.proofs.lemmas.Option.{slice_get-get_or}
use Rattle.qm_base.proofs.RunSteps.{lane_more, lane_other, lanes_all}
use Rattle.qm_base.proofs.runs.lanes_of.Goals as goal
use Rattle.qm_base.proofs.runs.lanes_of.Goals.{then-is, else-is}

pub loop-j-preserved : goal.loop-j-preserved
loop-j-preserved c =
    let kinds = c.args.kinds.now in
    let kind = c.args.kind.now in
    let read = slice_get-get_or kinds c.loop-j.j (record { class = 0; front = false }) c.loop-j-test.true in
    elim c.if-is.branch [
      | then-is w ↦
          rw w.lanes-is (lane_more kinds kind c.loop-j.j c.loop-j.lanes c.loop-j.invariant (let test = c.loop-j-test.true in let few = c.requires in omega (arith, test, few))
          (read ∙ ap Some (c.is.ensures.0 w.if-is.true)))
      | else-is w ↦
          rw w.lanes-is (lane_other kinds kind c.loop-j.j c.loop-j.lanes c.loop-j.invariant
          (λ at. let both : Some (get_or kinds c.loop-j.j (record { class = 0; front = false })) ≡ Some kind = sym read ∙ at in
          let same : get_or kinds c.loop-j.j (record { class = 0; front = false }) ≡ kind = cc in
          let never : false ≡ true = sym w.if-is.false ∙ c.is.ensures.1 same in cc))
    ]

pub returns : goal.returns
returns c = lanes_all c.args.kinds.now c.args.kind.now c.loop-j.j c.loop-j.lanes c.loop-j.invariant c.loop-j-test.false
