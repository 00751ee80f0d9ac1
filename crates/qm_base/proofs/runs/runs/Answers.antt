use Rattle.std.proofs.Common.{refl, false, get_or}
use Rattle.std.proofs.lemmas.Option.{slice_get-get_or}
use Rattle.qm_base.proofs.RunSteps.{run_more, run_same, runs_all}
use Rattle.qm_base.proofs.runs.runs.Goals as goal
use Rattle.qm_base.proofs.runs.runs.Goals.{then-not-is_repeated+in_ok-push, else-not-is_repeated}

pub loop-j-preserved : goal.loop-j-preserved
loop-j-preserved c =
    let kinds = c.args.kinds.now in
    elim c.if-not-is_repeated.branch [
      | then-not-is_repeated+in_ok-push w ↦
          let read = slice_get-get_or kinds c.loop-j.j (record { class = 0; front = false }) c.loop-j-test.true in
          rw (w.runs-is, w.in_ok-push.ensures.items) (run_more kinds c.loop-j.j c.loop-j.runs.items c.loop-j.invariant (get_or kinds c.loop-j.j (record { class = 0; front = false })) read (record { kind = get_or kinds c.loop-j.j (record { class = 0; front = false }); lanes = w.lanes_of-lanes.result }) refl w.lanes_of-lanes.ensures)
      | else-not-is_repeated w ↦
          let again = c.is_repeated.ensures w.if-not-is_repeated.false in
          rw w.runs-is (run_same kinds c.loop-j.j c.loop-j.runs.items c.loop-j.invariant again.kind again.is again.before again.next again.was)
    ]

pub returns : goal.returns
returns c = runs_all c.args.kinds.now c.loop-j.j c.loop-j.runs.items c.loop-j-test.false c.loop-j.invariant
