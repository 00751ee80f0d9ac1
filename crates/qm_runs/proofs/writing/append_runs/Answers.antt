use Rattle.std.proofs.Common.{Some, ap, sym, ◌∙◌, append_assoc}
use Rattle.qm_lists.proofs.Spellings.{runs_of-byte, runs_of-zeros, runs_of-none}
use Rattle.qm_runs.proofs.Written.{written_part, written_all}
use Rattle.qm_runs.proofs.writing.append_runs.Goals as goal

pub loop-first-preserved-then-first-ne0 : goal.loop-first-preserved-then-first-ne0
loop-first-preserved-then-first-ne0 c =
    let row = c.loop-first.rest.now in
    rw (c.in_ok-push.ensures.items, c.split_at.ensures.back) (written_part _ _ _ _ row _ (runs_of-byte row c.in-Some.first.now (sym c.in-Some.ensures.value) c.if-first-ne0.true) c.loop-first.invariant)

pub loop-first-preserved : goal.loop-first-preserved
loop-first-preserved c =
    let row = c.loop-first.rest.now in
    let run = c.run_length-count.ensures in
    let first = sym c.in-Some.ensures.value ∙ ap Some c.if-first-ne0.false in
    rw (c.in_ok-push-3.ensures.items, c.in_ok-push-2.ensures.items, c.split_at-else-first-ne0.ensures.back, append_assoc)
    (written_part _ _ _ _ row _ (runs_of-zeros row c.run_length-count.result first run.zeros run.small run.longest) c.loop-first.invariant)

pub returns-clause-ok : goal.returns-clause-ok
returns-clause-ok c =
    written_all _ _ _ _ (runs_of-none c.loop-first.rest.now (sym c.in_default.ensures.value)) c.loop-first.invariant
