use Rattle.std.proofs.Common.{◌≡◌, ◌∙◌, ap, sym, get_or, refl, true, false, Bool, List, arith}
use Rattle.std.proofs.lemmas.List.Elements.{Contains-get_or}
use Rattle.qm_base.proofs.TableSteps.{ahead_wide}
use Rattle.qm_base.proofs.WaySteps.{before_more, before_other, before_all}
use Rattle.qm_base.specs.declared.runs.Run.{Run}
use Rattle.qm_base.proofs.ways.lanes_before.Goals as goal
use Rattle.qm_base.proofs.ways.lanes_before.Goals.{then-get, else-get}

abbrev no_run : Run
no_run = record { kind = record { class = 0; front = false }; lanes = 0 }

pub ahead-requires : goal.ahead-requires
ahead-requires c = c.requires.kinds (get_or c.args.runs.now c.loop-run.run-index no_run) (Contains-get_or c.args.runs.now c.loop-run.run-index no_run c.loop-run-test.true)

pub get-requires : goal.get-requires
get-requires c =
    let run = get_or c.args.runs.now c.loop-run.run-index no_run in
    let class = c.requires.kinds run (Contains-get_or c.args.runs.now c.loop-run.run-index no_run c.loop-run-test.true) in
    let wide = ahead_wide c.args.table.now.lanes.items c.args.table.now.kinds.items c.args.table.now.beside.items c.requires.wide run.kind class in
    let lane = c.requires.lane in
    rw c.ahead.ensures (omega (arith, wide, lane))

pub loop-run-preserved : goal.loop-run-preserved
loop-run-preserved c =
    let table = c.args.table.now.beside.items in
    let runs = c.args.runs.now in
    let run = get_or runs c.loop-run.run-index no_run in
    let says = c.get.ensures ∙ ap (λ (row : List Bool). get_or row c.args.k false) c.ahead.ensures in
    elim c.if-get.branch [
      | then-get w ↦ rw w.lanes-is (before_more table runs c.args.k c.loop-run.run-index c.loop-run.lanes run no_run c.loop-run-test.true refl c.loop-run.invariant (sym says ∙ w.if-get.true))
      | else-get w ↦ rw w.lanes-is (before_other table runs c.args.k c.loop-run.run-index c.loop-run.lanes run no_run c.loop-run-test.true refl c.loop-run.invariant
          (λ is. let never : false ≡ true = sym w.if-get.false ∙ says ∙ is in cc))
    ]

pub returns : goal.returns
returns c = before_all c.args.table.now.beside.items c.args.runs.now c.args.k c.loop-run.run-index c.loop-run.lanes c.loop-run-test.false c.loop-run.invariant
