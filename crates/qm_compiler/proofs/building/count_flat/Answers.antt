use Rattle.std.proofs.Common.{◌<◌, length, sym, ◌∙◌, arith}
use Rattle.qm_compiler.proofs.FlatSoFar.{flat_count-full, flat_count-flat, flat_count-all}
use Rattle.qm_compiler.proofs.building.count_flat.Goals as goal
use Rattle.qm_compiler.proofs.building.count_flat.Goals.{then-not-full, else-not-full}

pub loop-i-preserved : goal.loop-i-preserved
loop-i-preserved c =
    let list = c.args.list.now in
    let i = c.loop-i.i in
    let within : i < length list = omega (arith, c.loop-i-test.true, c.len-i-end.ensures) in
    elim c.if-not-full.branch [
      | then-not-full w ↦
          let flat = flat_count-flat list i within (sym c.full.ensures ∙ w.if-not-full.true) in
          record { counted = omega (arith, flat, c.loop-i.invariant.counted, w.count-is); few = omega (arith, c.loop-i.invariant.few, w.count-is) }
      | else-not-full w ↦
          let full = flat_count-full list i within (sym c.full.ensures ∙ w.if-not-full.false) in
          record { counted = omega (arith, full, c.loop-i.invariant.counted, w.count-is); few = omega (arith, c.loop-i.invariant.few, w.count-is) }
    ]

pub returns : goal.returns
returns c =
    c.loop-i.invariant.counted ∙ flat_count-all c.args.list.now c.loop-i.i (omega (arith, c.loop-i-test.false, c.len-i-end.ensures))
