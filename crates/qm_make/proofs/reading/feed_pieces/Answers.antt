use Rattle.std.proofs.Common.{Some, None, refl, rules, arith}
use Rattle.qm_shelf.specs.SeenForms.{shelf_state}
use Rattle.qm_shelf.proofs.Counted.{stays_twice, no_fault_twice}
use Rattle.qm_surroundings.specs.ShelfState.{text_under}
use Rattle.qm_make.proofs.ReadMaps.{read_none, read_to_limit, fed_since, read_fault_twice}
use Rattle.qm_make.proofs.reading.feed_pieces.Goals as goal

pub loop-done-init : goal.loop-done-init
loop-done-init g c = record {
  within = omega arith;
  room = c.requires.room;
  so_far = read_none g.H.Shelf.tells (text_under (shelf_state g.H.Shelf c.args.shelf.now) c.args.name.now) c.args.reader.now c.requires.fresh;
  kept = λ name. refl;
  no_fault = record { reads = λ name. refl; writes = λ name. refl };
}

pub loop-done-preserved : goal.loop-done-preserved
loop-done-preserved g c =
    let before = shelf_state g.H.Shelf c.args.shelf.now in
    let between = shelf_state g.H.Shelf c.loop-done.shelf in
    let after = shelf_state g.H.Shelf c.feed_piece.new.shelf in
    let loop = c.loop-done.invariant in
    let step = c.in-Ok-Some.ensures in
    let fed = fed_since before between after loop.kept loop.no_fault c.args.name.now g.H.Shelf.tells c.loop-done.done c.loop-done.reader (Some c.in-Ok-Some.place) c.feed_piece.new.reader (rw c.in-Ok-Some.field-0-is at step.fed) in
    record {
      within = fed.1;
      room = search rules;
      so_far = fed.2 loop.so_far;
      kept = stays_twice _ _ _ loop.kept step.reading.kept;
      no_fault = no_fault_twice before between after loop.no_fault step.reading.ok;
    }

pub returns-in-Ok-None-clause-enough : goal.returns-in-Ok-None-clause-enough
returns-in-Ok-None-clause-enough g c =
    let before = shelf_state g.H.Shelf c.args.shelf.now in
    let between = shelf_state g.H.Shelf c.loop-done.shelf in
    let after = shelf_state g.H.Shelf c.feed_piece.new.shelf in
    let loop = c.loop-done.invariant in
    fed_since before between after loop.kept loop.no_fault c.args.name.now g.H.Shelf.tells c.loop-done.done c.loop-done.reader None c.feed_piece.new.reader (rw c.in-Ok-None.field-0-is at c.in-Ok-None.ensures.fed) loop.so_far

pub returns-in-Ok-None-clause-reading : goal.returns-in-Ok-None-clause-reading
returns-in-Ok-None-clause-reading g c =
    let loop = c.loop-done.invariant in
    let step = c.in-Ok-None.ensures.reading in
    record { kept = stays_twice _ _ _ loop.kept step.kept; ok = no_fault_twice _ _ _ loop.no_fault step.ok; err = tt }

pub returns-in-Err-clause-reading : goal.returns-in-Err-clause-reading
returns-in-Err-clause-reading g c =
    let before = shelf_state g.H.Shelf c.args.shelf.now in
    let between = shelf_state g.H.Shelf c.loop-done.shelf in
    let after = shelf_state g.H.Shelf c.feed_piece.new.shelf in
    let loop = c.loop-done.invariant in
    let step = c.in-Err.ensures.reading in
    record { kept = stays_twice _ _ _ loop.kept step.kept; ok = tt; err = read_fault_twice before between after loop.kept loop.no_fault c.args.name.now c.in-Err.fault step.err }

pub returns-clause-reading : goal.returns-clause-reading
returns-clause-reading g c = record { kept = c.loop-done.invariant.kept; ok = c.loop-done.invariant.no_fault; err = tt }

pub returns-clause-enough : goal.returns-clause-enough
returns-clause-enough g c =
    let loop = c.loop-done.invariant in
    read_to_limit g.H.Shelf.tells (text_under (shelf_state g.H.Shelf c.args.shelf.now) c.args.name.now) c.loop-done.done c.loop-done.reader
    (omega (arith, loop.within, c.loop-done-test.false)) loop.so_far
