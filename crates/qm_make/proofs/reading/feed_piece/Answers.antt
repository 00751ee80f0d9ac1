use Rattle.std.proofs.Common.{ℕ, Ok, ap, refl, take, arith}
use Rattle.qm_shelf.specs.SeenForms.{shelf_state}
use Rattle.qm_shelf.proofs.Counted.{read_fault_since}
use Rattle.qm_surroundings.specs.ShelfState.{text_under}
use Rattle.qm_make.proofs.ReadMaps.{read_to_end, fed_piece}
use Rattle.qm_make.proofs.reading.feed_piece.Goals as goal

pub returns-in-Ok-eq0-clause-fed : goal.returns-in-Ok-eq0-clause-fed
returns-in-Ok-eq0-clause-fed g c =
    let whole = text_under (shelf_state g.H.Shelf c.args.shelf.now) c.args.name.now in
    read_to_end g.H.Shelf.tells whole c.args.done c.args.reader.now c.requires.within
    (λ tells. c.in-Ok-eq0.ensures.progress tells (ap (λ (n : ℕ). Ok n) c.in-Ok-eq0.field-0-test))

pub returns-in-Ok-clause-fed : goal.returns-in-Ok-clause-fed
returns-in-Ok-clause-fed g c =
    let whole = text_under (shelf_state g.H.Shelf c.args.shelf.now) c.args.name.now in
    let count = c.in-Ok.count in
    fed_piece g.H.Shelf.tells whole c.args.done count c.args.reader.now (take count c.read_piece.new.piece) c.in-Ok.ensures.bytes (let h = c.in-Ok.count-test in let k = c.in-Ok.count-is in omega (arith, h)) c.in-Ok.ensures.limit c.feed.result c.feed.new.reader c.feed.ensures

pub returns-in-Ok-eq0-clause-reading : goal.returns-in-Ok-eq0-clause-reading
returns-in-Ok-eq0-clause-reading g c =
    let told = c.in-Ok-eq0.ensures in
    record { kept = told.held_stays; ok = record { reads = told.read_faults_counted; writes = told.write_faults_stay }; err = tt }

pub returns-in-Ok-clause-reading : goal.returns-in-Ok-clause-reading
returns-in-Ok-clause-reading g c =
    let told = c.in-Ok.ensures in
    record { kept = told.held_stays; ok = record { reads = told.read_faults_counted; writes = told.write_faults_stay }; err = tt }

pub returns-in-Err-clause-reading : goal.returns-in-Err-clause-reading
returns-in-Err-clause-reading g c =
    let before = shelf_state g.H.Shelf c.args.shelf.now in
    let after = shelf_state g.H.Shelf c.read_piece.new.shelf in
    let told = c.in-Err.ensures in
    record {
      kept = told.held_stays;
      ok = tt;
      err = read_fault_since before before after c.in-Err.fault c.args.name.now (record { reads = λ name. refl; writes = λ name. refl }) told.read_faults_counted told.write_faults_stay;
    }
