use Rattle.qm_shelf.specs.SeenForms.{shelf_state}
use Rattle.qm_shelf.proofs.Counted.{write_fault_since}
use Rattle.qm_shelf.proofs.writing.write_whole.Goals as goal

pub returns-in-Err-clause-err : goal.returns-in-Err-clause-err
returns-in-Err-clause-err g c =
    let told = c.in-Err.ensures in
    write_fault_since (shelf_state g.H.Shelf c.args.shelf.now) (shelf_state g.H.Shelf c.loop-written.shelf) (shelf_state g.H.Shelf c.append_piece.new.shelf) c.in-Err.fault c.args.name.now c.loop-written.invariant.no_fault told.write_faults_counted told.read_faults_stay
