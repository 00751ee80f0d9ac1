use Rattle.std.proofs.Common.{Ok, refl, subst}
use Rattle.qm_shelf.specs.SeenForms.{shelf_state}
use Rattle.qm_shelf.specs.FaultMeans.{ReadFaultMeans}
use Rattle.qm_shelf.specs.declared.shelf.ShelfFault.{ShelfFault}
use Rattle.qm_make.specs.SeenFiles.{file_names}
use Rattle.qm_statement.specs.ComesOf.{read_fault}
use Rattle.qm_make.proofs.ReadMaps.{meant_valid}
use Rattle.qm_make.proofs.Outcomes.{cut_short, cut_short_on_err, map_fault_due}
use Rattle.qm_make.proofs.carrying_out.carry_out_command.Goals as goal

pub make_and_write-requires-clause-valid : goal.make_and_write-requires-clause-valid
make_and_write-requires-clause-valid g c κs within =
    meant_valid (shelf_state g.H.Shelf c.args.shelf.now) c.args.files.now.map_name.now (Ok c.in-Ok-Ok.map) (rw c.in-Ok-Ok.field-0-is at c.in-Ok-Ok.ensures.means)

pub returns-in-Ok-Ok-clause-due : goal.returns-in-Ok-Ok-clause-due
returns-in-Ok-Ok-clause-due g c =
    let read = c.in-Ok-Ok.ensures in
    (c.make_and_write.ensures (shelf_state g.H.Shelf c.args.shelf.now) refl read.reading.kept read.reading.ok (rw c.in-Ok-Ok.field-0-is at read.means)).due

pub returns-in-Ok-Ok-clause-memory : goal.returns-in-Ok-Ok-clause-memory
returns-in-Ok-Ok-clause-memory g c =
    let read = c.in-Ok-Ok.ensures in
    (c.make_and_write.ensures (shelf_state g.H.Shelf c.args.shelf.now) refl read.reading.kept read.reading.ok (rw c.in-Ok-Ok.field-0-is at read.means)).memory

pub returns-in-Ok-Err-clause-due : goal.returns-in-Ok-Err-clause-due
returns-in-Ok-Err-clause-due g c =
    let before = shelf_state g.H.Shelf c.args.shelf.now in
    let after = shelf_state g.H.Shelf c.read_map.new.shelf in
    let read = c.in-Ok-Err.ensures in
    map_fault_due before after c.args.command (file_names c.args.files.now) read.reading.kept c.in-Ok-Err.fault (rw c.in-Ok-Err.field-0-is at read.means) read.reading.ok c.map_fault.result c.map_fault.ensures

pub returns-in-Ok-Err-clause-memory : goal.returns-in-Ok-Err-clause-memory
returns-in-Ok-Err-clause-memory g c =
    let before = shelf_state g.H.Shelf c.args.shelf.now in
    let after = shelf_state g.H.Shelf c.read_map.new.shelf in
    let read = c.in-Ok-Err.ensures in
    cut_short_on_err before after c.args.command (file_names c.args.files.now) read.reading.kept read.reading.ok c.map_fault.result

pub returns-in-Err-Failed-clause-due : goal.returns-in-Err-Failed-clause-due
returns-in-Err-Failed-clause-due g c =
    let before = shelf_state g.H.Shelf c.args.shelf.now in
    let after = shelf_state g.H.Shelf c.read_map.new.shelf in
    let told = c.in-Err-Failed.ensures in
    read_fault (subst (λ (fault : ShelfFault). ReadFaultMeans before after c.args.files.now.map_name.now fault) c.in-Err-Failed.field-0-is told.reading.err) told.reading.kept

pub returns-in-Err-Memory-clause-memory : goal.returns-in-Err-Memory-clause-memory
returns-in-Err-Memory-clause-memory g c =
    let before = shelf_state g.H.Shelf c.args.shelf.now in
    let after = shelf_state g.H.Shelf c.read_map.new.shelf in
    let told = c.in-Err-Memory.ensures in
    cut_short before after c.args.command (file_names c.args.files.now) told.reading.kept
    (subst (λ (fault : ShelfFault). ReadFaultMeans before after c.args.files.now.map_name.now fault) c.in-Err-Memory.field-0-is told.reading.err)
