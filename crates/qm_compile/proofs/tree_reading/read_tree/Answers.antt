use Rattle.std.proofs.Common.{ℕ, List, subst}
use Rattle.qm_shelf.specs.SeenForms.{shelf_state}
use Rattle.qm_compile.specs.inner.TreeRead.{IsReadOfBytes}
use Rattle.qm_compile.proofs.TreesRead.{read_under}
use Rattle.qm_compile.proofs.tree_reading.read_tree.Goals as goal

pub returns-in-Ok : goal.returns-in-Ok
returns-in-Ok g c =
    let before = shelf_state g.H.Shelf c.args.shelf.now in
    let after = shelf_state g.H.Shelf c.read_whole.new.shelf in
    let told = c.in-Ok.ensures in
    read_under before c.args.tree_name.now c.in-Ok.bytes.items told.bytes after (record { kept = told.kept; no_fault = told.ok }) c.read_bytes.result
    (subst (λ (bytes : List ℕ). IsReadOfBytes bytes c.read_bytes.result) c.deref.ensures.value c.read_bytes.ensures)

pub returns-in-Err-Failed : goal.returns-in-Err-Failed
returns-in-Err-Failed g c = let told = rw c.in-Err-Failed.field-0-is at c.in-Err-Failed.ensures in (told.err, told.kept)

pub returns-in-Err-Memory : goal.returns-in-Err-Memory
returns-in-Err-Memory g c = let told = rw c.in-Err-Memory.field-0-is at c.in-Err-Memory.ensures in record { kept = told.kept; no_fault = told.err }
