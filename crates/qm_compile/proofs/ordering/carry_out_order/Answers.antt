use Rattle.qm_shelf.specs.SeenForms.{shelf_state}
use Rattle.qm_compile.proofs.ordering.carry_out_order.Goals as goal

pub carry_out_on_files-requires-clause-of_words : goal.carry_out_on_files-requires-clause-of_words
carry_out_on_files-requires-clause-of_words g c κs within = rw c.is_some.ensures (rw c.in-Compile.is at c.requires.of_words)

pub returns-in-Compile : goal.returns-in-Compile
returns-in-Compile g c = rw c.in-Compile.is (rw c.is_some.ensures at c.carry_out_on_files.ensures)

pub carry_out_on_files-requires-in-Format-clause-of_words : goal.carry_out_on_files-requires-in-Format-clause-of_words
carry_out_on_files-requires-in-Format-clause-of_words g c κs within = rw c.in-Format.is at c.requires.of_words

pub returns-in-Format : goal.returns-in-Format
returns-in-Format g c = rw c.in-Format.is c.carry_out_on_files-in-Format.ensures

pub returns-in-Inspect : goal.returns-in-Inspect
returns-in-Inspect g c = rw c.in-Inspect.is (rw c.deref.ensures.value at c.inspect.ensures)

pub returns-in-Demo : goal.returns-in-Demo
returns-in-Demo g c = rw c.in-Demo.is (c.sum_up.ensures (shelf_state g.H.Shelf c.args.shelf.now))

pub returns-in-Upgrade : goal.returns-in-Upgrade
returns-in-Upgrade g c = rw c.in-Upgrade.is c.upgrade_tree.ensures
