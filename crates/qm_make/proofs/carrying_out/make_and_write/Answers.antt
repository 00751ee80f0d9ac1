use Rattle.std.proofs.Common.{refl}
use Rattle.qm_shelf.specs.SeenForms.{shelf_state}
use Rattle.qm_make.specs.SeenFiles.{file_names}
use Rattle.qm_make.specs.inner.Made.{output_of}
use Rattle.qm_make.proofs.Outcomes.{written_ends}
use Rattle.qm_make.proofs.carrying_out.make_and_write.Goals as goal

pub returns : goal.returns
returns g c before tells_are kept no_fault means =
    let between = shelf_state g.H.Shelf c.args.shelf.now in
    let after = shelf_state g.H.Shelf c.write_product-written.new.shelf in
    written_ends before between after c.args.command (file_names c.args.files.now) c.args.map (output_of c.in_ok-product.product) tells_are kept no_fault means c.in_ok-product.ensures c.write_product-written.result c.in_ok-product.product.outcome refl refl c.write_product-written.ensures c.ended.result c.ended.ensures
