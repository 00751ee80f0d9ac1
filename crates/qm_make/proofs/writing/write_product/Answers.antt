use Rattle.std.proofs.Common.{refl, inl}
use Rattle.qm_shelf.specs.SeenForms.{shelf_state}
use Rattle.qm_make.specs.SeenFiles.{file_names}
use Rattle.qm_make.specs.inner.Made.{output_of}
use Rattle.qm_make.proofs.Writings.{listing_ends}
use Rattle.qm_make.proofs.writing.write_product.Goals as goal

pub returns-in-Ok : goal.returns-in-Ok
returns-in-Ok g c =
    let before = shelf_state g.H.Shelf c.args.shelf.now in
    let between = shelf_state g.H.Shelf c.write_whole.new.shelf in
    let after = shelf_state g.H.Shelf c.write_listing.new.shelf in
    let wrote = c.in-Ok.ensures in
    let whole = rw c.deref.ensures.value at wrote.whole in
    listing_ends before between after (file_names c.args.files.now) (output_of c.args.product.now) c.requires refl wrote.kept_elsewhere whole wrote.ok _ refl _ refl c.write_listing.result c.write_listing.ensures

pub returns-in-Err : goal.returns-in-Err
returns-in-Err g c =
    let before = shelf_state g.H.Shelf c.args.shelf.now in
    let after = shelf_state g.H.Shelf c.write_whole.new.shelf in
    let told = c.in-Err.ensures in
    let part = rw c.deref.ensures.value at told.unfinished in
    inl (record { others = told.kept_elsewhere; part = part; means = told.err })
