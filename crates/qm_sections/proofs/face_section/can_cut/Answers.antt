use Rattle.qm_sections.proofs.MapFaces.{planes_of_tree, book_gives}
use Rattle.qm_sections.proofs.face_section.can_cut.Goals as goal

pub returns-clause-planes : goal.returns-clause-planes
returns-clause-planes c = let parts = c.requires.parts in planes_of_tree c.args.map.now c.args.tree.now c.args.parts.now.book c.requires.surface parts.entered

pub returns-clause-filled : goal.returns-clause-filled
returns-clause-filled c = c.requires.parts.is_book

pub returns-clause-gives : goal.returns-clause-gives
returns-clause-gives c =
    let parts = c.requires.parts in
    book_gives c.args.map.now c.args.tree.now c.args.parts.now.book c.requires.surface parts.entered c.args.parts.now.list parts.solids

pub returns-clause-contacts : goal.returns-clause-contacts
returns-clause-contacts c = c.requires.parts.are_contacts
