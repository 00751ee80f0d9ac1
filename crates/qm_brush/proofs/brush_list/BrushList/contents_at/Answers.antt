use Rattle.qm_brush.proofs.EntryLists.{kept_entry, contents_more}
use Rattle.qm_brush.proofs.brush_list.BrushList.contents_at.Goals as goal

pub given_contents-requires-clause-kept : goal.given_contents-requires-clause-kept
given_contents-requires-clause-kept c =
    rw (c.planes-planes.ensures.value, c.as_slice-faces.ensures.value, c.deref-entry-items.ensures.value)
    (kept_entry c.args.book.now c.args.self.now c.self.inside.faces.items c.self.inside.entries.items c.loop-entry.entry-index _ c.self.view_is c.requires.filled.each
    (rw (← c.deref-entry-items.ensures.value) c.loop-entry-test.true))

pub loop-entry-preserved : goal.loop-entry-preserved
loop-entry-preserved c =
    contents_more c.planes-planes.result.now c.as_slice-faces.result.now c.deref-entry-items.result.now c.loop-entry.entry-index _ c.loop-entry-test.true
    c.args.at.now c.loop-entry.found c.given_contents.result c.stronger-found.result c.loop-entry.invariant c.given_contents.ensures
    c.stronger-found.ensures.one c.stronger-found.ensures.above_first c.stronger-found.ensures.above_second
