use Rattle.std.proofs.Common.{◌≡◌, take}
use Rattle.qm_space.specs.Bounds.{world_extent}
use Rattle.qm_face_sections.specs.FaceRecords.{AreRecordsOf}
use Rattle.qm_face_records.proofs.records.records_of.Given as goal

-- the records of the first pieces are there, by numbers of the book's planes
abbrev pub invariant-loop-piece : goal.invariant-loop-piece
invariant-loop-piece l = record {
  same : l.numbers ≡ l.book;
  are : AreRecordsOf l.book world_extent (take l.piece-index l.pieces) l.records.items;
}
