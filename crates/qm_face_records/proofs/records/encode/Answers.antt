use Rattle.qm_face_records.proofs.NumberedPieces.{pieces_have_numbers}
use Rattle.qm_face_records.proofs.records.encode.Goals as goal

pub records_of-requires : goal.records_of-requires
records_of-requires c = pieces_have_numbers c.args.book.now c.args.pieces.now c.requires
