use Rattle.std.proofs.Common.{All, take}
use Rattle.qm_sections.specs.inner.SmallPieces.{IsSmallPiece}
use Rattle.qm_sections.proofs.face_section.pieces_fit.Given as goal

-- the first pieces are so
abbrev pub invariant-loop-piece : goal.invariant-loop-piece
invariant-loop-piece l = All IsSmallPiece (take l.piece-index l.pieces)
