use Rattle.std.specs.Prelude.{◌<◌, ◌^◌}
use Rattle.qm_surface.specs.Surface.{FacePiece}

-- the numbers of a piece fit into its record
pub record IsSmallPiece (piece : FacePiece) : Type 0 where
  pub leaf_fits : piece.leaf < 2 ^ 64
  pub brush_fits : piece.brush < 2 ^ 64
  pub face_fits : piece.face < 2 ^ 32
