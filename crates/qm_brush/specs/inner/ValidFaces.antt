use Rattle.std.specs.Prelude.{◌≤◌, List, length, sum_by, All}
use Rattle.qm_mapfile.specs.declared.entity.Brush.{Brush}
use Rattle.qm_grammar.specs.Valid.{IsValidFace, face_limit}

-- some brushes have valid faces, and together no more than a map has
pub record HaveValidFaces (brushes : List Brush) : Type 0 where
  pub each : All (λ brush. All IsValidFace brush.faces) brushes
  pub few : sum_by (λ brush. length brush.faces) brushes ≤ face_limit
