use Rattle.std.specs.Prelude.{ℤ, pos, ◌*ℤ◌, List, [], ◌∷◌, codes}
use Rattle.std.specs.Prelude.{map as mapped}
use Rattle.qm_mapfile.specs.declared.entity.Brush.{Brush}
use Rattle.qm_mapfile.specs.declared.face.Face.{Face}
use Rattle.qm_mapfile.specs.declared.face.Mapping.{Mapping}
use Rattle.qm_mapfile.specs.declared.face.Mapping.TheVariants.{Standard}

-- Boxes of stone.

-- a box between its least corner and its greatest, in map units
pub record StoneBox : Type 0 where
  pub west : ℤ
  pub south : ℤ
  pub bottom : ℤ
  pub east : ℤ
  pub north : ℤ
  pub top : ℤ

-- three coordinates of a point, or three points of a face
abbrev pub triple : {X : Type 0} → X → X → X → List X
triple first second third = first ∷ second ∷ third ∷ []

-- one map unit, in thousandths
abbrev pub unit : ℤ
unit = pos 1000

-- the points of a face to each side, in thousandths of a map unit; its place across the axis is given in map units
abbrev pub points_west : ℤ → List (List ℤ)
points_west at = triple (triple (unit *ℤ at) (pos 0) (pos 0)) (triple (unit *ℤ at) unit (pos 0)) (triple (unit *ℤ at) (pos 0) unit)

abbrev pub points_east : ℤ → List (List ℤ)
points_east at = triple (triple (unit *ℤ at) (pos 0) (pos 0)) (triple (unit *ℤ at) (pos 0) unit) (triple (unit *ℤ at) unit (pos 0))

abbrev pub points_south : ℤ → List (List ℤ)
points_south at = triple (triple (pos 0) (unit *ℤ at) (pos 0)) (triple (pos 0) (unit *ℤ at) unit) (triple unit (unit *ℤ at) (pos 0))

abbrev pub points_north : ℤ → List (List ℤ)
points_north at = triple (triple (pos 0) (unit *ℤ at) (pos 0)) (triple unit (unit *ℤ at) (pos 0)) (triple (pos 0) (unit *ℤ at) unit)

abbrev pub points_bottom : ℤ → List (List ℤ)
points_bottom at = triple (triple (pos 0) (pos 0) (unit *ℤ at)) (triple unit (pos 0) (unit *ℤ at)) (triple (pos 0) unit (unit *ℤ at))

abbrev pub points_top : ℤ → List (List ℤ)
points_top at = triple (triple (pos 0) (pos 0) (unit *ℤ at)) (triple (pos 0) unit (unit *ℤ at)) (triple unit (pos 0) (unit *ℤ at))

-- the points of a box's faces: to the west, east, south, north, bottom and top
unfoldable pub face_points : StoneBox → List (List (List ℤ))
face_points box =
    points_west box.west ∷ points_east box.east ∷ points_south box.south ∷ points_north box.north
    ∷ points_bottom box.bottom ∷ points_top box.top ∷ []

-- a texture that is neither moved nor turned nor scaled
unfoldable pub plain_mapping : Mapping
plain_mapping = Standard (codes "0" ∷ codes "0" ∷ codes "0" ∷ codes "1" ∷ codes "1" ∷ [])

-- a face of stone through three points
unfoldable pub stone_face : List (List ℤ) → Face
stone_face points = record { points = points; texture = codes "stone"; mapping = plain_mapping }

unfoldable pub box_brush : StoneBox → Brush
box_brush box = record { faces = mapped stone_face (face_points box) }
