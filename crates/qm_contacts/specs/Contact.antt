use Rattle.std.specs.Prelude.{◌≡◌, ◌⊎◌, ℕ, List, ◌++◌, Contains}
use Rattle.qm_space.specs.Point.{Point, IsInCube}
use Rattle.qm_space.specs.Plane.{Plane, IsOn}
use Rattle.qm_space.specs.Cube.{cube_walls}
use Rattle.qm_space.specs.Cell.{IsInCell}
use Rattle.qm_space.specs.Book.{plane_at}
use Rattle.qm_partition.specs.Tree.{Tree}
use Rattle.qm_partition.specs.Ways.{cell_of_way}
use Rattle.qm_contacts.specs.Meeting.{Meeting, meetings}

-- a point at which the two leaves of a meeting touch: inside the cube, on the plane that parts them, and strictly on
-- the side of each of them of all other planes above it
pub record IsContact (planes : List Plane) (meeting : Meeting) (x : Point) : Type 0 where
  pub in_cube : IsInCube x
  pub on : IsOn (plane_at planes meeting.plane) x
  pub above : IsInCell (cell_of_way planes meeting.above) x
  pub in_front : IsInCell (cell_of_way planes meeting.front.way) x
  pub behind : IsInCell (cell_of_way planes meeting.back.way) x

-- the planes by which the points of a contact are bounded on the plane that parts the leaves, each turned inward: the
-- walls of the cube, and the other planes above either leaf
abbrev pub bounds_of_contact : List Plane → Meeting → List Plane
bounds_of_contact planes meeting =
    cube_walls ++ (cell_of_way planes meeting.above ++ (cell_of_way planes meeting.front.way ++ cell_of_way planes meeting.back.way))

-- the leaf a, in front of the node that parts them, touches the leaf b behind it
pub record TouchAcross (tree : Tree) (a b : ℕ) : Type 0 where
  pub meeting : Meeting
  pub listed : Contains (meetings tree) meeting
  pub front : meeting.front.leaf ≡ a
  pub back : meeting.back.leaf ≡ b
  pub point : Point
  pub contact : IsContact tree.planes meeting point

-- two leaves touch, whichever is in front
abbrev pub Touch : Tree → ℕ → ℕ → Type 0
Touch tree a b = TouchAcross tree a b ⊎ TouchAcross tree b a
