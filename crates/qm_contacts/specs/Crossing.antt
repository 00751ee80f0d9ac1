use Rattle.std.specs.Prelude.{◌≡◌, List, All, Contains, ◌++◌}
use Rattle.qm_space.specs.Point.{Point, IsInCube}
use Rattle.qm_space.specs.Plane.{Plane, IsOn, IsNotBehind}
use Rattle.qm_space.specs.Book.{plane_at}
use Rattle.qm_partition.specs.declared.step.Step.{Step}
use Rattle.qm_partition.specs.Ways.{cell_of_way}
use Rattle.qm_contacts.specs.Meeting.{Meeting}

-- a point at which one comes from the one leaf of a meeting to the other: on the plane that parts them, behind no plane
-- turned to either leaf, and on no other plane above them
pub record IsCrossing (planes : List Plane) (meeting : Meeting) (x : Point) : Type 0 where
  pub in_cube : IsInCube x
  pub on : IsOn (plane_at planes meeting.plane) x
  pub above : All (λ g. IsNotBehind g x) (cell_of_way planes meeting.above)
  pub in_front : All (λ g. IsNotBehind g x) (cell_of_way planes meeting.front.way)
  pub behind : All (λ g. IsNotBehind g x) (cell_of_way planes meeting.back.way)
  pub only : (step : Step) → Contains (meeting.above ++ (meeting.front.way ++ meeting.back.way)) step →
      IsOn (plane_at planes step.plane) x → plane_at planes step.plane ≡ plane_at planes meeting.plane
