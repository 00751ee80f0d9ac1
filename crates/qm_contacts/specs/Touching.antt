use Rattle.std.specs.Prelude.{◌≡◌, ℕ, List, [], ◌∷◌, ◌↔◌}
use Rattle.qm_space.specs.Point.{Point}
use Rattle.qm_space.specs.Plane.{Plane}
use Rattle.qm_space.specs.Book.{plane_at}
use Rattle.qm_convex.specs.Winding.{Winding, HasEdgesAmong, IsInRegion, IsConvex}
use Rattle.qm_contacts.specs.Meeting.{Meeting}
use Rattle.qm_contacts.specs.Contact.{IsContact, bounds_of_contact}

-- The touching pairs of leaves, each with the polygon of the points at which the two touch.

-- a node and the leaves in front of it and behind it that touch there, by their numbers, and the polygon
pub record Touching : Type 0 where
  pub node : ℕ
  pub front : ℕ
  pub back : ℕ
  pub winding : Winding

-- the touching pair is that of the meeting, and the polygon is exactly the contact
pub record IsTouching (planes : List Plane) (meeting : Meeting) (touching : Touching) : Type 0 where
  pub node : touching.node ≡ meeting.node
  pub front : touching.front ≡ meeting.front.leaf
  pub back : touching.back ≡ meeting.back.leaf
  pub convex : IsConvex touching.winding
  pub plane : touching.winding.plane ≡ plane_at planes meeting.plane
  pub points : (x : Point) → IsInRegion touching.winding x ↔ IsContact planes meeting x
  pub edges : HasEdgesAmong touching.winding (bounds_of_contact planes meeting)

-- the leaves of a meeting do not touch
abbrev pub AreApart : List Plane → Meeting → Type 0
AreApart planes meeting = (x : Point) → IsContact planes meeting x → ⊥

-- of some meetings, in order, those whose leaves touch
pub data AreTouchings (planes : List Plane) : List Meeting → List Touching → Type 0 where
  none : AreTouchings planes [] []
  touching : {meeting : Meeting} {found : Touching} {meetings : List Meeting} {touchings : List Touching} →
      IsTouching planes meeting found → AreTouchings planes meetings touchings →
      AreTouchings planes (meeting ∷ meetings) (found ∷ touchings)
  apart : {meeting : Meeting} {meetings : List Meeting} {touchings : List Touching} →
      AreApart planes meeting → AreTouchings planes meetings touchings →
      AreTouchings planes (meeting ∷ meetings) touchings
