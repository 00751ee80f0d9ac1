-- The section of a cell by its bounds.
use Rattle.std.proofs.Common.{◌≡◌, List, ◌++◌, All, Contains, sym, ◌∙◌, subst, ◌↔◌}
use Rattle.std.proofs.lemmas.List.Elements.{All-append}
use Rattle.qm_lists.proofs.Elements.{All-first_part, All-last_part}
use Rattle.qm_space.specs.Point.{Point}
use Rattle.qm_space.specs.Plane.{Plane, IsInFront}
use Rattle.qm_space.specs.Cell.{IsInCell}
use Rattle.qm_convex.specs.Winding.{Winding}
use Rattle.qm_convex.specs.Cut.{IsPartWithin}
use Rattle.qm_convex.specs.Section.{IsSection, MissesCell}
use Rattle.qm_convex.proofs.Among.{edges_among, edges_within}
use Rattle.qm_contacts.specs.inner.Due.{DueCell}
use Rattle.qm_portal.specs.inner.Cells.{CrossesCell, HasPointBefore}

module _ (cell : List Plane) (due : DueCell) (h : Plane) (crosses : CrossesCell cell due h) (axial slanted : List Plane) (parts : due.bounds ≡ axial ++ slanted) where
  -- the bounds are the axial ones and the slanted ones
  before_bounds : (x : Point) → IsInCell due.bounds x ↔ (IsInCell axial x × IsInCell slanted x)
  before_bounds x = (
    (λ r. let both = subst (λ (bounds : List Plane). IsInCell bounds x) parts r in (All-first_part (λ g. IsInFront g x) axial slanted both, All-last_part (λ g. IsInFront g x) axial slanted both)),
    (λ q. subst (λ (bounds : List Plane). IsInCell bounds x) (sym parts) (All-append (λ g. IsInFront g x) axial slanted q.0 q.1)),
  )

  crossing_before : IsInCell axial crosses.point × IsInCell slanted crosses.point
  crossing_before = (before_bounds crosses.point).0 ((crosses.bounds crosses.point (crosses.in_cube crosses.point crosses.inside).weight).0 crosses.inside)

  -- all of them are planes of the cell
  among : All (Contains cell) (axial ++ slanted)
  among = subst (All (Contains cell)) parts crosses.among

  -- the plane does not miss the cell of the axial ones
  pub crosses_axial : MissesCell axial h → ⊥
  crosses_axial misses = misses crosses.point (crosses.in_cube crosses.point crosses.inside).weight crosses.on crossing_before.0

  module _ (whole : Winding) (is : IsSection axial h whole) where
    -- some of its section there is before all slanted ones
    pub point_before_slanted : HasPointBefore whole slanted
    point_before_slanted = (crosses.point, (is.points crosses.point).1 (crosses.on, crossing_before.0), crossing_before.1)

    -- and what they leave of it is the section
    pub section_by_bounds : (section : Winding) → IsPartWithin section whole slanted → IsSection cell h section
    section_by_bounds section part = record {
      convex = part.convex;
      plane = part.plane ∙ is.plane;
      points = λ x. (
        (λ r. let q = (part.points x).0 r in let s = (is.points x).0 q.0 in (s.0, (crosses.bounds x r.weight).1 ((before_bounds x).1 (s.1, q.1)))),
        (λ q. let both = (before_bounds x).0 ((crosses.bounds x (crosses.in_cube x q.1).weight).0 q.1) in (part.points x).1 ((is.points x).1 (q.0, both.0), both.1)),
      );
      edges = edges_within section whole slanted cell part (All-last_part (Contains cell) axial slanted among)
          (edges_among whole axial cell (All-first_part (Contains cell) axial slanted among) is.edges);
    }
