use Rattle.std.specs.Prelude.{◌≡◌, pos, ◌<ℤ◌}
use Rattle.qm_space.specs.Point.{Point}
use Rattle.qm_space.specs.Plane.{Plane}
use Rattle.qm_space.specs.Line.{IsBetween}
use Rattle.qm_space.specs.Cuboid.{Cuboid, IsInCuboid, least_product, greatest_product, least_value, greatest_value}
use Rattle.qm_convex.specs.Winding.{Winding, IsInRegion}
use Rattle.qm_narrow.specs.declared.beam.Beam.{Beam}
use Rattle.qm_narrow.specs.declared.crossing.Crossing.{Crossing}

-- Beams of lines, and what they go through.

-- some line from the point goes through the pass, and then through the target
pub record SeesThrough (pass target : Winding) (p : Point) : Type 0 where
  pub first : Point
  pub second : Point
  pub in_pass : IsInRegion pass first
  pub in_target : IsInRegion target second
  pub between : IsBetween first second p

-- from each point of the cuboid some line does
unfoldable pub AllSee : Cuboid → Winding → Winding → Type 0
AllSee cuboid pass target = (p : Point) → pos 0 <ℤ p.w → IsInCuboid cuboid p → SeesThrough pass target p

-- the beam has the line from p to q
pub record IsOfBeam (beam : Beam) (p q : Point) : Type 0 where
  pub from_weight : pos 0 <ℤ p.w
  pub to_weight : pos 0 <ℤ q.w
  pub from : IsInCuboid beam.from p
  pub to : IsInCuboid beam.to q

-- the lines of the beam go from behind the plane to in front of it, and have these values there
pub record IsBeamCrossing (h : Plane) (beam : Beam) (crossing : Crossing) : Type 0 where
  pub least_is : crossing.least ≡ least_value h beam.from
  pub greatest_is : crossing.greatest ≡ greatest_value h beam.from
  pub end_least_is : crossing.end_least ≡ least_value h beam.to
  pub end_greatest_is : crossing.end_greatest ≡ greatest_value h beam.to
  pub behind : crossing.greatest <ℤ pos 0
  pub in_front : pos 0 <ℤ crossing.end_least

-- where lines cross a plane so, they do in front of the plane g, as its least values tell where they begin and where they end
unfoldable pub IsCrossedAhead : Crossing → Beam → Plane → Type 0
IsCrossedAhead crossing beam g =
    greatest_product (least_value g beam.to) (record { low = crossing.least; high = crossing.greatest })
    <ℤ least_product (least_value g beam.from) (record { low = crossing.end_least; high = crossing.end_greatest })
