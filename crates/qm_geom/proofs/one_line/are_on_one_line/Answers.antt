use Rattle.std.proofs.Common.{◌≡◌, Bool, true, false, IsTrue, not, refl, sym, subst}
use Rattle.qm_space.specs.Reduced.{HasNormal}
use Rattle.qm_space.specs.Point.{Point, thousandths_point}
use Rattle.qm_space.specs.ThreePoints.{outward_plane}
use Rattle.qm_space.specs.Line.{AreOnOneLine}
use Rattle.qm_space.proofs.Lines.{HaveOneWeight, thousandths_weights}
use Rattle.qm_space.proofs.PlanesThroughPoints.{one_line_no_normal, no_normal_one_line, by_normal}
use Rattle.qm_geom.proofs.one_line.are_on_one_line.Goals as goal

-- whether there is a normal decides whether the points are on one line
decided : (p0 p1 p2 : Point) (found : Bool) → HaveOneWeight p0 p1 p2 → (HasNormal (outward_plane p0 p1 p2) → found ≡ true) → (found ≡ true → HasNormal (outward_plane p0 p1 p2)) → (IsTrue (not found) → AreOnOneLine p0 p1 p2) × (AreOnOneLine p0 p1 p2 → IsTrue (not found))
decided p0 p1 p2 true weights to from = (λ e. cc, λ line. let z = one_line_no_normal p0 p1 p2 weights line in absurd (from refl z.0 z.1 z.2))
decided p0 p1 p2 false weights to from =
    (λ _. no_normal_one_line p0 p1 p2 weights (by_normal (outward_plane p0 p1 p2) (λ n. let e = to n in cc) (λ z. z)), λ _. refl)

pub returns : goal.returns
returns c =
    decided (thousandths_point c.args.p0) (thousandths_point c.args.p1) (thousandths_point c.args.p2) c.has_normal.result (thousandths_weights c.args.p0 c.args.p1 c.args.p2)
    (λ n. c.has_normal.ensures.1 (subst HasNormal (sym c.outward.ensures.value) n))
    (λ e. subst HasNormal c.outward.ensures.value (c.has_normal.ensures.0 e))
