use Rattle.std.proofs.Common.{◌≡◌, ◌∙◌, List, ℤ, true, false, Some, ap, subst, sym}
use Rattle.qm_grammar.specs.declared.refusal.Refusal.TheVariants as refusal
use Rattle.qm_grammar.specs.inner.Machine.{give_plane, plane_refusal}
use Rattle.qm_map.proofs.NinePoints.{gives, on_line_refused, fine_refused, nine_points, HasThreePoints}
use Rattle.qm_map.proofs.face.refusal_of_points.Goals as goal

pub fault_through-requires-clause-p0_in_cube : goal.fault_through-requires-clause-p0_in_cube
fault_through-requires-clause-p0_in_cube c =
    (subst HasThreePoints (sym c.points_of.ensures) (nine_points c.args.numbers.now c.requires.nine c.requires.in_cube)).first

pub fault_through-requires-clause-p1_in_cube : goal.fault_through-requires-clause-p1_in_cube
fault_through-requires-clause-p1_in_cube c =
    (subst HasThreePoints (sym c.points_of.ensures) (nine_points c.args.numbers.now c.requires.nine c.requires.in_cube)).second

pub fault_through-requires-clause-p2_in_cube : goal.fault_through-requires-clause-p2_in_cube
fault_through-requires-clause-p2_in_cube c =
    (subst HasThreePoints (sym c.points_of.ensures) (nine_points c.args.numbers.now c.requires.nine c.requires.in_cube)).third

pub returns-in-None : goal.returns-in-None
returns-in-None c =
    subst (λ (points : List (List ℤ)). give_plane points ≡ true) c.points_of.ensures
    (gives c.points_of.result c.in-None.ensures.no_normal c.in-None.ensures.too_fine)

pub returns-in-Some-NoNormal : goal.returns-in-Some-NoNormal
returns-in-Some-NoNormal c =
    subst (λ (points : List (List ℤ)). (give_plane points ≡ false) × (refusal.NoNormal ≡ plane_refusal points)) c.points_of.ensures
    (on_line_refused c.points_of.result (c.fault_through.ensures.no_normal.0 (c.in-Some-NoNormal.is ∙ ap Some c.in-Some-NoNormal.field-0-is)))

pub returns-in-Some-TooFine : goal.returns-in-Some-TooFine
returns-in-Some-TooFine c =
    subst (λ (points : List (List ℤ)). (give_plane points ≡ false) × (refusal.PlaneTooFine ≡ plane_refusal points)) c.points_of.ensures
    (fine_refused c.points_of.result (c.fault_through.ensures.too_fine.0 (c.in-Some-TooFine.is ∙ ap Some c.in-Some-TooFine.field-0-is)))
