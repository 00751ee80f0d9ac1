-- Steps do not depend on how windings are written: from states with the same points they lead to states with the same points,
-- and where one leads on, none blocks.
use Rattle.std.proofs.Common.{◌≡◌, Option, Some, None, refl, sym, subst, ◌∙◌, arith, ◌↔◌}
use Rattle.qm_numbers.proofs.IntegerProducts.{linear}
use Rattle.qm_space.specs.Plane.{Plane, IsInFront, flipped}
use Rattle.qm_convex.specs.Winding.{Winding, IsConvex}
use Rattle.qm_convex.specs.Sides.{IsWhollyInFront}
use Rattle.qm_convex.specs.Cut.{IsPartInFront}
use Rattle.qm_convex.proofs.Central.{middle, middle_in_region}
use Rattle.qm_separators.specs.Separator.{IsSeparatorFrom}
use Rattle.qm_separators.specs.Part.{HasSameRegion, IsPartBy}
use Rattle.qm_separators.specs.ChainState.{ChainState, IsChainState}
use Rattle.qm_separators.specs.ChainStep.{IsCutByPlanes, StepsTo, Blocks, first_cut, second_cut, third_cut, fourth_cut}
use Rattle.qm_separators.proofs.SameCorners.{same_back}
use Rattle.qm_separators.proofs.SameSeparators.{separator_too}
use Rattle.qm_separators.proofs.StepLaw.{IsConvexPass}

-- ---- the same parts

pub part_too : (v w a b : Winding) (g : Plane) → HasSameRegion v w → IsPartInFront a v g → IsPartInFront b w g → HasSameRegion a b
part_too v w a b g same first second p = (
  (λ r. let s = (first.points p).0 r in (second.points p).1 ((same p).0 s.0, s.1)),
  (λ r. let s = (second.points p).0 r in (first.points p).1 ((same p).1 s.0, s.1)),
)

pub part_by_too : (v w a b : Winding) (Has Having : Plane → Type 0) → HasSameRegion v w → ((h : Plane) → Has h ↔ Having h) → IsPartBy a v Has → IsPartBy b w Having → HasSameRegion a b
part_by_too v w a b Has Having same alike first second p = (
  (λ r. let s = (first.points p).0 r in (second.points p).1 ((same p).0 s.0, λ h having. s.1 h ((alike h).1 having))),
  (λ r. let s = (second.points p).0 r in (first.points p).1 ((same p).1 s.0, λ h has. s.1 h ((alike h).0 has))),
)

-- ---- states with the same points

pub data IsSamePass : Option Winding → Option Winding → Type 0 where
  no_pass : IsSamePass None None
  same_pass : {p q : Winding} → HasSameRegion p q → IsSamePass (Some p) (Some q)

pub record IsSameState (a b : ChainState) : Type 0 where
  pub source : HasSameRegion a.source b.source
  pub into : a.into ≡ b.into
  pub pass : IsSamePass a.pass b.pass

pub separator_from_too : (a b : Option Winding) (v w : Winding) → IsSamePass a b → IsConvexPass a → IsConvexPass b → IsConvex v → IsConvex w → HasSameRegion v w → (h : Plane) → IsSeparatorFrom a v h → IsSeparatorFrom b w h
separator_from_too None None v w no_pass a_convex b_convex v_convex w_convex same h is = is
separator_from_too (Some p) (Some q) v w (same_pass passes) a_convex b_convex v_convex w_convex same h is = separator_too v w p q v_convex w_convex a_convex b_convex same passes h is
separator_from_too None (Some q) v w other a_convex b_convex v_convex w_convex same h is = elim other [ ]
separator_from_too (Some p) None v w other a_convex b_convex v_convex w_convex same h is = elim other [ ]

pass_back : (a b : Option Winding) → IsSamePass a b → IsSamePass b a
pass_back None None no_pass = no_pass
pass_back (Some p) (Some q) (same_pass passes) = same_pass (same_back p q passes)
pass_back None (Some q) other = elim other [ ]
pass_back (Some p) None other = elim other [ ]

-- both ways
separators_alike : (a b : Option Winding) (v w : Winding) → IsSamePass a b → IsConvexPass a → IsConvexPass b → IsConvex v → IsConvex w → HasSameRegion v w → (h : Plane) → IsSeparatorFrom a v h ↔ IsSeparatorFrom b w h
separators_alike a b v w same a_convex b_convex v_convex w_convex region h = (separator_from_too a b v w same a_convex b_convex v_convex w_convex region h, separator_from_too b a w v (pass_back a b same) b_convex a_convex w_convex v_convex (same_back v w region) h)

-- ---- the same steps

module _ (a b : ChainState) (target other : Winding) (into : Plane) (next : ChainState) (a_valid : IsChainState a) (b_valid : IsChainState b) (same : IsSameState a b) (targets : HasSameRegion target other) (leads : StepsTo a target into next) where
  module _ (near far : Winding) (cut : IsCutByPlanes b other into near far) where
    same_near : HasSameRegion leads.near near
    same_near = part_too a.source b.source leads.near near (flipped into) same.source leads.cut.near_is cut.near_is

    same_far : HasSameRegion leads.far far
    same_far = part_too target other leads.far far a.into targets leads.cut.far_is (subst (λ (g : Plane). IsPartInFront far other g) (sym same.into) cut.far_is)

    near_separators : (h : Plane) → IsSeparatorFrom a.pass leads.near h ↔ IsSeparatorFrom b.pass near h
    near_separators = separators_alike a.pass b.pass leads.near near same.pass a_valid.pass_convex b_valid.pass_convex leads.cut.near_is.convex cut.near_is.convex same_near

    module _ (pass : Winding) (narrowed : IsPartBy pass far (IsSeparatorFrom b.pass near)) where
      same_narrowed : HasSameRegion leads.pass pass
      same_narrowed = part_by_too leads.far far leads.pass pass (IsSeparatorFrom a.pass leads.near) (IsSeparatorFrom b.pass near) same_far near_separators leads.narrowed narrowed

      pass_separators : (h : Plane) → IsSeparatorFrom a.pass leads.pass h ↔ IsSeparatorFrom b.pass pass h
      pass_separators = separators_alike a.pass b.pass leads.pass pass same.pass a_valid.pass_convex b_valid.pass_convex leads.narrowed.convex narrowed.convex same_narrowed

  -- the states to which they lead have the same points
  pub next_too : (after : ChainState) → StepsTo b other into after → IsSameState next after
  next_too after also = record {
    source = part_by_too leads.near also.near next.source after.source (IsSeparatorFrom a.pass leads.pass) (IsSeparatorFrom b.pass also.pass) (same_near also.near also.far also.cut) (pass_separators also.near also.far also.cut also.pass also.narrowed) leads.source also.source;
    into = leads.into_is ∙ same.into ∙ sym also.into_is;
    pass = subst (λ (p : Option Winding). IsSamePass next.pass p) (sym also.pass_is) (subst (λ (p : Option Winding). IsSamePass p (Some also.pass)) (sym leads.pass_is) (same_pass (same_narrowed also.near also.far also.cut also.pass also.narrowed)));
  }

  -- and neither blocks
  pub leads_not_blocks : Blocks b other into → ⊥
  leads_not_blocks (first_cut none) =
      let its = (leads.cut.far_is.points (middle leads.far)).0 (middle_in_region leads.far leads.cut.far_is.convex) in
      let l = none (middle leads.far) ((targets (middle leads.far)).0 its.0) in
      let f = subst (λ (g : Plane). IsInFront g (middle leads.far)) same.into its.1 in
      omega (arith, linear)
  leads_not_blocks (second_cut none) =
      let its = (leads.cut.near_is.points (middle leads.near)).0 (middle_in_region leads.near leads.cut.near_is.convex) in
      let l = none (middle leads.near) ((same.source (middle leads.near)).0 its.0) in
      let f = its.1 in
      omega (arith, linear)
  leads_not_blocks (third_cut {near = near} {far = far} cut none) =
      let m = middle leads.pass in
      let its = (leads.narrowed.points m).0 (middle_in_region leads.pass leads.narrowed.convex) in
      none m ((same_far near far cut m).0 its.0) (λ h is. its.1 h ((near_separators near far cut h).1 is))
  leads_not_blocks (fourth_cut {near = near} {far = far} {pass = pass} cut narrowed none) =
      let m = middle next.source in
      let its = (leads.source.points m).0 (middle_in_region next.source leads.source.convex) in
      none m ((same_near near far cut m).0 its.0) (λ h is. its.1 h ((pass_separators near far cut pass narrowed h).1 is))

-- ---- from one state

same_itself : (v : Winding) → HasSameRegion v v
same_itself v p = ((λ r. r), (λ r. r))

pass_itself : (a : Option Winding) → IsSamePass a a
pass_itself None = no_pass
pass_itself (Some p) = same_pass (same_itself p)

pub state_itself : (a : ChainState) → IsSameState a a
state_itself a = record { source = same_itself a.source; into = refl; pass = pass_itself a.pass }

-- a step leads to one state, up to how its windings are written
pub leads_to_one : (state : ChainState) (target : Winding) (into : Plane) (next after : ChainState) → IsChainState state → StepsTo state target into next → StepsTo state target into after → IsSameState next after
leads_to_one state target into next after valid leads also = next_too state state target target into next valid valid (state_itself state) (same_itself target) leads after also

-- a step does not both lead on and block
pub leads_or_blocks : (state : ChainState) (target : Winding) (into : Plane) (next : ChainState) → IsChainState state → StepsTo state target into next → Blocks state target into → ⊥
leads_or_blocks state target into next valid leads blocks = leads_not_blocks state state target target into next valid valid (state_itself state) (same_itself target) leads blocks

-- ---- separators that are kept

-- where the second cut of a step leaves the source whole, the separators of what it leaves are those of the source
pub separators_kept : (state : ChainState) (near : Winding) (g : Plane) → IsChainState state → IsPartInFront near state.source g → IsWhollyInFront state.source g → (h : Plane) → IsSeparatorFrom state.pass state.source h ↔ IsSeparatorFrom state.pass near h
separators_kept state near g valid is whole =
    separators_alike state.pass state.pass state.source near (pass_itself state.pass) valid.pass_convex valid.pass_convex valid.source_convex is.convex
    (λ p. ((λ r. (is.points p).1 (r, whole p r)), (λ r. ((is.points p).0 r).0)))
