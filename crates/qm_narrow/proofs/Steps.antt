-- Steps: what their cuts leave, once the planes are listed that cut, and the windings known that are cut.
use Rattle.std.proofs.Common.{◌≡◌, Option, Some, None, Result, IfOk, List, refl, sym, subst}
use Rattle.std.specs.Option.{MatchOption}
use Rattle.std.proofs.lemmas.Result.{IfOk-weaker}
use Rattle.qm_space.specs.Plane.{Plane, flipped}
use Rattle.qm_convex.specs.Winding.{Winding, IsConvex}
use Rattle.qm_convex.specs.Sides.{LiesIn, IsWhollyInFront}
use Rattle.qm_convex.specs.Cut.{IsPartInFront, IsPartWithin, HasNoneWithin}
use Rattle.qm_wind.specs.declared.winding.Clip.{Clip}
use Rattle.qm_wind.specs.declared.winding.Clip.TheVariants.{Whole, Gone, Cut}
use Rattle.qm_wind.specs.Clipped.{IsClip}
use Rattle.qm_separators.specs.Gains.{HasExactly}
use Rattle.qm_separators.specs.Separator.{IsSeparatorFrom}
use Rattle.qm_separators.specs.Part.{IsPartBy, HasNoPartBy}
use Rattle.qm_separators.specs.ChainState.{ChainState}
use Rattle.qm_separators.specs.ChainStep.{StepsTo, Blocks, second_cut}
use Rattle.qm_separators.specs.inner.Narrowed.{NarrowsTo, CutsAway, source_gone}
use Rattle.qm_separators.proofs.Parts.{part_within_list, no_part_within_list}
use Rattle.qm_convex.proofs.Cutting.{whole_is_part}
use Rattle.qm_separators.proofs.NarrowedSteps.{step_by}
use Rattle.qm_narrow.specs.inner.LastCut.{EndsAt}

-- what is left in front of planes

abbrev pub IsLeft : Winding → (Plane → Type 0) → Option Winding → Type 0
IsLeft v Has part = MatchOption part (HasNoPartBy v Has) (λ w. IsPartBy w v Has)

-- what is kept of a winding in front of listed planes
abbrev pub IsKept : Winding → List Plane → Option Winding → Type 0
IsKept v planes part = MatchOption part (HasNoneWithin v planes) (λ w. IsPartWithin w v planes)

-- it is left by what they are
pub kept_is_left : (v : Winding) (planes : List Plane) (Has : Plane → Type 0) → HasExactly Has planes → (part : Option Winding) → IsKept v planes part → IsLeft v Has part
kept_is_left v planes Has exactly None none = no_part_within_list v planes Has exactly none
kept_is_left v planes Has exactly (Some w) is = part_within_list w v planes Has exactly is

pub left_by : {E : Type 0} (answer : Result (Option Winding) E) (v : Winding) (planes listed : List Plane) (Has : Plane → Type 0) → HasExactly Has planes → listed ≡ planes → IfOk answer (IsKept v listed) → IfOk answer (IsLeft v Has)
left_by answer v planes listed Has exactly e = IfOk-weaker answer (IsKept v listed) (IsLeft v Has) (kept_is_left v listed Has (subst (HasExactly Has) (sym e) exactly))

pub left_some : (part : Option Winding) (v w : Winding) (Has : Plane → Type 0) → IsLeft v Has part → part ≡ Some w → IsPartBy w v Has
left_some part v w Has is e = subst (IsLeft v Has) e is

-- the last two cuts, by the last one

abbrev pub IsEnd : ChainState → Winding → Winding → Option ChainState → Type 0
IsEnd state near pass after = MatchOption after (HasNoPartBy near (IsSeparatorFrom state.pass pass)) (EndsAt state near pass)

abbrev pub IsNarrowed : ChainState → Winding → Winding → Option ChainState → Type 0
IsNarrowed state near far after = MatchOption after (CutsAway state near far) (NarrowsTo state near far)

-- the last one, where each separator of the pass has all of the winding in front
pub whole_end : (state : ChainState) (near pass : Winding) (next : ChainState) → IsConvex near → ((h : Plane) → IsSeparatorFrom state.pass pass h → IsWhollyInFront near h) → next ≡ record { source = near; into = state.into; pass = Some pass } → EndsAt state near pass next
whole_end state near pass next convex whole same = subst (EndsAt state near pass) (sym same) (record {
  pass_is = refl;
  source = record { convex = convex; plane = refl; points = λ p. ((λ r. (r, λ h is. whole h is p r)), (λ s. s.0)) };
  into_is = refl;
})

ended : (state : ChainState) (near far pass : Winding) → IsPartBy pass far (IsSeparatorFrom state.pass near) → (after : Option ChainState) → IsEnd state near pass after → IsNarrowed state near far after
ended state near far pass narrowed None gone = source_gone narrowed gone
ended state near far pass narrowed (Some next) ends = record { pass = pass; pass_is = ends.pass_is; narrowed = narrowed; source = ends.source; into_is = ends.into_is }

pub narrowed_by : {E : Type 0} (answer : Result (Option ChainState) E) (state : ChainState) (near far pass : Winding) → IsPartBy pass far (IsSeparatorFrom state.pass near) → IfOk answer (IsEnd state near pass) → IfOk answer (IsNarrowed state near far)
narrowed_by answer state near far pass narrowed = IfOk-weaker answer (IsEnd state near pass) (IsNarrowed state near far) (ended state near far pass narrowed)

-- the step, by what its first two cuts leave

module _ (state : ChainState) (target far : Winding) (into : Plane) (far_is : IsPartInFront far target state.into) (v : Winding) (source_is : v ≡ state.source) (clip : Clip) (is : IsClip clip v (flipped into)) where
  clipped : IsClip clip state.source (flipped into)
  clipped = subst (λ (w : Winding). IsClip clip w (flipped into)) source_is is

  pub blocked_where_gone : clip ≡ Gone → Blocks state target into
  blocked_where_gone e = second_cut (subst (λ (o : Clip). IsClip o state.source (flipped into)) e clipped)

  part_is : (near : Winding) → clip ≡ Cut near → IsPartInFront near state.source (flipped into)
  part_is near e = (subst (λ (o : Clip). IsClip o state.source (flipped into)) e clipped).0

  pub part_lies : (near : Winding) → clip ≡ Cut near → LiesIn state.source state.into → LiesIn near state.into
  part_lies near e lies p r = lies p (((part_is near e).points p).0 r).0

  abbrev pub IsStep : Option ChainState → Type 0
  IsStep after = MatchOption after (Blocks state target into) (StepsTo state target into)

  pub stepped_whole : {E : Type 0} (answer : Result (Option ChainState) E) → clip ≡ Whole → IsConvex state.source → IfOk answer (IsNarrowed state state.source far) → IfOk answer IsStep
  stepped_whole answer e convex = IfOk-weaker answer (IsNarrowed state state.source far) IsStep
      (step_by state target into state.source far far_is (whole_is_part state.source (flipped into) convex (subst (λ (o : Clip). IsClip o state.source (flipped into)) e clipped)))

  pub stepped_part : {E : Type 0} (answer : Result (Option ChainState) E) (near : Winding) → clip ≡ Cut near → IfOk answer (IsNarrowed state near far) → IfOk answer IsStep
  stepped_part answer near e = IfOk-weaker answer (IsNarrowed state near far) IsStep (step_by state target into near far far_is (part_is near e))
