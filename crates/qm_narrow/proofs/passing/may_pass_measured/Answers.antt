use Rattle.std.proofs.Common.{◌≡◌, ◌∙◌, true, false, Option, sym, subst}
use Rattle.std.specs.Option.{MatchOption}
use Rattle.qm_space.specs.Plane.{Plane}
use Rattle.qm_convex.specs.Winding.{Winding, IsConvex}
use Rattle.qm_convex.specs.Sides.{HasCornerInFront, HasCornerBehind}
use Rattle.qm_wind.specs.declared.pane.Pane.{Pane}
use Rattle.qm_separators.specs.inner.Found.{HasCornersBeyond}
use Rattle.qm_narrow.proofs.FilledCuboids.{in_front_by_reach, reach_by_front, beyond_by_reach, reach_by_beyond}
use Rattle.qm_narrow.proofs.passing.may_pass_measured.Goals as goal

pub returns-then-not-reaches_all : goal.returns-then-not-reaches_all
returns-then-not-reaches_all c =
    let pane = c.args.pane.now in
    let convex = subst (λ (p : Pane). IsConvex p.winding) c.pane.ensures c.len-corners.ensures.in_world.convex in (
      (λ told. let never : false ≡ true = told in cc),
      (λ may. sym c.if-not-reaches_all.true
          ∙ c.reaches_all.ensures.1 (reach_by_beyond pane.winding c.measure-extent.result.now.cuboid convex c.measure-extent.ensures.within c.separators-planes.result.now (λ h there. may.beyond h ((c.separators-planes.ensures h).0 there)))),
    )

pub returns-then-not-pass_is_behind : goal.returns-then-not-pass_is_behind
returns-then-not-pass_is_behind c = (
  (λ told. let never : false ≡ true = told in cc),
  (λ may. sym c.if-not-pass_is_behind.true
      ∙ c.pass_is_behind.ensures.1 (subst (λ (pass : Option Winding). MatchOption pass (Unit {0}) (λ p. HasCornerBehind p c.measure-extent.result.now.into)) (sym c.pass.ensures.value)
      (subst (λ (into : Plane). MatchOption c.args.state.now.pass (Unit {0}) (λ p. HasCornerBehind p into)) (sym c.measure-extent.ensures.into) may.pass_behind))),
)

pub returns-then-not-has_corner_behind : goal.returns-then-not-has_corner_behind
returns-then-not-has_corner_behind c = (
  (λ told. let never : false ≡ true = told in cc),
  (λ may. sym c.if-not-has_corner_behind.true
      ∙ c.has_corner_behind.ensures.1 (subst (λ (v : Winding). HasCornerBehind v c.measure-extent.result.now.into) (sym c.trace.ensures) (subst (HasCornerBehind c.args.state.now.source) (sym c.measure-extent.ensures.into) may.source_behind))),
)

pub returns-then-extent : goal.returns-then-extent
returns-then-extent c =
    let winding = c.args.pane.now.winding in
    let extent = c.measure-extent.result.now in
    let is = c.measure-extent.ensures in
    let convex = subst (λ (p : Pane). IsConvex p.winding) c.pane.ensures c.len-corners.ensures.in_world.convex in
    let all = is.full c.if-extent.true in
    let planes = c.separators-planes.result.now in
    let ahead = c.into.result.now in (
      (λ told. record {
        in_front = subst (λ (g : Plane). HasCornerInFront winding g) c.into.ensures.value (in_front_by_reach winding extent.cuboid convex is.within all ahead (c.reaches.ensures.0 told));
        beyond = λ h separator. beyond_by_reach winding extent.cuboid convex is.within all planes (c.reaches_all.ensures.0 c.if-not-reaches_all.false) h ((c.separators-planes.ensures h).1 separator);
        source_behind = subst (HasCornerBehind c.args.state.now.source) is.into (subst (λ (v : Winding). HasCornerBehind v extent.into) c.trace.ensures (c.has_corner_behind.ensures.0 c.if-not-has_corner_behind.false));
        pass_behind = subst (λ (into : Plane). MatchOption c.args.state.now.pass (Unit {0}) (λ p. HasCornerBehind p into)) is.into
            (subst (λ (pass : Option Winding). MatchOption pass (Unit {0}) (λ p. HasCornerBehind p extent.into)) c.pass.ensures.value (c.pass_is_behind.ensures.0 c.if-not-pass_is_behind.false));
      }),
      (λ may. c.reaches.ensures.1 (reach_by_front winding extent.cuboid convex is.within ahead (subst (λ (g : Plane). HasCornerInFront winding g) (sym c.into.ensures.value) may.in_front))),
    )

pub returns-then-not-has_corner_in_front : goal.returns-then-not-has_corner_in_front
returns-then-not-has_corner_in_front c = (
  (λ told. let never : false ≡ true = told in cc),
  (λ may. sym c.if-not-has_corner_in_front.true
      ∙ c.has_corner_in_front.ensures.1 (subst (λ (p : Pane). HasCornerInFront p.winding c.into-2.result.now) (sym c.pane.ensures) (subst (λ (g : Plane). HasCornerInFront c.args.pane.now.winding g) (sym c.into-2.ensures.value) may.in_front))),
)

pub returns : goal.returns
returns c =
    let extent = c.measure-extent.result.now in
    let is = c.measure-extent.ensures in
    let planes = c.separators-planes.result.now in
    let ahead = c.into-2.result.now in (
      (λ told. record {
        in_front = subst (λ (g : Plane). HasCornerInFront c.args.pane.now.winding g) c.into-2.ensures.value (subst (λ (p : Pane). HasCornerInFront p.winding ahead) c.pane.ensures (c.has_corner_in_front.ensures.0 c.if-not-has_corner_in_front.false));
        beyond = λ h separator. subst (λ (p : Pane). HasCornersBeyond p.winding planes) c.pane.ensures (c.is_beyond.ensures.0 told) h ((c.separators-planes.ensures h).1 separator);
        source_behind = subst (HasCornerBehind c.args.state.now.source) is.into (subst (λ (v : Winding). HasCornerBehind v extent.into) c.trace.ensures (c.has_corner_behind.ensures.0 c.if-not-has_corner_behind.false));
        pass_behind = subst (λ (into : Plane). MatchOption c.args.state.now.pass (Unit {0}) (λ p. HasCornerBehind p into)) is.into
            (subst (λ (pass : Option Winding). MatchOption pass (Unit {0}) (λ p. HasCornerBehind p extent.into)) c.pass.ensures.value (c.pass_is_behind.ensures.0 c.if-not-pass_is_behind.false));
      }),
      (λ may. c.is_beyond.ensures.1 (subst (λ (p : Pane). HasCornersBeyond p.winding planes) (sym c.pane.ensures) (λ h there. may.beyond h ((c.separators-planes.ensures h).0 there)))),
    )
