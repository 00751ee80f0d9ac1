use Rattle.std.proofs.Common.{subst}
use Rattle.qm_space.specs.Plane.{Plane}
use Rattle.qm_space.specs.Turned.{turned}
use Rattle.qm_convex.specs.Sides.{HasNoneInFront, IsWhollyInFront}
use Rattle.qm_convex.specs.Cut.{IsPartInFront}
use Rattle.qm_wind.specs.declared.winding.Clip.{Clip}
use Rattle.qm_wind.specs.Clipped.{is_front, IsClip}
use Rattle.qm_brush.specs.inner.FaceParts.{inward_of}
use Rattle.qm_convex.proofs.Cutting.{whole_is_part}
use Rattle.qm_brush.proofs.PartsOfFaces.{inner_plane}
use Rattle.qm_brush.proofs.fullness.keep_behind.Goals as goal

pub returns-in-Cut : goal.returns-in-Cut
returns-in-Cut c =
    let clipped = subst (λ (clip : Clip). IsClip clip c.args.part.now (turned (is_front c.inner_side.result) c.index-planes-other.result)) c.in-Cut.is c.in_ok-clip.ensures.clip in
    subst (λ (g : Plane). IsPartInFront c.in-Cut.less c.args.part.now g)
    (inner_plane c.args.planes.now c.args.other.now c.index-planes-other.result (is_front c.inner_side.result) c.requires.numbered c.index-planes-other.is c.inner_side.ensures)
    clipped.0

pub returns-in-Gone : goal.returns-in-Gone
returns-in-Gone c =
    let clipped = subst (λ (clip : Clip). IsClip clip c.args.part.now (turned (is_front c.inner_side.result) c.index-planes-other.result)) c.in-Gone.is c.in_ok-clip.ensures.clip in
    subst (λ (g : Plane). HasNoneInFront c.args.part.now g)
    (inner_plane c.args.planes.now c.args.other.now c.index-planes-other.result (is_front c.inner_side.result) c.requires.numbered c.index-planes-other.is c.inner_side.ensures)
    clipped

pub returns-in-Whole : goal.returns-in-Whole
returns-in-Whole c =
    let clipped = subst (λ (clip : Clip). IsClip clip c.args.part.now (turned (is_front c.inner_side.result) c.index-planes-other.result)) c.in-Whole.is c.in_ok-clip.ensures.clip in
    whole_is_part c.args.part.now (inward_of c.args.planes.now c.args.other.now) c.requires.convex
    (subst (λ (g : Plane). IsWhollyInFront c.args.part.now g)
    (inner_plane c.args.planes.now c.args.other.now c.index-planes-other.result (is_front c.inner_side.result) c.requires.numbered c.index-planes-other.is c.inner_side.ensures)
    clipped)
