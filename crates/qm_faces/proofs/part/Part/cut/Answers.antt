use Rattle.std.proofs.Common.{◌∙◌, subst}
use Rattle.qm_space.specs.Plane.{flipped}
use Rattle.qm_convex.specs.Winding.{Winding, IsConvex}
use Rattle.qm_convex.specs.Cut.{IsPartInFront}
use Rattle.qm_wind.specs.declared.severed.Severed.{Severed}
use Rattle.qm_wind.specs.declared.severed.Severed.TheVariants.{Front, Back, On}
use Rattle.qm_wind.specs.Severing.{IsSevered}
use Rattle.qm_faces.proofs.CutParts.{cut_ahead, cut_behind, cut_nowhere, cut_across}
use Rattle.qm_faces.proofs.part.Part.cut.Goals as goal

pub returns-in-Front : goal.returns-in-Front
returns-in-Front c = λ outward same.
    let is = subst (λ (v : Winding). IsSevered Front v c.sever.new.self c.args.inward.now) (c.deref_mut.ensures.value ∙ c.part.view_is)
    (subst (λ (s : Severed). IsSevered s c.deref_mut.result.now c.sever.new.self c.args.inward.now) c.in-Front.is c.in_ok-sever.ensures.ok) in
    cut_ahead outward c.args.inward.now same c.args.self c.sever.new.self c.args.left.now.items is.0 (subst IsConvex (c.deref.ensures ∙ c.self.view_is) c.len-corners.ensures.in_world.convex) is.1

pub returns-in_ok-push-in-Back : goal.returns-in_ok-push-in-Back
returns-in_ok-push-in-Back c = λ outward same.
    let is = subst (λ (v : Winding). IsSevered Back v c.sever.new.self c.args.inward.now) (c.deref_mut.ensures.value ∙ c.part.view_is)
    (subst (λ (s : Severed). IsSevered s c.deref_mut.result.now c.sever.new.self c.args.inward.now) c.in-Back.is c.in_ok-sever.ensures.ok) in
    cut_behind outward c.args.inward.now same c.args.self c.sever.new.self c.args.left.now.items c.push.new.self.items is.0 (subst IsConvex (c.deref.ensures ∙ c.self.view_is) c.len-corners.ensures.in_world.convex) is.1 c.in_ok-push-in-Back.ensures.items

pub returns-in-On : goal.returns-in-On
returns-in-On c = λ outward same.
    let is = subst (λ (v : Winding). IsSevered On v c.sever.new.self c.args.inward.now) (c.deref_mut.ensures.value ∙ c.part.view_is)
    (subst (λ (s : Severed). IsSevered s c.deref_mut.result.now c.sever.new.self c.args.inward.now) c.in-On.is c.in_ok-sever.ensures.ok) in
    cut_nowhere outward c.args.inward.now same c.args.self c.args.left.now.items is.1

pub returns-in_ok-push-in-Across : goal.returns-in_ok-push-in-Across
returns-in_ok-push-in-Across c = λ outward same.
    let severed = c.deref_mut.ensures.value ∙ c.part.view_is in
    let is = subst (λ (s : Severed). IsSevered s c.deref_mut.result.now c.sever.new.self c.args.inward.now) c.in-Across.is c.in_ok-sever.ensures.ok in
    cut_across outward c.args.inward.now same c.args.self c.sever.new.self c.in-Across.winding.value c.args.left.now.items c.push-in-Across.new.self.items
    (subst (λ (v : Winding). IsPartInFront c.sever.new.self v c.args.inward.now) severed is.0)
    (subst (λ (v : Winding). IsPartInFront c.in-Across.winding.value v (flipped c.args.inward.now)) severed is.1)
    c.in_ok-push-in-Across.ensures.items
