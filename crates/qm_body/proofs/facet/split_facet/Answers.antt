use Rattle.std.proofs.Common.{[], ◌∷◌, ◌++◌, refl, ap, ◌∙◌, subst}
use Rattle.qm_space.specs.Plane.{Plane, flipped}
use Rattle.qm_convex.specs.Winding.{Winding, IsConvex}
use Rattle.qm_convex.specs.Sides.{IsWhollyInFront}
use Rattle.qm_convex.specs.inner.Facets.{Facet}
use Rattle.std.specs.Prelude.{Some}
use Rattle.qm_wind.specs.declared.severed.Severed.{Severed}
use Rattle.qm_wind.specs.declared.severed.Severed.TheVariants.{Front, Back, On, Across}
use Rattle.qm_wind.specs.Severing.{IsSevered}
use Rattle.qm_wind.proofs.Clips.{front_is_whole, back_is_gone, on_is_gone, on_is_gone_behind}
use Rattle.qm_body.proofs.CutFacets.{same_facet, all_added, none_added, half_added}
use Rattle.qm_body.proofs.facet.split_facet.Goals as goal

pub returns-in_ok-push-in-Front-clause-front : goal.returns-in_ok-push-in-Front-clause-front
returns-in_ok-push-in-Front-clause-front c =
    let own = ap (λ (f : Facet). f.winding) c.facet.view_is in
    let is = subst (λ (v : Winding). IsSevered Front v c.sever.new.self c.args.plane.now) c.deref_mut.ensures.value
    (subst (λ (s : Severed). IsSevered s c.deref_mut.result.now c.sever.new.self c.args.plane.now) c.in-Front.is c.in_ok-sever.ensures.ok) in
    all_added c.args.plane.now c.args.facet c.args.front.now.items c.push.new.self.items
    (subst IsConvex (c.deref.ensures ∙ own) c.len-corners.ensures.in_world.convex)
    (subst (λ (w : Winding). IsWhollyInFront w c.args.plane.now) own is.1)
    (c.in_ok-push-in-Front.ensures.items ∙ ap (λ (f : Facet). c.args.front.now.items ++ f ∷ []) (same_facet c.args.facet c.facet.inside.inward c.facet.inside.winding.value c.sever.new.self is.0 c.facet.view_is))

pub returns-in_ok-push-in-Front-clause-back : goal.returns-in_ok-push-in-Front-clause-back
returns-in_ok-push-in-Front-clause-back c =
    let own = ap (λ (f : Facet). f.winding) c.facet.view_is in
    let is = subst (λ (v : Winding). IsSevered Front v c.sever.new.self c.args.plane.now) (c.deref_mut.ensures.value ∙ own)
    (subst (λ (s : Severed). IsSevered s c.deref_mut.result.now c.sever.new.self c.args.plane.now) c.in-Front.is c.in_ok-sever.ensures.ok) in
    none_added (flipped c.args.plane.now) c.args.facet c.args.back.now.items c.args.back.now.items (front_is_whole c.args.facet.winding c.args.plane.now is.1) refl

pub returns-in_ok-push-in-Back-clause-front : goal.returns-in_ok-push-in-Back-clause-front
returns-in_ok-push-in-Back-clause-front c =
    let own = ap (λ (f : Facet). f.winding) c.facet.view_is in
    let is = subst (λ (v : Winding). IsSevered Back v c.sever.new.self c.args.plane.now) (c.deref_mut.ensures.value ∙ own)
    (subst (λ (s : Severed). IsSevered s c.deref_mut.result.now c.sever.new.self c.args.plane.now) c.in-Back.is c.in_ok-sever.ensures.ok) in
    none_added c.args.plane.now c.args.facet c.args.front.now.items c.args.front.now.items (back_is_gone c.args.facet.winding c.args.plane.now is.1) refl

pub returns-in_ok-push-in-Back-clause-back : goal.returns-in_ok-push-in-Back-clause-back
returns-in_ok-push-in-Back-clause-back c =
    let own = ap (λ (f : Facet). f.winding) c.facet.view_is in
    let is = subst (λ (v : Winding). IsSevered Back v c.sever.new.self c.args.plane.now) c.deref_mut.ensures.value
    (subst (λ (s : Severed). IsSevered s c.deref_mut.result.now c.sever.new.self c.args.plane.now) c.in-Back.is c.in_ok-sever.ensures.ok) in
    all_added (flipped c.args.plane.now) c.args.facet c.args.back.now.items c.push-in-Back.new.self.items
    (subst IsConvex (c.deref.ensures ∙ own) c.len-corners.ensures.in_world.convex)
    (subst (λ (w : Winding). IsWhollyInFront w (flipped c.args.plane.now)) own is.1)
    (c.in_ok-push-in-Back.ensures.items ∙ ap (λ (f : Facet). c.args.back.now.items ++ f ∷ []) (same_facet c.args.facet c.facet.inside.inward c.facet.inside.winding.value c.sever.new.self is.0 c.facet.view_is))

pub returns-in-On-clause-front : goal.returns-in-On-clause-front
returns-in-On-clause-front c =
    let own = ap (λ (f : Facet). f.winding) c.facet.view_is in
    let is = subst (λ (v : Winding). IsSevered On v c.sever.new.self c.args.plane.now) (c.deref_mut.ensures.value ∙ own)
    (subst (λ (s : Severed). IsSevered s c.deref_mut.result.now c.sever.new.self c.args.plane.now) c.in-On.is c.in_ok-sever.ensures.ok) in
    none_added c.args.plane.now c.args.facet c.args.front.now.items c.args.front.now.items (on_is_gone c.args.facet.winding c.args.plane.now is.1) refl

pub returns-in-On-clause-back : goal.returns-in-On-clause-back
returns-in-On-clause-back c =
    let own = ap (λ (f : Facet). f.winding) c.facet.view_is in
    let is = subst (λ (v : Winding). IsSevered On v c.sever.new.self c.args.plane.now) (c.deref_mut.ensures.value ∙ own)
    (subst (λ (s : Severed). IsSevered s c.deref_mut.result.now c.sever.new.self c.args.plane.now) c.in-On.is c.in_ok-sever.ensures.ok) in
    none_added (flipped c.args.plane.now) c.args.facet c.args.back.now.items c.args.back.now.items (on_is_gone_behind c.args.facet.winding c.args.plane.now is.1) refl

pub returns-in_ok-push-in-Across-2-clause-front : goal.returns-in_ok-push-in-Across-2-clause-front
returns-in_ok-push-in-Across-2-clause-front c =
    let own = ap (λ (f : Facet). f.winding) c.facet.view_is in
    let is = subst (λ (v : Winding). IsSevered (Across c.in-Across.behind) v c.sever.new.self c.args.plane.now) (c.deref_mut.ensures.value ∙ own)
    (subst (λ (s : Severed). IsSevered s c.deref_mut.result.now c.sever.new.self c.args.plane.now) c.in-Across.is c.in_ok-sever.ensures.ok) in
    half_added c.args.plane.now c.args.facet c.args.front.now.items c.push-in-Across-2.new.self.items (Some c.sever.new.self) is.0
    (c.in_ok-push-in-Across-2.ensures.items ∙ ap (λ (g : Plane). c.args.front.now.items ++ record { inward = g; winding = c.sever.new.self } ∷ []) (ap (λ (f : Facet). f.inward) c.facet.view_is))

pub returns-in_ok-push-in-Across-2-clause-back : goal.returns-in_ok-push-in-Across-2-clause-back
returns-in_ok-push-in-Across-2-clause-back c =
    let own = ap (λ (f : Facet). f.winding) c.facet.view_is in
    let is = subst (λ (v : Winding). IsSevered (Across c.in-Across.behind) v c.sever.new.self c.args.plane.now) (c.deref_mut.ensures.value ∙ own)
    (subst (λ (s : Severed). IsSevered s c.deref_mut.result.now c.sever.new.self c.args.plane.now) c.in-Across.is c.in_ok-sever.ensures.ok) in
    half_added (flipped c.args.plane.now) c.args.facet c.args.back.now.items c.push-in-Across.new.self.items (Some c.in-Across.behind.value) is.1
    (c.in_ok-push-in-Across.ensures.items ∙ ap (λ (g : Plane). c.args.back.now.items ++ record { inward = g; winding = c.in-Across.behind.value } ∷ []) (ap (λ (f : Facet). f.inward) c.facet.view_is))
