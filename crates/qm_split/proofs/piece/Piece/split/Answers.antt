use Rattle.std.proofs.Common.{refl, subst}
use Rattle.qm_convex.specs.Winding.{Winding, IsConvex}
use Rattle.qm_wind.specs.declared.severed.Severed.{Severed}
use Rattle.qm_wind.specs.declared.severed.Severed.TheVariants.{Front, Back, On}
use Rattle.qm_wind.specs.Severing.{IsSevered}
use Rattle.qm_space.specs.Plane.{flipped}
use Rattle.qm_split.proofs.PartedPieces.{whole_part}
use Rattle.qm_split.proofs.SidesOfPlanes.{none_of_ahead, none_of_behind, none_of_lying, none_of_lying_flipped}
use Rattle.qm_split.proofs.piece.Piece.split.Goals as goal

pub returns-in-Front-clause-front : goal.returns-in-Front-clause-front
returns-in-Front-clause-front c =
    let is = subst (λ (v : Winding). IsSevered Front v c.sever.new.self c.args.plane.now) c.deref_mut.ensures.value
    (subst (λ (s : Severed). IsSevered s c.deref_mut.result.now c.sever.new.self c.args.plane.now) c.in-Front.is c.in_ok-sever.ensures.ok) in
    whole_part c.args.self _ c.args.plane.now (subst IsConvex c.deref.ensures c.len-corners.ensures.in_world.convex) refl is

pub returns-in-Front-clause-back : goal.returns-in-Front-clause-back
returns-in-Front-clause-back c =
    let is = subst (λ (v : Winding). IsSevered Front v c.sever.new.self c.args.plane.now) c.deref_mut.ensures.value
    (subst (λ (s : Severed). IsSevered s c.deref_mut.result.now c.sever.new.self c.args.plane.now) c.in-Front.is c.in_ok-sever.ensures.ok) in
    none_of_ahead c.args.self.winding.value c.args.plane.now is.1

pub returns-in-Back-clause-front : goal.returns-in-Back-clause-front
returns-in-Back-clause-front c =
    let is = subst (λ (v : Winding). IsSevered Back v c.sever.new.self c.args.plane.now) c.deref_mut.ensures.value
    (subst (λ (s : Severed). IsSevered s c.deref_mut.result.now c.sever.new.self c.args.plane.now) c.in-Back.is c.in_ok-sever.ensures.ok) in
    none_of_behind c.args.self.winding.value c.args.plane.now is.1

pub returns-in-Back-clause-back : goal.returns-in-Back-clause-back
returns-in-Back-clause-back c =
    let is = subst (λ (v : Winding). IsSevered Back v c.sever.new.self c.args.plane.now) c.deref_mut.ensures.value
    (subst (λ (s : Severed). IsSevered s c.deref_mut.result.now c.sever.new.self c.args.plane.now) c.in-Back.is c.in_ok-sever.ensures.ok) in
    whole_part c.args.self _ (flipped c.args.plane.now) (subst IsConvex c.deref.ensures c.len-corners.ensures.in_world.convex) refl is

pub returns-in-On-clause-front : goal.returns-in-On-clause-front
returns-in-On-clause-front c =
    let is = subst (λ (v : Winding). IsSevered On v c.sever.new.self c.args.plane.now) c.deref_mut.ensures.value
    (subst (λ (s : Severed). IsSevered s c.deref_mut.result.now c.sever.new.self c.args.plane.now) c.in-On.is c.in_ok-sever.ensures.ok) in
    none_of_lying c.args.self.winding.value c.args.plane.now is.1

pub returns-in-On-clause-back : goal.returns-in-On-clause-back
returns-in-On-clause-back c =
    let is = subst (λ (v : Winding). IsSevered On v c.sever.new.self c.args.plane.now) c.deref_mut.ensures.value
    (subst (λ (s : Severed). IsSevered s c.deref_mut.result.now c.sever.new.self c.args.plane.now) c.in-On.is c.in_ok-sever.ensures.ok) in
    none_of_lying_flipped c.args.self.winding.value c.args.plane.now is.1
