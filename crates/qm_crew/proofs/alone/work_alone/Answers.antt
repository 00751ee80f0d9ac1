use Rattle.std.proofs.Common.{◌≡◌, ◌∙◌, ℕ, suc, ◌+◌, List, [], ◌∷◌, ◌++◌, length, sym, ap, subst, arith}
use Rattle.std.specs.List.{range_with_len}
use Rattle.qm_chains.proofs.TurnListLaws.{in_order_more}
use Rattle.qm_board.specs.PassOf.{findings_of}
use Rattle.qm_crew.specs.inner.TurnsTaken.{LieAlong}
use Rattle.qm_crew.proofs.SettledPortals.{alone_more}
use Rattle.qm_crew.proofs.alone.work_alone.Goals as goal

pub loop-portal-init : goal.loop-portal-init
loop-portal-init c = record { pass = c.requires.pass; list = c.new.ensures.items; along = c.requires.along }

pub loop-portal-preserved : goal.loop-portal-preserved
loop-portal-preserved c =
    let world = c.args.shared.now.world.now in
    let k = c.loop-portal.portal in
    let old = findings_of c.loop-portal.settling.pass in
    let new = findings_of c.in_ok-settling.settling.pass in
    let next : suc k ≡ k + 1 = omega arith in
    record {
      pass = c.in_ok-settling.ensures.pass;
      list =
          c.in_ok-settling.ensures.appended ∙ ap (λ (list : List ℕ). list ++ k ∷ []) c.loop-portal.invariant.list ∙ sym (in_order_more k)
          ∙ ap (λ (m : ℕ). range_with_len 0 m) next;
      along = alone_more world k old new c.loop-portal.invariant.along c.in_ok-settling.ensures.turn;
    }

pub returns : goal.returns
returns c =
    let portal = c.loop-portal.portal in
    let test = c.loop-portal-test.false in
    let end = c.loop-portal.auto.portal-end in
    let count = c.portals-portal-end.ensures in
    let all : portal ≡ length c.args.shared.now.world.now.portals = omega (arith, test, end, count) in
    record {
      pass = c.loop-portal.invariant.pass;
      first = c.loop-portal.invariant.list ∙ ap (λ (m : ℕ). range_with_len 0 m) all;
      along = subst (LieAlong c.args.shared.now.world.now (findings_of c.loop-portal.settling.pass)) (sym c.loop-portal.invariant.list) c.loop-portal.invariant.along;
    }
