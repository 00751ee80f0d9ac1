use Rattle.std.proofs.Common.{◌≡◌, length, arith, subst}
use Rattle.qm_board.specs.PassOf.{findings_of}
use Rattle.qm_crew.specs.inner.TurnsTaken.{AreSettled}
use Rattle.qm_crew.proofs.settling.settle_each.Goals as goal

pub loop-portal-init : goal.loop-portal-init
loop-portal-init c = record { pass = c.requires.pass; stands = c.requires.stands; settled = c.requires.settled }

pub loop-portal-preserved : goal.loop-portal-preserved
loop-portal-preserved c = record {
  pass = c.in_ok-settling.ensures.pass;
  stands = λ number is. c.in_ok-settling.ensures.gained number (c.loop-portal.invariant.stands number is);
  settled = c.in_ok-settling.ensures.settled;
}

pub returns : goal.returns
returns c =
    let portal = c.loop-portal.portal in
    let test = c.loop-portal-test.false in
    let end = c.loop-portal.auto.portal-end in
    let count = c.portals-portal-end.ensures in
    let all : portal ≡ length c.args.shared.now.world.now.portals = omega (arith, test, end, count) in
    record {
      pass = c.loop-portal.invariant.pass;
      settled = subst (AreSettled c.args.shared.now.world.now (findings_of c.loop-portal.settling.pass) c.loop-portal.settling.first.items c.args.others.now) all c.loop-portal.invariant.settled;
    }
