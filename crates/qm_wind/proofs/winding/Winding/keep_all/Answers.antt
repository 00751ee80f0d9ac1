use Rattle.std.proofs.Common.{◌≡◌, ◌+◌, List, take, drop, sym, subst}
use Rattle.std.proofs.lemmas.Bool.{MatchBool-at_true, MatchBool-at_false}
use Rattle.qm_space.specs.Plane.{Plane}
use Rattle.qm_space.specs.Cell.{IsInCell}
use Rattle.qm_convex.specs.Sides.{HasNoneInFront}
use Rattle.qm_convex.specs.Cut.{IsPartInFront, IsPartWithin}
use Rattle.qm_lists.proofs.Places.{take-read, parted-read}
use Rattle.qm_convex.proofs.Cutting.{all_at_first, within_one_more}
use Rattle.qm_convex.proofs.CellParts.{none_within}
use Rattle.qm_wind.proofs.winding.Winding.keep_all.Goals as goal

pub loop-plane-init : goal.loop-plane-init
loop-plane-init c = all_at_first c.args.self c.len-corners.ensures.in_world.convex

pub loop-plane-preserved : goal.loop-plane-preserved
loop-plane-preserved c =
    subst (λ (cell : List Plane). IsPartWithin c.cut.new.self c.args.self cell) (sym (take-read c.args.planes.now c.loop-plane.plane-index c.plane-item.result c.loop-plane-test.true c.plane-item.is))
    (within_one_more c.cut.new.self c.loop-plane.left c.args.self (take c.loop-plane.plane-index c.args.planes.now) c.plane-item.result c.loop-plane.invariant
    (MatchBool-at_true (IsPartInFront c.cut.new.self c.loop-plane.left c.plane-item.result) ((c.cut.new.self ≡ c.loop-plane.left) × HasNoneInFront c.loop-plane.left c.plane-item.result) c.if-not-branch.false c.in_ok-cut.ensures.ok))

pub returns-then-not-branch : goal.returns-then-not-branch
returns-then-not-branch c = λ x r inside.
    none_within c.args.self c.loop-plane.left (take c.loop-plane.plane-index c.args.planes.now) (drop (c.loop-plane.plane-index + 1) c.args.planes.now) c.plane-item.result c.loop-plane.invariant
    (MatchBool-at_false (IsPartInFront c.cut.new.self c.loop-plane.left c.plane-item.result) ((c.cut.new.self ≡ c.loop-plane.left) × HasNoneInFront c.loop-plane.left c.plane-item.result) c.if-not-branch.true c.in_ok-cut.ensures.ok).1
    x r (subst (λ (cell : List Plane). IsInCell cell x) (parted-read c.args.planes.now c.loop-plane.plane-index c.plane-item.result c.loop-plane-test.true c.plane-item.is) inside)
