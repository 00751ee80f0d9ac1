use Rattle.std.proofs.Common.{refl, sym, subst}
use Rattle.std.proofs.lemmas.Bool.{MatchBool-at_true, MatchBool-at_false}
use Rattle.qm_convex.specs.World.{LiesWithin}
use Rattle.qm_convex.specs.Section.{IsSection}
use Rattle.qm_convex.proofs.Parallelograms.{parallelogram_convex, misses_near, misses_far, section_of_parallelogram}
use Rattle.qm_wind.specs.inner.AxialCells.{bounds_of, IsOpen, IsShut}
use Rattle.qm_wind.proofs.Clips.{none_kept, some_kept}
use Rattle.qm_wind.proofs.PairsAcross.{edges_across, shut_misses, section_in_world, section_in_cuboid}
use Rattle.qm_wind.proofs.winding.Winding.in_cell.Goals as goal
use Rattle.qm_wind.proofs.winding.Winding.in_cell.Goals.{Else-not-branch-2}

pub returns-then-not-is_open : goal.returns-then-not-is_open
returns-then-not-is_open c = shut_misses c.args.cell.now c.requires c.args.plane.now (MatchBool-at_false (IsOpen c.args.cell.now) (IsShut c.args.cell.now) c.if-not-is_open.true c.is_open.ensures)

pub of-pairs-requires-clause-wide : goal.of-pairs-requires-clause-wide
of-pairs-requires-clause-wide c = MatchBool-at_true (IsOpen c.args.cell.now) (IsShut c.args.cell.now) c.if-not-is_open.false c.is_open.ensures

pub parallelogram-requires : goal.parallelogram-requires
parallelogram-requires c =
    let s = c.of-pairs.ensures in
    parallelogram_convex c.args.plane.now _ _ _ _ s.are.first.opposite s.are.second.opposite s.are.first.apart s.are.second.apart s.turn

pub returns-then-not-branch : goal.returns-then-not-branch
returns-then-not-branch c =
    misses_near (bounds_of c.args.cell.now) c.args.plane.now _ _ _ _ _ _ c.of-pairs.ensures.are.inside
    (none_kept _ _ _ _ _ c.in_ok-polygon.ensures c.if-not-branch.true c.in_ok-keep_in_front_of.ensures)

pub returns-then-not-branch-2 : goal.returns-then-not-branch-2
returns-then-not-branch-2 c =
    misses_far (bounds_of c.args.cell.now) c.args.plane.now _ _ _ _ _ _ c.of-pairs.ensures.are.inside _
    (some_kept _ _ _ _ _ c.in_ok-polygon.ensures c.if-not-branch.false c.in_ok-keep_in_front_of.ensures)
    (none_kept _ _ _ _ _ refl c.if-not-branch-2.true c.in_ok-keep_in_front_of-2.ensures)

part : (c : Else-not-branch-2) → IsSection (bounds_of c.args.cell.now) c.args.plane.now c.keep_in_front_of-2.new.self
part c =
    section_of_parallelogram (bounds_of c.args.cell.now) c.args.plane.now _ _ _ _ _ _ c.of-pairs.ensures.are.inside _ c.keep_in_front_of-2.new.self
    c.of-pairs.ensures.are.first.opposite c.of-pairs.ensures.are.first.apart
    (edges_across _ _ _ _ c.of-pairs.ensures.are) c.of-pairs.ensures.are.third.near c.of-pairs.ensures.are.third.far
    (some_kept _ _ _ _ _ c.in_ok-polygon.ensures c.if-not-branch.false c.in_ok-keep_in_front_of.ensures)
    (some_kept _ _ _ _ _ refl c.if-not-branch-2.false c.in_ok-keep_in_front_of-2.ensures)

pub cuboid-requires-clause-wide : goal.cuboid-requires-clause-wide
cuboid-requires-clause-wide c = MatchBool-at_true (IsOpen c.args.cell.now) (IsShut c.args.cell.now) c.if-not-is_open.false c.is_open.ensures

pub in_cuboid-requires-clause-in_world : goal.in_cuboid-requires-clause-in_world
in_cuboid-requires-clause-in_world c = section_in_world c.args.cell.now c.requires c.keep_in_front_of-2.new.self c.args.plane.now (part (goal.at.in_cuboid-requires-clause-in_world c).Else-not-branch-2)

pub in_cuboid-requires-clause-within : goal.in_cuboid-requires-clause-within
in_cuboid-requires-clause-within c =
    subst (LiesWithin c.keep_in_front_of-2.new.self) (sym c.cuboid.ensures)
    (section_in_cuboid c.args.cell.now c.requires c.keep_in_front_of-2.new.self c.args.plane.now (part (goal.at.in_cuboid-requires-clause-within c).Else-not-branch-2))

pub returns : goal.returns
returns c = subst (λ w. IsSection (bounds_of c.args.cell.now) c.args.plane.now w) (sym c.in_cuboid.ensures) (part (goal.at.returns c).Else-not-branch-2)
