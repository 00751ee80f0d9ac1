use Rattle.std.proofs.Common.{refl, ◌∙◌, arith}
use Rattle.std.proofs.lemmas.Grind.{common_steps}
use Rattle.qm_space.specs.Plane.{flipped}
use Rattle.qm_lists.proofs.Taken.{taken_none, taken_more, taken_all}
use Rattle.qm_split.proofs.SplitGatherings.{side_begins, side_more, side_within, fewer_begins, fewer_more, fewer_within}
use Rattle.qm_split.proofs.gathering.Gathering.split.Goals as goal

pub loop-contender-init : goal.loop-contender-init
loop-contender-init c = record {
  taken = taken_none _ _ _ refl (grind (arith, common_steps));
  front = side_begins c.args.self.strongest c.args.plane.now c.args.plane.now c.args.section.now c.in_ok-front.front c.in_ok-front.ensures.gathered;
  back = side_begins c.args.self.strongest c.args.plane.now (flipped c.args.plane.now) c.args.section.now c.in_ok-back.back c.in_ok-back.ensures.gathered;
  front_count = fewer_begins c.args.plane.now c.in_ok-front.front c.in_ok-front.ensures.count;
  back_count = fewer_begins c.args.plane.now c.in_ok-back.back c.in_ok-back.ensures.count;
}

pub loop-contender-preserved : goal.loop-contender-preserved
loop-contender-preserved c = record {
  taken = taken_more _ _ _ _ _ _ c.in-Some.contender c.loop-contender.invariant.taken c.in-Some.ensures.steps.0 c.in-Some.ensures.steps.1;
  front = side_more c.args.self.strongest c.args.plane.now c.args.plane.now c.args.section.now c.loop-contender.yielded c.in-Some.contender c.in_ok-parts.parts.front
      c.loop-contender.front c.add.new.self c.loop-contender.invariant.front c.in_ok-parts.ensures.front c.in_ok-add.ensures.gathered;
  back = side_more c.args.self.strongest c.args.plane.now (flipped c.args.plane.now) c.args.section.now c.loop-contender.yielded c.in-Some.contender c.in_ok-parts.parts.back
      c.loop-contender.back c.add-in-loop-contender.new.self c.loop-contender.invariant.back c.in_ok-parts.ensures.back c.in_ok-add-2.ensures.gathered;
  front_count = fewer_more c.loop-contender.yielded c.args.plane.now c.in-Some.contender c.in_ok-parts.parts.front c.loop-contender.front c.add.new.self
      c.loop-contender.invariant.front_count c.in_ok-parts.ensures.front_count c.in_ok-add.ensures.count;
  back_count = fewer_more c.loop-contender.yielded c.args.plane.now c.in-Some.contender c.in_ok-parts.parts.back c.loop-contender.back c.add-in-loop-contender.new.self
      c.loop-contender.invariant.back_count c.in_ok-parts.ensures.back_count c.in_ok-add-2.ensures.count;
}

pub returns-clause-front : goal.returns-clause-front
returns-clause-front c =
    side_within c.args.self.strongest c.args.plane.now c.args.plane.now c.args.section.now c.loop-contender.yielded c.args.self.contenders.items c.loop-contender.front c.within_room.result c.within_room.ensures
    (taken_all _ _ _ _ c.loop-contender.invariant.taken c.in-None.ensures.steps.0 ∙ c.into_iter-contender-iterator.ensures.into_iter_gives.0) c.loop-contender.invariant.front

pub returns-clause-back : goal.returns-clause-back
returns-clause-back c =
    side_within c.args.self.strongest c.args.plane.now (flipped c.args.plane.now) c.args.section.now c.loop-contender.yielded c.args.self.contenders.items c.loop-contender.back c.within_room-2.result c.within_room-2.ensures
    (taken_all _ _ _ _ c.loop-contender.invariant.taken c.in-None.ensures.steps.0 ∙ c.into_iter-contender-iterator.ensures.into_iter_gives.0) c.loop-contender.invariant.back

pub returns-clause-front_count : goal.returns-clause-front_count
returns-clause-front_count c =
    fewer_within c.args.plane.now c.loop-contender.yielded c.args.self.contenders.items c.loop-contender.front c.within_room.result c.within_room.ensures
    (taken_all _ _ _ _ c.loop-contender.invariant.taken c.in-None.ensures.steps.0 ∙ c.into_iter-contender-iterator.ensures.into_iter_gives.0) c.loop-contender.invariant.front_count

pub returns-clause-back_count : goal.returns-clause-back_count
returns-clause-back_count c =
    fewer_within c.args.plane.now c.loop-contender.yielded c.args.self.contenders.items c.loop-contender.back c.within_room-2.result c.within_room-2.ensures
    (taken_all _ _ _ _ c.loop-contender.invariant.taken c.in-None.ensures.steps.0 ∙ c.into_iter-contender-iterator.ensures.into_iter_gives.0) c.loop-contender.invariant.back_count
