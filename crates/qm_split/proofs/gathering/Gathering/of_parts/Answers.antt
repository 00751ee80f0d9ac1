use Rattle.std.proofs.Common.{None, List, [], refl, ◌∙◌, subst, arith}
use Rattle.std.proofs.lemmas.Grind.{common_steps}
use Rattle.qm_lists.proofs.Taken.{taken_none, taken_more, taken_all}
use Rattle.qm_split.specs.declared.contender.Part.{Part}
use Rattle.qm_split.proofs.CubeParts.{IsGatheredOf, gathered_none, gathered_more, gathered_all}
use Rattle.qm_split.proofs.gathering.Gathering.of_parts.Goals as goal

pub loop-part-init : goal.loop-part-init
loop-part-init c = record {
  taken = taken_none _ _ _ refl (grind (arith, common_steps));
  gathered = λ book list. gathered_none book list c.in_ok-gathering.gathering (c.in_ok-gathering.ensures.gathered book []);
}

pub loop-part-preserved : goal.loop-part-preserved
loop-part-preserved c = record {
  taken = taken_more _ _ _ _ _ _ c.in-Some.part c.loop-part.invariant.taken c.in-Some.ensures.steps.0 c.in-Some.ensures.steps.1;
  gathered = λ book list. gathered_more book list c.loop-part.yielded c.in-Some.part c.loop-part.gathering c.add.new.self (c.in_ok-add.ensures.gathered book [] None) (c.loop-part.invariant.gathered book list);
}

pub returns : goal.returns
returns c = λ book list is_book long are.
    gathered_all book list c.args.parts.items c.loop-part.gathering
    (subst (λ (ps : List Part). IsGatheredOf book list ps c.loop-part.gathering)
    (taken_all _ _ _ _ c.loop-part.invariant.taken c.in-None.ensures.steps.0 ∙ c.into_iter-part-iterator.ensures.into_iter_gives.0) (c.loop-part.invariant.gathered book list))
    is_book long are
