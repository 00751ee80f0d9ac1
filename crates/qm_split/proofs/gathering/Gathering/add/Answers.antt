use Rattle.std.proofs.Common.{ap, subst, arith}
use Rattle.std.proofs.lemmas.Result.{on_ok_weaker}
use Rattle.qm_split.specs.declared.contender.Part.{Part}
use Rattle.qm_split.specs.inner.Parts.{IsPartIn, part_count}
use Rattle.qm_split.proofs.Gatherings.{gathered_by_keeping, gathered_by_raising, gathered_by_passing, count_by_keeping, count_by_raising}
use Rattle.qm_split.proofs.gathering.Gathering.add.Goals as goal

pub returns-in-Kept-clause-gathered : goal.returns-in-Kept-clause-gathered
returns-in-Kept-clause-gathered c = on_ok_weaker c.keep.result
    (λ keeps. λ book cell before done solid are part. gathered_by_keeping book cell before done solid c.args.self.now c.keep.new.self are c.in-Kept.contender
    (subst (λ (p : Part). IsPartIn book cell solid p) c.in-Kept.is part) keeps)
    c.keep.ensures

pub returns-in-Kept-clause-count : goal.returns-in-Kept-clause-count
returns-in-Kept-clause-count c = on_ok_weaker c.keep.result
    (λ keeps. let e = ap part_count c.in-Kept.is in let k = count_by_keeping c.args.self.now c.keep.new.self c.in-Kept.contender keeps in omega arith)
    c.keep.ensures

pub returns-in-Containing-clause-gathered : goal.returns-in-Containing-clause-gathered
returns-in-Containing-clause-gathered c = λ book cell before done solid are part.
    gathered_by_raising book cell before done solid c.args.self.now c.raise.new.self are c.in-Containing.contents
    (subst (λ (p : Part). IsPartIn book cell solid p) c.in-Containing.is part) c.raise.ensures

pub returns-in-Containing-clause-count : goal.returns-in-Containing-clause-count
returns-in-Containing-clause-count c =
    let k = count_by_raising c.args.self.now c.raise.new.self c.in-Containing.contents c.raise.ensures in omega arith

pub returns-in-Outside-clause-gathered : goal.returns-in-Outside-clause-gathered
returns-in-Outside-clause-gathered c = λ book cell before done solid are part.
    gathered_by_passing book cell before done solid c.args.self.now are
    (subst (λ (p : Part). IsPartIn book cell solid p) c.in-Outside.is part)
