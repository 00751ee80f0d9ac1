use Rattle.std.proofs.Common.{refl}
use Rattle.qm_spans.proofs.ComputedSpans.{computed_trace, leaves_of_trace}
use Rattle.qm_spans.proofs.TracedValues.{inside_larger}
use Rattle.qm_trace.proofs.tracer.Tracer.over.Goals as goal

pub invariant_of-result : goal.invariant_of-result
invariant_of-result c =
    let inside = c.if-not-are_inside_bound.ensures.0 refl in
    record {
      fits = c.requires.fits;
      start = record { inside = inside_larger c.args.bound c.args.from c.requires.bound inside.0; weight = c.requires.from_weight };
      end = record { inside = inside_larger c.args.bound c.args.to c.requires.bound inside.1; weight = c.requires.to_weight };
    }

pub returns-clause-trace : goal.returns-clause-trace
returns-clause-trace c = computed_trace c.args.tree.now c.args.from c.args.to

pub returns-clause-leaves : goal.returns-clause-leaves
returns-clause-leaves c = leaves_of_trace c.args.tree.now c.args.from c.args.to
