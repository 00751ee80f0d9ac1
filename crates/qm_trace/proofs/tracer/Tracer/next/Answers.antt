use Rattle.std.proofs.Common.{◌≡◌, List, [], None, refl, sym, subst, ◌∙◌}
use Rattle.qm_spans.specs.declared.span.Span.{Span}
use Rattle.qm_spans.specs.Spans.{TakesFirst}
use Rattle.qm_spans.proofs.WalkedSpans.{none_left}
use Rattle.qm_trace.proofs.tracer.Tracer.next.Goals as goal

pub returns-then-self-eq0 : goal.returns-then-self-eq0
returns-then-self-eq0 c =
    let none : c.args.self.now ≡ [] = sym c.self.view_is ∙ none_left c.self.inside.tree.now c.self.inside.from c.self.inside.to c.self.inside.at c.if-self-eq0.true in
    subst (λ (spans : List Span). TakesFirst spans None spans) (sym none) (refl, refl)
