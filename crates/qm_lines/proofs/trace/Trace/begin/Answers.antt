use Rattle.std.proofs.Common.{ℕ, List, [], ◌∷◌, ◌++◌, ap, ◌∙◌}
use Rattle.std.proofs.lemmas.Result.{on_ok_weaker}
use Rattle.qm_lines.proofs.Traces.{trace_begins, begun_range, nothing_at_err}
use Rattle.qm_lines.proofs.trace.Trace.begin.Goals as goal

pub from-requires : goal.from-requires
from-requires c = c.requires.portal

pub returns-in_err-push : goal.returns-in_err-push
returns-in_err-push c = record {
  trace = nothing_at_err _ c.from_residual.result c.from_residual.ensures.0;
  range = nothing_at_err _ c.from_residual.result c.from_residual.ensures.0;
}

pub enter-requires : goal.enter-requires
enter-requires c = c.requires.portal

pub returns : goal.returns
returns c =
    let from = c.from.ensures.value in
    record {
      trace = on_ok_weaker c.enter.result
          (λ entered s crosses. trace_begins c.args.world.now c.requires.own_portals c.args.portal s c.args.crossing crosses _ c.enter.new.self c.clear.ensures.items from.0 from.1
          (c.in_ok-push.ensures.items ∙ ap (λ (met : List ℕ). met ++ c.from.result ∷ []) c.clear-2.ensures.items ∙ ap (λ (n : ℕ). n ∷ []) from.2)
          entered)
          c.enter.ensures;
      range = on_ok_weaker c.enter.result (λ entered. begun_range c.args.world.now _ c.enter.new.self c.args.portal c.args.crossing c.clear.ensures.items entered c.requires.portal) c.enter.ensures;
    }
