use Rattle.std.proofs.Common.{refl}
use Rattle.qm_space.specs.Point.{whole_point}
use Rattle.qm_convex.specs.Winding.{corner_at}
use Rattle.qm_narrow.specs.inner.Turn.{part_along}
use Rattle.qm_narrow.proofs.TurnedNormals.{lies_first, lies_near}
use Rattle.qm_narrow.proofs.Looks.{reach_from, reach_both, outlook_begins, outlook_past}
use Rattle.qm_narrow.proofs.edge.Edge.outlook.Goals as goal

pub returns-then-is_none : goal.returns-then-is_none
returns-then-is_none c = λ e o i k n has convex k_in own_is before after through.
    let turned = c.turn-turn.ensures.turned (corner_at o k) n own_is through in
    let base = part_along n (whole_point c.args.self.now.from) in
    let of_edge = reach_both e n base c.own_span-first.result c.span-beside.result c.and-edge.result (reach_from e n base c.own_span-first.result i has.place_in (lies_first c.args.self.now c.turn-turn.result (corner_at e i) n (has.convex.weight i has.place_in) turned c.own_span-first.ensures.0 c.own_span-first.result c.own_span-first.ensures.2 c.args.self.now.first has.first has.from_is c.own_span-first.ensures.1)) (reach_from e n base c.span-beside.result has.beside.place has.beside.place_in (c.span-beside.ensures (corner_at e has.beside.place) n (has.convex.weight has.beside.place has.beside.place_in) has.beside.near turned)) c.and-edge.ensures.low c.and-edge.ensures.high in
    let own = outlook_past e o n base c.and-edge.result c.own_span-own_span.result _ c.past-at_own.result of_edge (reach_from o n base c.own_span-own_span.result k k_in (lies_near c.args.self.now c.turn-turn.result (corner_at o k) n (convex.weight k k_in) turned c.own_span-own_span.ensures.0 c.own_span-own_span.result c.own_span-own_span.ensures.2 c.args.own.now own_is through c.own_span-own_span.ensures.1)) (outlook_begins e o n _ refl refl) c.past-at_own.ensures.ahead c.past-at_own.ensures.back in
    own

pub returns-then-is_none-2 : goal.returns-then-is_none-2
returns-then-is_none-2 c = λ e o i k n has convex k_in own_is before after through.
    let turned = c.turn-turn.ensures.turned (corner_at o k) n own_is through in
    let base = part_along n (whole_point c.args.self.now.from) in
    let of_edge = reach_both e n base c.own_span-first.result c.span-beside.result c.and-edge.result (reach_from e n base c.own_span-first.result i has.place_in (lies_first c.args.self.now c.turn-turn.result (corner_at e i) n (has.convex.weight i has.place_in) turned c.own_span-first.ensures.0 c.own_span-first.result c.own_span-first.ensures.2 c.args.self.now.first has.first has.from_is c.own_span-first.ensures.1)) (reach_from e n base c.span-beside.result has.beside.place has.beside.place_in (c.span-beside.ensures (corner_at e has.beside.place) n (has.convex.weight has.beside.place has.beside.place_in) has.beside.near turned)) c.and-edge.ensures.low c.and-edge.ensures.high in
    let own = outlook_past e o n base c.and-edge.result c.own_span-own_span.result _ c.past-at_own.result of_edge (reach_from o n base c.own_span-own_span.result k k_in (lies_near c.args.self.now c.turn-turn.result (corner_at o k) n (convex.weight k k_in) turned c.own_span-own_span.ensures.0 c.own_span-own_span.result c.own_span-own_span.ensures.2 c.args.own.now own_is through c.own_span-own_span.ensures.1)) (outlook_begins e o n _ refl refl) c.past-at_own.ensures.ahead c.past-at_own.ensures.back in
    let at_before = outlook_past e o n base c.and-edge.result c.span-before_span.result c.past-at_own.result c.past-at_before.result of_edge (reach_from o n base c.span-before_span.result before.place before.place_in (c.span-before_span.ensures (corner_at o before.place) n (convex.weight before.place before.place_in) before.near turned)) own c.past-at_before.ensures.ahead c.past-at_before.ensures.back in
    at_before

pub returns : goal.returns
returns c = λ e o i k n has convex k_in own_is before after through.
    let turned = c.turn-turn.ensures.turned (corner_at o k) n own_is through in
    let base = part_along n (whole_point c.args.self.now.from) in
    let of_edge = reach_both e n base c.own_span-first.result c.span-beside.result c.and-edge.result (reach_from e n base c.own_span-first.result i has.place_in (lies_first c.args.self.now c.turn-turn.result (corner_at e i) n (has.convex.weight i has.place_in) turned c.own_span-first.ensures.0 c.own_span-first.result c.own_span-first.ensures.2 c.args.self.now.first has.first has.from_is c.own_span-first.ensures.1)) (reach_from e n base c.span-beside.result has.beside.place has.beside.place_in (c.span-beside.ensures (corner_at e has.beside.place) n (has.convex.weight has.beside.place has.beside.place_in) has.beside.near turned)) c.and-edge.ensures.low c.and-edge.ensures.high in
    let own = outlook_past e o n base c.and-edge.result c.own_span-own_span.result _ c.past-at_own.result of_edge (reach_from o n base c.own_span-own_span.result k k_in (lies_near c.args.self.now c.turn-turn.result (corner_at o k) n (convex.weight k k_in) turned c.own_span-own_span.ensures.0 c.own_span-own_span.result c.own_span-own_span.ensures.2 c.args.own.now own_is through c.own_span-own_span.ensures.1)) (outlook_begins e o n _ refl refl) c.past-at_own.ensures.ahead c.past-at_own.ensures.back in
    let at_before = outlook_past e o n base c.and-edge.result c.span-before_span.result c.past-at_own.result c.past-at_before.result of_edge (reach_from o n base c.span-before_span.result before.place before.place_in (c.span-before_span.ensures (corner_at o before.place) n (convex.weight before.place before.place_in) before.near turned)) own c.past-at_before.ensures.ahead c.past-at_before.ensures.back in
    let at_after = outlook_past e o n base c.and-edge.result c.span-after_span.result c.past-at_before.result c.past-at_after.result of_edge (reach_from o n base c.span-after_span.result after.place after.place_in (c.span-after_span.ensures (corner_at o after.place) n (convex.weight after.place after.place_in) after.near turned)) at_before c.past-at_after.ensures.ahead c.past-at_after.ensures.back in
    at_after
