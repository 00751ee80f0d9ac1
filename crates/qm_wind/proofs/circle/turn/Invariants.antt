use Rattle.std.proofs.Common.{◌≡◌}
use Rattle.qm_convex.specs.Rotation.{rotated_list}
use Rattle.qm_wind.proofs.circle.turn.Given as goal

abbrev pub invariant-loop-step : goal.invariant-loop-step
invariant-loop-step g l = record {
  items : l.list.items ≡ rotated_list l._step l.fn.list.items;
  capacity : l.list.capacity ≡ l.fn.list.capacity;
}
