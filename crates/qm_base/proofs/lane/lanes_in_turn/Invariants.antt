use Rattle.std.proofs.Common.{◌≡◌, ℕ, ◌<◌, length}
use Rattle.std.specs.List.{All}
use Rattle.qm_base.specs.inner.Lanes.{IsLane, HasLane}
use Rattle.qm_base.proofs.lane.lanes_in_turn.Given as goal

-- the portals so far have their lanes
abbrev pub invariant-loop-p : goal.invariant-loop-p
invariant-loop-p l = (length l.lanes.items ≡ l.p) × All (IsLane l.world.portals) l.lanes.items × ((q : ℕ) → q < l.p → HasLane l.lanes.items q)
