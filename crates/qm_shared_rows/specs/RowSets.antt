use Rattle.std.specs.Prelude.{ℕ, ◌*◌, ◌≤◌}

-- What the rows are of that are shared: how many portals there are, of how many words each row is, and how many leaves are
-- numbered, each of which has a bit there; and for each portal two sets of leaves, by their numbers. A row has all numbered
-- leaves of the first set, in sight of the portal, and a finished row has only leaves of the second, its bound. No law rests on
-- which sets these are.
pub record RowSets : Type 1 where
  pub portals : ℕ
  pub width : ℕ
  pub leaves : ℕ
  pub wide : leaves ≤ 64 * width
  pub InSight : ℕ → ℕ → Type 0
  pub InBound : ℕ → ℕ → Type 0
