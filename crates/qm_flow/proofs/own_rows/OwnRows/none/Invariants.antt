use Rattle.std.proofs.Common.{◌≡◌, replicate}
use Rattle.qm_flow.specs.declared.own_rows.Place.TheVariants.{NotYet}
use Rattle.qm_flow.proofs.own_rows.OwnRows.none.Given as goal

-- for so many portals there is no row yet
abbrev pub invariant-loop-portal : goal.invariant-loop-portal
invariant-loop-portal l = l.places.items ≡ replicate l._portal NotYet
