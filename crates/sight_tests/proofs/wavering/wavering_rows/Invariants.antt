use Rattle.std.proofs.Common.{◌≡◌}
use Rattle.sight_tests.proofs.wavering.wavering_rows.Given as goal

-- the source is over this world
abbrev pub invariant-loop-portal : goal.invariant-loop-portal
invariant-loop-portal g l = l.source.wide.world ≡ l.world
