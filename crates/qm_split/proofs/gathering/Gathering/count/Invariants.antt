use Rattle.std.proofs.Common.{◌≡◌, ◌-◌, ◌^◌, take}
use Rattle.std.specs.Prelude.{min}
use Rattle.qm_split.specs.CellFragments.{pieces_of}
use Rattle.qm_split.proofs.gathering.Gathering.count.Given as goal

-- the pieces of the contenders so far
abbrev pub invariant-loop-contender : goal.invariant-loop-contender
invariant-loop-contender l = l.count ≡ min (pieces_of (take l.contender-index l.contender-items)) (2 ^ 64 - 1)
