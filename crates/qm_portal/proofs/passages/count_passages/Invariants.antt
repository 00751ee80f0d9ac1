use Rattle.std.proofs.Common.{◌≡◌, take}
use Rattle.std.specs.Prelude.{count_by}
use Rattle.qm_contacts.specs.Portals.{is_passage}
use Rattle.qm_portal.proofs.passages.count_passages.Given as goal

-- the passages of the pairs so far are counted
abbrev pub invariant-loop-pair : goal.invariant-loop-pair
invariant-loop-pair l = l.count ≡ count_by (is_passage l.tree) (take l.pair-index l.pairs)
