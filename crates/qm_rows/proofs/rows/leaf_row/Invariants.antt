use Rattle.std.proofs.Common.{take, length}
use Rattle.qm_contacts.specs.NumberedLeaves.{numbered_leaves}
use Rattle.qm_rows.proofs.Gathering.{HasThoseOf}
use Rattle.qm_rows.proofs.rows.leaf_row.Given as goal

-- the leaf itself, and what the portals so far see
abbrev pub invariant-loop-p : goal.invariant-loop-p
invariant-loop-p l = HasThoseOf l.rows (take l.p-index l.leaving) (length (numbered_leaves l.world.tree)) l.n l.row
