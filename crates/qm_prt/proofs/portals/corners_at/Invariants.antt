use Rattle.qm_formats.specs.Layout.{many}
use Rattle.qm_formats.proofs.ReadLists.{IsReadSoFar}
use Rattle.qm_listing.specs.Grammar.{corner_layout}
use Rattle.qm_prt.proofs.portals.corners_at.Given as goal

-- some corners are read, and what is read of the others completes them
abbrev pub invariant-loop : goal.invariant-loop
invariant-loop l = IsReadSoFar (λ _. corner_layout) l.points l.text ((many corner_layout l.points).read l.text l.at) l.corners.items l.counter l.next
