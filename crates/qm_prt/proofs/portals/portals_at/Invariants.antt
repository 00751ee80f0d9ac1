use Rattle.qm_formats.specs.Layout.{many}
use Rattle.qm_formats.proofs.ReadLists.{IsReadSoFar}
use Rattle.qm_listing.specs.Grammar.{portal_layout}
use Rattle.qm_prt.proofs.portals.portals_at.Given as goal

-- some portals are read, and what is read of the others completes them
abbrev pub invariant-loop : goal.invariant-loop
invariant-loop l = IsReadSoFar (λ _. portal_layout l.leaves) l.count l.text ((many (portal_layout l.leaves) l.count).read l.text l.at) l.portals.items l.counter l.next
