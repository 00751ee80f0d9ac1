use Rattle.qm_listing.specs.inner.PutLines.{ArePutLines}
use Rattle.qm_prt.proofs.printing.put_lines.Given as goal

-- the first lines are put
abbrev pub invariant-loop-j : goal.invariant-loop-j
invariant-loop-j l = ArePutLines l.world.portals l.j l.fn.text.items l.text.items
