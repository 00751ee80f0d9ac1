use Rattle.std.proofs.Common.{refl}
use Rattle.qm_listing.proofs.PortalLines.{none_put, one_put}
use Rattle.qm_prt.proofs.printing.put_lines.Goals as goal

pub loop-j-init : goal.loop-j-init
loop-j-init c = none_put _ _

pub loop-j-preserved : goal.loop-j-preserved
loop-j-preserved c = one_put _ c.loop-j.j _ _ _ _ c.in_ok-line.line c.loop-j.invariant c.in_ok-line.ensures refl c.in_ok-append.ensures
