use Rattle.qm_narrow.proofs.FineUnits.{fine_by}
use Rattle.qm_narrow.proofs.fine.fine_of.Goals as goal

pub returns : goal.returns
returns c =
    fine_by c.args.corner.now c.requires.in_cube c.requires.small c.fraction-x.ensures.sizes _ _ _ _ c.fraction-x.ensures.numerator c.fraction-y.ensures.numerator c.fraction-z.ensures.numerator c.fraction-x.ensures.denominator
    c.fine.result c.fine-2.result c.fine-3.result c.fine.ensures.size c.fine-2.ensures.size c.fine-3.ensures.size c.fine.ensures.exact c.fine-2.ensures.exact c.fine-3.ensures.exact
