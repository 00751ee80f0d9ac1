use Rattle.std.proofs.Common.{sym, subst}
use Rattle.std.proofs.lemmas.Result.{IfOk-weaker}
use Rattle.qm_split.specs.inner.Parts.{IsWindingInCell}
use Rattle.qm_split.proofs.MadeFragments.{section_of_piece}
use Rattle.qm_split.proofs.fragments.Fragments.section.Goals as goal

pub returns-in-Some : goal.returns-in-Some
returns-in-Some c = IfOk-weaker c.copy.result _ _
    (λ w same. λ solids book cell are. subst (IsWindingInCell cell c.args.plane.now) (sym same) (section_of_piece solids book cell c.args.self.now are c.args.plane.now c.in-Some.winding.now c.in-Some.ensures))
    c.copy.ensures.same
