use Rattle.std.proofs.Common.{Option, subst}
use Rattle.std.specs.Option.{MatchOption}
use Rattle.qm_convex.specs.Winding.{Winding}
use Rattle.qm_convex.specs.Cut.{IsPartWithin, HasNoneWithin}
use Rattle.qm_convex.specs.World.{MissesCube, IsWorldPart}
use Rattle.qm_split.proofs.SectionsOfCells.{section_within}
use Rattle.qm_split.proofs.section.section_of_cell.Goals as goal

pub returns : goal.returns
returns c = section_within c.args.cell.now c.args.plane.now c.requires c.in-Some.whole
    (subst (λ (o : Option Winding). MatchOption o (MissesCube c.args.plane.now) (λ w. IsWorldPart w c.args.plane.now)) c.in-Some.is c.in_ok-whole.ensures)
    c.in-Some-2.section
    (subst (λ (o : Option Winding). MatchOption o (HasNoneWithin c.in-Some.whole c.args.cell.now) (λ w. IsPartWithin w c.in-Some.whole c.args.cell.now)) c.in-Some-2.is c.in_ok-section-in-Some.ensures)
