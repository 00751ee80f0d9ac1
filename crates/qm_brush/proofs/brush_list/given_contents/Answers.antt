use Rattle.std.proofs.Common.{Bool, subst}
use Rattle.std.specs.Bool.{MatchBool}
use Rattle.qm_solids.specs.Holding.{IsFull, Holds}
use Rattle.qm_solids.specs.Solid.{Solid}
use Rattle.qm_solids.specs.InBook.{solid_in}
use Rattle.qm_solids.proofs.ContentsLaws.{strongest_of_one, strongest_of_none}
use Rattle.qm_brush.specs.inner.Entries.{solid_of_entry}
use Rattle.qm_brush.proofs.brush_list.given_contents.Goals as goal

pub returns-then-not-entry : goal.returns-then-not-entry
returns-then-not-entry c =
    let its : Solid = solid_in c.args.planes.now (solid_of_entry c.args.faces.now c.args.entry.now) in
    let flat = subst (λ (b : Bool). MatchBool b (IsFull its) (IsFull its → ⊥)) c.if-not-entry.true c.requires.kept.flag in
    strongest_of_none (λ solid. Holds solid c.args.at.now) its (λ holds. flat holds.full)

pub is_in_front_of_none-requires : goal.is_in_front_of_none-requires
is_in_front_of_none-requires c = record { numbered = c.requires.kept.numbered }

pub returns-then-is_in_front_of_none : goal.returns-then-is_in_front_of_none
returns-then-is_in_front_of_none c =
    let its : Solid = solid_in c.args.planes.now (solid_of_entry c.args.faces.now c.args.entry.now) in
    let full = subst (λ (b : Bool). MatchBool b (IsFull its) (IsFull its → ⊥)) c.if-not-entry.false c.requires.kept.flag in
    strongest_of_one (λ solid. Holds solid c.args.at.now) its (record { full = full; not_in_front = c.if-is_in_front_of_none.ensures })

pub returns-else-is_in_front_of_none : goal.returns-else-is_in_front_of_none
returns-else-is_in_front_of_none c =
    let its : Solid = solid_in c.args.planes.now (solid_of_entry c.args.faces.now c.args.entry.now) in
    strongest_of_none (λ solid. Holds solid c.args.at.now) its (λ holds. c.if-is_in_front_of_none.ensures holds.not_in_front)
