use Rattle.std.proofs.Common.{subst, sym, arith}
use Rattle.std.specs.Mem.Slots.{slots_items}
use Rattle.qm_board.specs.PassOf.{world_of, given_of, findings_of}
use Rattle.qm_board.specs.Reached.{AreReachedRows}
use Rattle.qm_board.specs.Closed.{AreClosedRows}
use Rattle.qm_board.proofs.ClosedRows.{closed_of_sizes, reached_of_sizes}
use Rattle.qm_board.proofs.row_board.RowBoard.close.Goals as goal

pub free-requires : goal.free-requires
free-requires c = λ k less. absurd (let long = c.close_with-closed.ensures.counts.1 in let none = c.args.self.no_slots in omega (arith, long, none, less))

pub returns-clause-rows : goal.returns-clause-rows
returns-clause-rows c =
    let world = world_of c.args.self in
    let sized = c.args.self.sized in
    let final = c.close_with-closed.ensures.values.2 in
    subst (AreClosedRows world (findings_of c.args.pass)) (sym c.from_vec.ensures)
    (closed_of_sizes world (slots_items c.close_with-closed.result.words) c.args.self.portals c.args.self.width c.args.self.leaves c.in_ok-rows.field-0.items sized.portals_are sized.width_is sized.leaves_are c.in_ok-rows.ensures
    (given_of c.args.self) final.0 final.1.0 final.2 c.args.pass.seat.id c.args.pass.seat.me.0 final.1.1)

pub returns-clause-reached : goal.returns-clause-reached
returns-clause-reached c =
    let world = world_of c.args.self in
    let sized = c.args.self.sized in
    let final = c.close_with-closed.ensures.values.2 in
    subst (AreReachedRows world (given_of c.args.self) (findings_of c.args.pass)) (sym c.from_vec.ensures)
    (reached_of_sizes world (slots_items c.close_with-closed.result.words) c.args.self.portals c.args.self.width c.args.self.leaves c.in_ok-rows.field-0.items sized.portals_are sized.width_is sized.leaves_are c.in_ok-rows.ensures
    (given_of c.args.self) final.0 final.1.0 final.2 c.args.pass.seat.id c.args.pass.seat.me.0 final.1.1)
