use Rattle.std.proofs.Common.{sym, arith}
use Rattle.std.proofs.lemmas.Result.{on_ok_weaker}
use Rattle.qm_flood.proofs.Beginning.{next_within, can_go_on, is_passed, neighbours_within}
use Rattle.qm_flood.proofs.spreading.pass.Goals as goal

pub neighbours-requires : goal.neighbours-requires
neighbours-requires c =
    let within = next_within c.args.tree.now c.args.steps.now.items c.args.found.now.items c.args.passed c.index-leaf.result.now c.requires.spreading c.requires.left (sym c.index-leaf.ensures) in
    let each = c.requires.contacts.one_each in
    omega (arith, within, each)

pub go_on-requires-clause-within : goal.go_on-requires-clause-within
go_on-requires-clause-within c = neighbours_within c.args.tree.now c.index-leaf.result.now c.neighbours.result.now (c.neighbours.ensures c.args.tree.now c.requires.contacts)

pub go_on-requires-clause-from : goal.go_on-requires-clause-from
go_on-requires-clause-from c = can_go_on c.args.tree.now c.args.steps.now.items c.args.found.now.items c.args.passed c.index-leaf.result.now c.requires.spreading c.requires.left (sym c.index-leaf.ensures)

pub returns : goal.returns
returns c =
    on_ok_weaker _
    (λ goes. is_passed c.args.tree.now c.args.steps.now.items c.args.found.now.items c.args.passed c.index-leaf.result.now c.requires.spreading c.requires.left (sym c.index-leaf.ensures)
    c.neighbours.result.now c.go_on.new.steps.items c.go_on.new.found.items (c.neighbours.ensures c.args.tree.now c.requires.contacts) goes) c.go_on.ensures
