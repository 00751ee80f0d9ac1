use Rattle.std.proofs.lemmas.Option.{MatchOption-at_some, MatchOption-at_none}
use Rattle.qm_outlines.proofs.ModelNumbers.{one_more_number, no_more_number}
use Rattle.qm_models.proofs.numbers.add_number.Goals as goal

pub returns-in_ok-push-in-Some : goal.returns-in_ok-push-in-Some
returns-in_ok-push-in-Some c = λ leaves found.
    rw c.in_ok-push-in-Some.ensures.items
    (one_more_number c.args.world.now.tree leaves c.args.numbers.now.items c.args.leaf found c.in-Some.number (MatchOption-at_some _ _ c.in-Some.number c.in-Some.is c.number.ensures))

pub returns-in-None : goal.returns-in-None
returns-in-None c = λ leaves found.
    no_more_number c.args.world.now.tree leaves c.args.numbers.now.items c.args.leaf found (MatchOption-at_none _ _ c.in-None.is c.number.ensures)
