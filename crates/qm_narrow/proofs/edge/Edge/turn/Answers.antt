use Rattle.std.proofs.Common.{refl}
use Rattle.qm_narrow.proofs.TurnedNormals.{is_turned}
use Rattle.qm_narrow.proofs.edge.Edge.turn.Goals as goal

pub returns-clause-turned : goal.returns-clause-turned
returns-clause-turned c = λ p n is through.
    is_turned c.args.self.now _ c.args.spot.now p n is through c.normal_through.ensures.exact c.requires.edge.length refl
