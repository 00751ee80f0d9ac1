use Rattle.std.proofs.Common.{ℕ, ◌<◌, length}
use Rattle.std.specs.Prelude.{All}
use Rattle.std.proofs.lemmas.List.Elements.{All-weaker}
use Rattle.qm_board.specs.PassOf.{findings_of}
use Rattle.qm_crew.specs.inner.TurnsTaken.{IsWorkList}
use Rattle.qm_crew.proofs.settling.settle.Goals as goal

pub listed-requires-clause-others : goal.listed-requires-clause-others
listed-requires-clause-others c =
    All-weaker (IsWorkList c.args.shared.now.world.now (findings_of c.args.begun.pass)) (All (λ (number : ℕ). number < length c.args.shared.now.world.now.portals)) (λ list is. is.in_range) c.args.others.now c.requires.settled.rest
