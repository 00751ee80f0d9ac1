use Rattle.std.proofs.Common.{◌∙◌, ap}
use Rattle.qm_space.specs.Plane.{flipped}
use Rattle.qm_wind.specs.Clipped.{is_front}
use Rattle.qm_wind.proofs.pane.Pane.entering.Goals as goal
use Rattle.qm_wind.proofs.pane.Pane.entering.Goals.{in-Front, in-Back}

pub returns-clause-into : goal.returns-clause-into
returns-clause-into c = elim c.match-side.branch [
  | in-Front w ↦ rw w.in-Front.is (w.into-is ∙ c.plane-plane.ensures)
  | in-Back w ↦ rw w.in-Back.is (w.into-is ∙ w.flipped-into.ensures ∙ ap flipped c.plane-plane.ensures)
]

pub returns-clause-pane : goal.returns-clause-pane
returns-clause-pane c = record { side = is_front c.args.side; into = returns-clause-into c }
