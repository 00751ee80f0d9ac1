use Rattle.qm_lines.proofs.trace.Trace.enter.Goals as goal

pub to-to-requires : goal.to-to-requires
to-to-requires c = c.requires
