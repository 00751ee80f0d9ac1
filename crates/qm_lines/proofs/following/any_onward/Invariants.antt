use Rattle.qm_lines.proofs.following.any_onward.Given as goal

-- the source goes on from what it was
abbrev pub invariant-loop-portal : goal.invariant-loop-portal
invariant-loop-portal g l = record { on : g.S.RowSource.goes_on l.fn.source l.source }
