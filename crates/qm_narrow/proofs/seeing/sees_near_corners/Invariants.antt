use Rattle.qm_narrow.proofs.seeing.sees_near_corners.Given as goal

abbrev pub invariant-loop-i : goal.invariant-loop-i
invariant-loop-i l = Unit {0}
