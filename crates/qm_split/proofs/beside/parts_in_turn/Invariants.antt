use Rattle.std.proofs.Common.{◌≡◌, ◌+◌, length}
use Rattle.qm_split.specs.inner.CubeParts.{ArePartsOfCube}
use Rattle.qm_split.proofs.beside.parts_in_turn.Given as goal

-- the parts of the first brushes
abbrev pub invariant-loop-i : goal.invariant-loop-i
invariant-loop-i l = record {
  follows : l.from + length l.parts.items ≡ l.i;
  are : ArePartsOfCube l.book l.list l.from l.parts.items;
}
