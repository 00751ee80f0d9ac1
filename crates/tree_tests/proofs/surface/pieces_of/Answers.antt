use Rattle.std.proofs.Common.{inr}
use Rattle.tree_tests.proofs.surface.pieces_of.Goals as goal

pub faces-requires-clause-gives : goal.faces-requires-clause-gives
faces-requires-clause-gives c =
    let its = c.in_ok-tree.ensures.contents in
    record { named = its.named; normals = its.normals; gives = λ x in_cube off. inr (its.gives x in_cube off) }
