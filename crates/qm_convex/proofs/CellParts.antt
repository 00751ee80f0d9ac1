-- What a winding has in a cell, plane by plane.
use Rattle.std.proofs.Common.{List, ◌∷◌, ◌++◌, arith}
use Rattle.qm_lists.proofs.Elements.{All-first_part, All-last_part}
use Rattle.qm_numbers.proofs.IntegerProducts.{linear}
use Rattle.qm_space.specs.Plane.{Plane, IsInFront}
use Rattle.qm_convex.specs.Winding.{Winding}
use Rattle.qm_convex.specs.Sides.{HasNoneInFront}
use Rattle.qm_convex.specs.Cut.{IsPartWithin, HasNoneWithin}

-- a plane of the cell that has nothing of it in front
pub none_within : (w left : Winding) (done rest : List Plane) (h : Plane) → IsPartWithin left w done → HasNoneInFront left h → HasNoneWithin w (done ++ h ∷ rest)
none_within w left done rest h are none x r inside =
    let not = none x ((are.points x).1 (r, All-first_part (λ g. IsInFront g x) done (h ∷ rest) inside)) in
    let ahead = All-last_part (λ g. IsInFront g x) done (h ∷ rest) inside 0 h (omega arith) in
    absurd (omega (arith, linear))
