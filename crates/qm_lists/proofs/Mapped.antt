-- The elements of what a function gives of a list.
use Rattle.std.proofs.Common.{◌≡◌, zero, suc, List, [], ◌∷◌, map, Contains, refl, arith}

-- each of these comes from an element
pub Contains-from_map : {X Y : Type 0} (f : X → Y) (xs : List X) (y : Y) → Contains (map f xs) y → (x : X) × Contains xs x × (f x ≡ y)
Contains-from_map f [] y (k, within, at) = absurd (omega arith)
Contains-from_map f (x ∷ xs) y (zero, within, at) = (x, (0, omega arith, refl), at)
Contains-from_map f (x ∷ xs) y (suc k, within, at) =
    let rest = Contains-from_map f xs y (k, omega arith, at) in
    (rest.0, (suc rest.1.0, let h = rest.1.1 in omega arith, rest.1.2), rest.2)
