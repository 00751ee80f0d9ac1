use Rattle.std.specs.Prelude.{ℕ, List, [], ◌∷◌, ◌++◌, flat_map, codes}
use Rattle.std.specs.Fmt.{decimal}

-- The texts that the program prints; each line ends with the byte 10.

abbrev pub line : List ℕ → List ℕ
line text = text ++ (10 ∷ [])

unfoldable pub usage_text : List ℕ
usage_text = line (codes "usage: qmapc compile MAP OUT [--prt FILE] [--threads N] [--fast] [--hulls] [--models] [--faces] | inspect TREE QUERY.. | format MAP OUT | demo N NUMBER | upgrade TREE OUT")

unfoldable pub read_fault_text : List ℕ
read_fault_text = line (codes "read fault")

unfoldable pub write_fault_text : List ℕ
write_fault_text = line (codes "write fault")

-- a line of a name and a count
abbrev pub line_of_count : List ℕ → ℕ → List ℕ
line_of_count name count = line (name ++ (32 ∷ decimal count))

-- a line of the version that a tree file had before it was upgraded, and of the one that it has then
unfoldable pub upgrade_text : ℕ → List ℕ
upgrade_text version = line (codes "version " ++ (decimal version ++ codes " to 2"))

-- a line of an entity, by its number in the map, and one of the leaves of its trail, each after a space
unfoldable pub leak_text : ℕ → List ℕ → List ℕ
leak_text entity trail =
    line (codes "leak: entity " ++ decimal entity) ++ line (codes "trail:" ++ flat_map (λ leaf. 32 ∷ decimal leaf) trail)
