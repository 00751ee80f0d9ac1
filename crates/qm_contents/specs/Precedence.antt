use Rattle.std.specs.Prelude.{ℕ, zero, suc, ◌≤◌, ◌==◌, Bool, nat_lt, if◌then◌else◌}
use Rattle.qm_contents.specs.declared.contents.Contents.{Contents}
use Rattle.qm_contents.specs.declared.contents.Contents.TheVariants.{Empty, Solid, Water, Slime, Lava, Sky}

-- how strong contents are: of the brushes that hold a point the strongest says what is there
abbrev pub strength : Contents → ℕ
strength Empty = 0
strength Water = 1
strength Slime = 2
strength Lava = 3
strength Sky = 4
strength Solid = 5

-- the contents of a strength
abbrev pub contents_of_strength : ℕ → Contents
contents_of_strength zero = Empty
contents_of_strength (suc zero) = Water
contents_of_strength (suc (suc zero)) = Slime
contents_of_strength (suc (suc (suc zero))) = Lava
contents_of_strength (suc (suc (suc (suc zero)))) = Sky
contents_of_strength (suc (suc (suc (suc (suc n))))) = Solid

-- no stronger than others
abbrev pub IsAtMost : Contents → Contents → Type 0
IsAtMost a b = strength a ≤ strength b

-- whether two kinds of contents are the same: no two kinds are equally strong
abbrev pub is_same_contents : Contents → Contents → Bool
is_same_contents a b = strength a == strength b

-- the stronger of two
abbrev pub stronger : Contents → Contents → Contents
stronger a b = if nat_lt (strength a) (strength b) then b else a
