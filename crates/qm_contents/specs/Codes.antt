use Rattle.std.specs.Prelude.{ℤ, pos, negsuc, zero, suc, ◌≤ℤ◌, Bool, false, nat_lt}
use Rattle.qm_contents.specs.declared.contents.Contents.{Contents}
use Rattle.qm_contents.specs.declared.contents.Contents.TheVariants.{Empty, Solid, Water, Slime, Lava, Sky}

-- the code of contents in a tree file: -1 to -6
abbrev pub code_of : Contents → ℤ
code_of Empty = negsuc 0
code_of Solid = negsuc 1
code_of Water = negsuc 2
code_of Slime = negsuc 3
code_of Lava = negsuc 4
code_of Sky = negsuc 5

-- a number from -6 to -1
pub record IsCode (number : ℤ) : Type 0 where
  pub low : negsuc 5 ≤ℤ number
  pub high : number ≤ℤ negsuc 0

-- whether a number is one from -6 to -1
abbrev pub is_code : ℤ → Bool
is_code (pos n) = false
is_code (negsuc n) = nat_lt n 6

-- the contents of a code, which is one of -1 to -6
abbrev pub contents_of_code : ℤ → Contents
contents_of_code (negsuc zero) = Empty
contents_of_code (negsuc (suc zero)) = Solid
contents_of_code (negsuc (suc (suc zero))) = Water
contents_of_code (negsuc (suc (suc (suc zero)))) = Slime
contents_of_code (negsuc (suc (suc (suc (suc zero))))) = Lava
contents_of_code _ = Sky
