use Rattle.std.specs.Prelude.{ℕ, ◌*◌, ◌^◌, ℤ, pos, ◌*ℤ◌, unsigned_abs}
use Rattle.qm_space.specs.declared.bounds.TheConstants.{WORLD_EXTENT}

-- Each bound of the world and of its planes, by what it bounds. What code holds in numbers of 32, 64 and 128 bits
-- follows from these.

-- the world is the open cube in which each coordinate lies strictly between this number and its opposite
abbrev pub extent : ℤ
extent = WORLD_EXTENT

-- the same as a natural number
abbrev pub world_extent : ℕ
world_extent = unsigned_abs WORLD_EXTENT

-- the same in thousandths of a map unit, in which the points of faces are given
abbrev pub thousandths_extent : ℤ
thousandths_extent = pos 1000 *ℤ extent

abbrev pub thousandths_bound : ℕ
thousandths_bound = 1000 * world_extent

-- a coordinate of a corner that code rounds
abbrev pub rounded_bound : ℕ
rounded_bound = 65536

-- a component of a plane's normal
abbrev pub normal_bound : ℕ
normal_bound = 2 ^ 26

-- a plane's distance
abbrev pub distance_bound : ℕ
distance_bound = 2 ^ 44

-- a component of a plane's normal times a coordinate of the closed cube
abbrev pub product_bound : ℕ
product_bound = normal_bound * world_extent

-- the distance of a plane that has a point of the closed cube, where no component of its normal is beyond its bound
abbrev pub cube_distance_bound : ℕ
cube_distance_bound = 3 * product_bound

-- a component of the normal of three whole points, before it is brought to lowest terms
abbrev pub whole_normal_bound : ℕ
whole_normal_bound = 4 * (world_extent * world_extent)

-- the same of three points in thousandths, over their numerators
abbrev pub outward_normal_bound : ℕ
outward_normal_bound = 4 * (thousandths_bound * thousandths_bound)

-- a component of the normal of the plane that three points in thousandths span, and its distance
abbrev pub spanned_normal_bound : ℕ
spanned_normal_bound = 1000 * outward_normal_bound

abbrev pub spanned_distance_bound : ℕ
spanned_distance_bound = 3 * (spanned_normal_bound * world_extent)

-- x, y and z of the point in which three planes meet
abbrev pub meet_bound : ℕ
meet_bound = 3 * 2 ^ 97

-- w of the point in which three planes meet
abbrev pub meet_weight_bound : ℕ
meet_weight_bound = 3 * 2 ^ 79

-- a plane's value at the point in which three planes meet
abbrev pub meet_value_bound : ℕ
meet_value_bound = 3 * 2 ^ 125
