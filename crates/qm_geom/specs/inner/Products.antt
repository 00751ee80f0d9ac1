use Rattle.std.specs.Prelude.{ℤ, ◌+ℤ◌, ◌-ℤ◌}
use Rattle.qm_space.specs.Plane.{Plane}
use Rattle.qm_space.specs.Cuboid.{Cuboid, least_product, greatest_product}
use Rattle.qm_geom.specs.declared.vector.Vector.{Vector}

-- the least and the greatest products of a plane's components and the numbers of a cuboid, for each axis
abbrev pub least_products : Plane → Cuboid → Vector
least_products h c = record { x = least_product h.nx c.x; y = least_product h.ny c.y; z = least_product h.nz c.z }

abbrev pub greatest_products : Plane → Cuboid → Vector
greatest_products h c = record { x = greatest_product h.nx c.x; y = greatest_product h.ny c.y; z = greatest_product h.nz c.z }

-- their sum less a distance
abbrev pub sum_less : Vector → ℤ → ℤ
sum_less products d = ((products.x +ℤ products.y) +ℤ products.z) -ℤ d

-- what the products of the two other axes leave of a distance, for each axis
abbrev pub left_of : Vector → ℤ → Vector
left_of products d = record { x = (d -ℤ products.y) -ℤ products.z; y = (d -ℤ products.z) -ℤ products.x; z = (d -ℤ products.x) -ℤ products.y }
