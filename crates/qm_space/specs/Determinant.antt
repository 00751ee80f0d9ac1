use Rattle.std.specs.Prelude.{ℤ, ◌+ℤ◌, ◌-ℤ◌, ◌*ℤ◌}
use Rattle.qm_space.specs.Plane.{Plane}

-- the determinant of three rows of three numbers
unfoldable pub determinant : ℤ → ℤ → ℤ → ℤ → ℤ → ℤ → ℤ → ℤ → ℤ → ℤ
determinant a1 a2 a3 b1 b2 b3 c1 c2 c3 =
    ((a1 *ℤ ((b2 *ℤ c3) -ℤ (b3 *ℤ c2))) -ℤ (a2 *ℤ ((b1 *ℤ c3) -ℤ (b3 *ℤ c1)))) +ℤ (a3 *ℤ ((b1 *ℤ c2) -ℤ (b2 *ℤ c1)))

-- the determinant of the four planes' rows of four numbers, along its first row
unfoldable pub determinant_of_four : Plane → Plane → Plane → Plane → ℤ
determinant_of_four h a b c =
    (((h.nx *ℤ determinant a.ny a.nz a.d b.ny b.nz b.d c.ny c.nz c.d)
    -ℤ (h.ny *ℤ determinant a.nx a.nz a.d b.nx b.nz b.d c.nx c.nz c.d))
    +ℤ (h.nz *ℤ determinant a.nx a.ny a.d b.nx b.ny b.d c.nx c.ny c.d))
    -ℤ (h.d *ℤ determinant a.nx a.ny a.nz b.nx b.ny b.nz c.nx c.ny c.nz)
