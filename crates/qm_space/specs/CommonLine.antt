use Rattle.std.specs.Prelude.{◌≤◌, ◌^◌, ℤ, ◌+ℤ◌, ◌-ℤ◌, ◌*ℤ◌, unsigned_abs}
use Rattle.qm_space.specs.Plane.{Plane}

-- a line by six numbers: its direction, and its moment about the origin
pub record CommonLine : Type 0 where
  pub along_x : ℤ
  pub along_y : ℤ
  pub along_z : ℤ
  pub moment_x : ℤ
  pub moment_y : ℤ
  pub moment_z : ℤ

-- the line in which two planes meet
unfoldable pub common_line : Plane → Plane → CommonLine
common_line a b = record {
  along_x = (a.ny *ℤ b.nz) -ℤ (a.nz *ℤ b.ny);
  along_y = (a.nz *ℤ b.nx) -ℤ (a.nx *ℤ b.nz);
  along_z = (a.nx *ℤ b.ny) -ℤ (a.ny *ℤ b.nx);
  moment_x = (a.nx *ℤ b.d) -ℤ (a.d *ℤ b.nx);
  moment_y = (a.ny *ℤ b.d) -ℤ (a.d *ℤ b.ny);
  moment_z = (a.nz *ℤ b.d) -ℤ (a.d *ℤ b.nz);
}

-- the direction of one line with the moment of another
unfoldable pub moment_about : CommonLine → CommonLine → ℤ
moment_about l m = ((l.along_x *ℤ m.moment_x) +ℤ (l.along_y *ℤ m.moment_y)) +ℤ (l.along_z *ℤ m.moment_z)

-- the product of two lines, which is 0 where they meet
unfoldable pub line_product : CommonLine → CommonLine → ℤ
line_product l m = moment_about l m +ℤ moment_about m l

-- the sizes of the numbers of a line in which two reduced planes meet
pub record HasLineSizes (l : CommonLine) : Type 0 where
  pub along_x : unsigned_abs l.along_x ≤ 2 ^ 53
  pub along_y : unsigned_abs l.along_y ≤ 2 ^ 53
  pub along_z : unsigned_abs l.along_z ≤ 2 ^ 53
  pub moment_x : unsigned_abs l.moment_x ≤ 2 ^ 71
  pub moment_y : unsigned_abs l.moment_y ≤ 2 ^ 71
  pub moment_z : unsigned_abs l.moment_z ≤ 2 ^ 71
