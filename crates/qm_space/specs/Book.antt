use Rattle.std.specs.Prelude.{◌≡◌, ℕ, ◌<◌, ◌^◌, pos, List, length, IsTrue, Some, slice_get, slice_index_or}
use Rattle.qm_space.specs.Plane.{Plane}
use Rattle.qm_space.specs.Reduced.{leads_positive, IsReduced}

-- A book is a list of planes; a plane's number is its place in it, counted from 0.

-- the plane of a number; a number that is not there names no plane: its four numbers are 0, and every point is on it
abbrev pub plane_at : List Plane → ℕ → Plane
plane_at planes n = slice_index_or planes n (record { nx = pos 0; ny = pos 0; nz = pos 0; d = pos 0 })

-- no plane is at two places
abbrev pub AreDistinct : List Plane → Type 0
AreDistinct planes =
    (m n : ℕ) (plane : Plane) → slice_get planes m ≡ Some plane → slice_get planes n ≡ Some plane → m ≡ n

-- what every list of a book's planes is: the planes are in lowest terms, each leads with a positive
-- component, no plane is there twice, and their places are numbers of 32 bits
pub record AreBookPlanes (planes : List Plane) : Type 0 where
  pub reduced : (n : ℕ) (plane : Plane) → slice_get planes n ≡ Some plane → IsReduced plane
  pub leads : (n : ℕ) (plane : Plane) → slice_get planes n ≡ Some plane → IsTrue (leads_positive plane)
  pub distinct : AreDistinct planes
  pub short : length planes < 2 ^ 32
