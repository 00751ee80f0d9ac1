use Rattle.std.specs.Prelude.{◌≡◌, ℕ, ◌<◌, ◌^◌, List, length, IsTrue, Some, slice_get}
use Rattle.std.specs.BTreeMap.{BTreeMap, get}
use Rattle.qm_space.specs.Plane.{Plane}
use Rattle.qm_space.specs.Reduced.{leads_positive, IsReduced}
use Rattle.qm_space.specs.Entered.{plane_cmp}

-- the numbers say of each plane its place in the list, and of no other plane a number
pub record IsNumbered (planes : List Plane) (numbers : BTreeMap Plane ℕ) : Type 0 where
  pub reduced : (n : ℕ) (plane : Plane) → slice_get planes n ≡ Some plane → IsReduced plane
  pub leads : (n : ℕ) (plane : Plane) → slice_get planes n ≡ Some plane → IsTrue (leads_positive plane)
  pub placed : (n : ℕ) (plane : Plane) → slice_get planes n ≡ Some plane → get plane_cmp numbers plane ≡ Some n
  pub found : (n : ℕ) (plane : Plane) → get plane_cmp numbers plane ≡ Some n → slice_get planes n ≡ Some plane
  pub short : length planes < 2 ^ 32
