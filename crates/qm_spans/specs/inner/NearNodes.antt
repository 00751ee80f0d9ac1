use Rattle.std.specs.Prelude.{ℕ, ◌≤◌, get_or, unsigned_abs}
use Rattle.qm_space.specs.Bounds.{cube_distance_bound}
use Rattle.qm_space.specs.Book.{plane_at}
use Rattle.qm_partition.specs.Tree.{Tree}
use Rattle.qm_partition.specs.Counting.{node_planes}

-- the plane of the node of a number is no farther than a plane can be that has a point of the closed cube
abbrev pub IsNearNode : Tree → ℕ → Type 0
IsNearNode tree k = unsigned_abs (plane_at tree.planes (get_or (node_planes tree.shape) k 0)).d ≤ cube_distance_bound
