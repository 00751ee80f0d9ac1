-- The planes of a winding's edges among other planes.
use Rattle.std.proofs.Common.{List, ◌∷◌, ◌++◌}
use Rattle.std.specs.List.{All, Contains}
use Rattle.std.proofs.lemmas.List.Elements.{All-append, All-cons, All-contains, All-contains_itself, All-weaker, Contains-append_right}
use Rattle.qm_lists.proofs.Elements.{All-first_part, Contains-later}
use Rattle.qm_space.specs.Plane.{Plane}
use Rattle.qm_convex.specs.Winding.{Winding, HasEdgesAmong}
use Rattle.qm_convex.specs.Cut.{IsPartInFront, IsPartWithin}

-- ---- planes among those of two lists

pub first_among : (first second : List Plane) → All (Contains (first ++ second)) first
first_among first second = All-first_part (Contains (first ++ second)) first second (All-contains_itself (first ++ second))

pub second_among : (first second some : List Plane) → All (Contains second) some → All (Contains (first ++ second)) some
second_among first second some are = All-weaker (Contains second) (Contains (first ++ second)) (λ h has. Contains-append_right first second h has) some are

-- ---- a winding's edges

-- its own edges, and one plane more
pub own_edges : (v : Winding) → HasEdgesAmong v v.edges
own_edges v = All-contains_itself v.edges

pub own_edges_later : (v : Winding) (g : Plane) → HasEdgesAmong v (g ∷ v.edges)
own_edges_later v g = All-weaker (Contains v.edges) (Contains (g ∷ v.edges)) (λ h has. Contains-later g h v.edges has) v.edges (own_edges v)

-- planes that are among other planes, which have what these have
pub edges_among : (v : Winding) (planes more : List Plane) → All (Contains more) planes → HasEdgesAmong v planes → HasEdgesAmong v more
edges_among v planes more outer inner = All-weaker (Contains planes) (Contains more) (λ h has. All-contains (Contains more) planes h outer has) v.edges inner

-- what planes have that hold the plane of a cut and the edges of what it cuts
pub edges_of_part : (w v : Winding) (g : Plane) (planes : List Plane) → IsPartInFront w v g → Contains planes g → HasEdgesAmong v planes → HasEdgesAmong w planes
edges_of_part w v g planes part has edges = edges_among w (g ∷ v.edges) planes (All-cons (Contains planes) g v.edges has edges) part.edges

pub edges_within : (w v : Winding) (gs planes : List Plane) → IsPartWithin w v gs → All (Contains planes) gs → HasEdgesAmong v planes → HasEdgesAmong w planes
edges_within w v gs planes part have edges = edges_among w (gs ++ v.edges) planes (All-append (Contains planes) gs v.edges have edges) part.edges
