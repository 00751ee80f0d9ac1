use Rattle.std.specs.Prelude.{◌≡◌, ℕ, List, [], ◌∷◌, Contains}
use Rattle.qm_space.specs.Point.{Point}
use Rattle.qm_contacts.specs.Portals.{Portal}
use Rattle.qm_segments.specs.Segment.{Segment}
use Rattle.qm_segments.specs.GoesThrough.{GoesThrough}

-- The segment goes through each portal of a way from the leaf of number n to that of number e, wherever on it that is.
pub data CrossesWay (portals : List Portal) (s : Segment) : ℕ → List Portal → ℕ → Type 0 where
  crossed : {n : ℕ} → CrossesWay portals s n [] n
  crosses : {x : Point} {n e : ℕ} {q : Portal} {rest : List Portal} →
      Contains portals q → q.from ≡ n → GoesThrough s q x → CrossesWay portals s q.to rest e →
      CrossesWay portals s n (q ∷ rest) e
