use Rattle.std.specs.Prelude.{◌≡◌, ℕ, List, [], ◌∷◌, Contains}
use Rattle.qm_space.specs.Point.{Point}
use Rattle.qm_space.specs.Line.{IsBetween}
use Rattle.qm_contacts.specs.Portals.{Portal}
use Rattle.qm_segments.specs.Segment.{Segment}
use Rattle.qm_segments.specs.GoesThrough.{GoesThrough}

-- The portals by which a segment goes from the point x on, one after another, each leaving the leaf that was entered last:
-- from the leaf of number n to that of number e.
pub data GoesBy (portals : List Portal) (s : Segment) : Point → ℕ → List Portal → ℕ → Type 0 where
  ends : {x : Point} {n : ℕ} → GoesBy portals s x n [] n
  through : {x y : Point} {n e : ℕ} {q : Portal} {rest : List Portal} →
      Contains portals q → q.from ≡ n → IsBetween y x s.to → GoesThrough s q y → GoesBy portals s y q.to rest e →
      GoesBy portals s x n (q ∷ rest) e
