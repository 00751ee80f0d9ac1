use Rattle.std.specs.Prelude.{◌≡◌, ℕ, List, Contains}
use Rattle.qm_contacts.specs.Portals.{Portal}

-- a way from the leaf of number n to that of number e over portals that each have a property
pub data Route (portals : List Portal) (Has : Portal → Type 0) : ℕ → ℕ → Type 0 where
  arrived : {n : ℕ} → Route portals Has n n
  over : {n e : ℕ} {q : Portal} → Contains portals q → q.from ≡ n → Has q → Route portals Has q.to e → Route portals Has n e
