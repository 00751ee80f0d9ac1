use Rattle.std.specs.Prelude.{ℕ}
use Rattle.qm_contacts.specs.Portals.{Portal}
use Rattle.qm_contacts.specs.World.{World}
use Rattle.qm_segments.specs.SeenVia.{IsSeenVia}
use Rattle.qm_chains.specs.Shown.{IsAt}

-- no leaf is seen from the portal of number p via the one of the other number
abbrev pub IsUnseenVia : World → ℕ → ℕ → Type 0
IsUnseenVia world p number = (first q : Portal) → IsAt world.portals p first → IsAt world.portals number q → (n : ℕ) → IsSeenVia world.tree first q n → ⊥
