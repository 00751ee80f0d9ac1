-- A source that answers about the same world may be asked about the same portals and leaves.
use Rattle.std.proofs.Common.{◌≡◌, ◌<◌, ℕ, length, sym, subst}
use Rattle.qm_contacts.specs.NumberedLeaves.{numbered_leaves}
use Rattle.qm_contacts.specs.World.{World}

module _ (world answered : World) (same : answered ≡ world) where
  pub asked_portal : (number : ℕ) → number < length world.portals → number < length answered.portals
  asked_portal number within = subst (λ (w : World). number < length w.portals) (sym same) within

  pub asked_leaf : (leaf : ℕ) → leaf < length (numbered_leaves world.tree) → leaf < length (numbered_leaves answered.tree)
  asked_leaf leaf within = subst (λ (w : World). leaf < length (numbered_leaves w.tree)) (sym same) within
