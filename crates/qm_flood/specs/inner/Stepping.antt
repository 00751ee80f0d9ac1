use Rattle.std.specs.Prelude.{ℕ, List}
use Rattle.qm_partition.specs.Tree.{Tree}
use Rattle.qm_contacts.specs.Contacts.{Contacts, AreContacts}
use Rattle.qm_flood.specs.inner.Spreading.{AreLeafSteps}

-- the steps of the leaves of a tree that has these contacts
pub record AreStepsOver (tree : Tree) (contacts : Contacts) (steps : List ℕ) : Type 0 where
  pub are_contacts : AreContacts tree contacts
  pub are_steps : AreLeafSteps tree steps
