use Rattle.std.specs.Prelude.{◌≡◌, ℕ, List, [], ◌∷◌, map, Contains}
use Rattle.qm_contacts.specs.Portals.{Portal}

-- Chains of portals that are open, over any notion of a step: in which states a chain begins with a portal, and to which
-- states it goes on from a state through a further portal. Where it goes on to none, the step blocks.

-- the leaves in which a chain from the portal p has been, its start included; a chain is listed from its last portal on
abbrev pub leaves_met : Portal → List Portal → List ℕ
leaves_met p chain = p.from ∷ map (λ q. q.to) chain

-- an open chain from the portal p, and the state to which it has led: each portal leaves the leaf that the one before it
-- enters, and enters one in which the chain has not been; no step blocks
pub data IsOpenChain {State : Type 0} (begins : Portal → State → Type 0) (goes : State → Portal → State → Type 0) (portals : List Portal) (p : Portal) : List Portal → State → Type 0 where
  alone : {state : State} → begins p state → IsOpenChain begins goes portals p (p ∷ []) state
  longer : {last q : Portal} {chain : List Portal} {state next : State} →
      IsOpenChain begins goes portals p (last ∷ chain) state →
      Contains portals q → q.from ≡ last.to → (Contains (leaves_met p (last ∷ chain)) q.to → ⊥) → goes state q next →
      IsOpenChain begins goes portals p (q ∷ last ∷ chain) next

-- the bound of the portal p: the leaves that the last portals of open chains from p enter
pub record IsInBound {State : Type 0} (begins : Portal → State → Type 0) (goes : State → Portal → State → Type 0) (portals : List Portal) (p : Portal) (n : ℕ) : Type 0 where
  pub last : Portal
  pub before : List Portal
  pub state : State
  pub open_chain : IsOpenChain begins goes portals p (last ∷ before) state
  pub ends : last.to ≡ n
