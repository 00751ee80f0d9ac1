-- The trail as it is found, from leaf to leaf.
use Rattle.std.proofs.Common.{◌≡◌, ℕ, List, [], ◌∷◌, ◌++◌, append_assoc, sym, subst}
use Rattle.std.proofs.lemmas.List.{append-nil}
use Rattle.qm_lists.specs.inner.Steps.{steps_of}
use Rattle.qm_partition.specs.Tree.{Tree}
use Rattle.qm_contacts.specs.Contacts.{Contacts}
use Rattle.qm_contacts.specs.Leak.{IsTrail}
use Rattle.qm_contacts.specs.inner.Descends.{IsNextOfTrail, Descends, out, down}
use Rattle.qm_contacts.proofs.Trails.{descends_is_trail}
use Rattle.qm_flood.specs.inner.Stepping.{AreStepsOver}

-- whatever way goes down from the last leaf completes the trail
abbrev pub IsUnderWay : Contacts → List ℕ → ℕ → ℕ → List ℕ → Type 0
IsUnderWay contacts steps leaf last trail = (tree : Tree) → AreStepsOver tree contacts steps → (rest : List ℕ) → Descends tree steps last (last ∷ rest) → Descends tree steps leaf (trail ++ rest)

pub goes_down : (contacts : Contacts) (steps : List ℕ) (leaf last next : ℕ) (trail : List ℕ) → IsUnderWay contacts steps leaf last trail → ((tree : Tree) → AreStepsOver tree contacts steps → IsNextOfTrail tree steps last next) → IsUnderWay contacts steps leaf next (trail ++ next ∷ [])
goes_down contacts steps leaf last next trail completes near tree are rest descends =
    subst (λ (all : List ℕ). Descends tree steps leaf all) (sym (append_assoc trail (next ∷ []) rest)) (completes tree are (next ∷ rest) (down (near tree are) descends))

pub is_down : (contacts : Contacts) (steps : List ℕ) (leaf last : ℕ) (trail : List ℕ) → IsUnderWay contacts steps leaf last trail → steps_of steps last ≡ 1 → (tree : Tree) → AreStepsOver tree contacts steps → IsTrail tree leaf trail
is_down contacts steps leaf last trail completes one tree are =
    descends_is_trail tree steps are.are_steps.are leaf trail
    (subst (λ (all : List ℕ). Descends tree steps leaf all) (append-nil trail) (completes tree are [] (out one)))
