use Rattle.std.proofs.Common.{◌≡◌, take}
use Rattle.std.specs.List.{All}
use Rattle.qm_lists.specs.inner.Steps.{steps_of}
use Rattle.qm_contacts.specs.Leak.{leaf_of_origin}
use Rattle.qm_flood.proofs.leaking.first_leak.Given as goal

-- none of the entities so far stands in a leaf that has steps
abbrev pub invariant-loop-origin : goal.invariant-loop-origin
invariant-loop-origin l = All (λ origin. steps_of l.steps (leaf_of_origin l.tree origin) ≡ 0) (take l.origin-index l.origins)
