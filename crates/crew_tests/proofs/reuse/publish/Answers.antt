use Rattle.std.proofs.Common.{ℕ, sym, subst}
use Rattle.qm_lists.specs.WorkList.{IsIn}
use Rattle.qm_contacts.specs.World.{World}
use Rattle.qm_sight.specs.RowsOfWorld.{IsSoundAt}
use Rattle.qm_board.specs.WorldSets.{IsInBoundAt}
use Rattle.qm_crew.proofs.TakenTurns.{shown_bound}
use Rattle.crew_tests.proofs.reuse.publish.Goals as goal

pub publish-requires-clause-sound : goal.publish-requires-clause-sound
publish-requires-clause-sound c =
    subst (λ (w : World). IsSoundAt w c.args.portal c.in_ok-row.row) (sym c.requires.same_world) c.in_ok-row.ensures.sound

pub publish-requires-clause-bound : goal.publish-requires-clause-bound
publish-requires-clause-bound c =
    subst (λ (w : World). (n : ℕ) → IsIn c.in_ok-row.row n → IsInBoundAt w c.args.portal n) (sym c.requires.same_world)
    (λ n is. shown_bound c.args.world.now _ c.args.portal n (c.in_ok-row.ensures.open_chains n is))
