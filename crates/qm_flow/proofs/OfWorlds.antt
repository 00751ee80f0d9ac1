-- Where a source goes on, all stays of its world.
use Rattle.std.proofs.Common.{◌≡◌, List, Bool, ◌∙◌}
use Rattle.qm_contacts.specs.World.{World}
use Rattle.qm_chains.specs.inner.Frame.{Frame}
use Rattle.qm_chains.specs.inner.Pairs.{Pairs}
use Rattle.qm_flow.specs.inner.OfWorld.{AreOfWorld}

pub of_world_later : (world source_world later : World) (pairs : Pairs) (frame : Frame) (found : List Bool) → later ≡ source_world → AreOfWorld world source_world pairs frame found → AreOfWorld world later pairs frame found
of_world_later world source_world later pairs frame found same of = record { same_world = same ∙ of.same_world; pairs_are = of.pairs_are; wide = of.wide }
