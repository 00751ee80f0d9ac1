use Rattle.std.proofs.Common.{eqb}
use Rattle.std.proofs.lemmas.List.Filters.{dedup_is}
use Rattle.qm_outlines.proofs.ModelNumbers.{numbers_in_order}
use Rattle.qm_models.proofs.numbers.numbers_of.Goals as goal

pub returns : goal.returns
returns c =
    let sorted = c.sort_unstable.new.self.items in
    numbers_in_order c.args.world.now.tree c.args.leaves.now c.in_ok-numbers.numbers.items sorted c.dedup.new.self.items c.in_ok-numbers.ensures c.sort_unstable.ensures.permutation c.sort_unstable.ensures.sorted
    (dedup_is eqb sorted c.dedup.new.self.items c.dedup.ensures.filtered)
