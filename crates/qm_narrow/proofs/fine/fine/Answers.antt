use Rattle.std.proofs.Common.{pos, ◌*ℤ◌, lit≤}
use Rattle.qm_numbers.proofs.Bits.{kept_64, kept_128}
use Rattle.qm_numbers.proofs.Kept.{small_kept}
use Rattle.qm_numbers.proofs.Roundings.{down_small}
use Rattle.qm_space.specs.Bounds.{normal_bound}
use Rattle.qm_narrow.proofs.FineUnits.{over_kept, fine_small}
use Rattle.qm_narrow.proofs.fine.fine.Goals as goal

pub returns-clause-exact : goal.returns-clause-exact
returns-clause-exact c =
    let down = rw (over_kept c.args.over c.requires.over_size, kept_128 c.args.under _ c.requires.under_size (lit≤ tt)) at c.rounded_down.ensures.exact in
    let small = down_small (pos 1024 *ℤ c.args.over) c.args.under c.rounded_down.result normal_bound c.requires.positive (fine_small c.args.over _ c.requires.small) down in
    rw (kept_64 c.rounded_down.result normal_bound small (lit≤ tt)) down

pub returns-clause-size : goal.returns-clause-size
returns-clause-size c =
    let down = rw (over_kept c.args.over c.requires.over_size, kept_128 c.args.under _ c.requires.under_size (lit≤ tt)) at c.rounded_down.ensures.exact in
    small_kept c.rounded_down.result normal_bound (lit≤ tt)
    (down_small (pos 1024 *ℤ c.args.over) c.args.under c.rounded_down.result normal_bound c.requires.positive (fine_small c.args.over _ c.requires.small) down)
