-- Two rows of each portal that do not change.
use Rattle.std.proofs.Common.{◌≡◌, refl, ◌∙◌}
use Rattle.qm_sight.specs.RowsOfWorld.{RowsOfWorld}
use Rattle.qm_sight.specs.WordInSight.{LieWithin}
use Rattle.qm_sight.specs.inner.PlainRows.{one_world as plain_world, none_narrower as plain_narrower}

pub record AreSameRows (wide narrow next_wide next_narrow : RowsOfWorld) : Type 0 where
  pub wide_is : next_wide ≡ wide
  pub narrow_is : next_narrow ≡ narrow

pub itself : (w n : RowsOfWorld) → AreSameRows w n w n
itself w n = record { wide_is = refl; narrow_is = refl }

pub in_turn : (a b c d e f : RowsOfWorld) → AreSameRows a b c d → AreSameRows c d e f → AreSameRows a b e f
in_turn a b c d e f first second = record { wide_is = second.wide_is ∙ first.wide_is; narrow_is = second.narrow_is ∙ first.narrow_is }

pub one_world : (a b c d : RowsOfWorld) → AreSameRows a b c d → c.world ≡ a.world
one_world a b c d same = plain_world a c same.wide_is

pub none_narrower : (a b c d : RowsOfWorld) → AreSameRows a b c d → LieWithin c.rows a.rows
none_narrower a b c d same = plain_narrower a c same.wide_is
