-- The plain source goes on from an equal state alone.
use Rattle.std.proofs.Common.{◌≡◌, refl, subst, ◌∙◌, ap}
use Rattle.qm_lists.specs.WorkList.{IsIn}
use Rattle.qm_sight.specs.WordInSight.{LieWithin, ceiling_of}
use Rattle.qm_sight.specs.RowsOfWorld.{RowsOfWorld}

pub itself : (s : RowsOfWorld) → s ≡ s
itself s = refl

pub in_turn : (a b c : RowsOfWorld) → b ≡ a → c ≡ b → c ≡ a
in_turn a b c first second = second ∙ first

pub one_world : (a b : RowsOfWorld) → b ≡ a → b.world ≡ a.world
one_world a b e = ap (λ (r : RowsOfWorld). r.world) e

pub none_narrower : (a b : RowsOfWorld) → b ≡ a → LieWithin b.rows a.rows
none_narrower a b e place n is = subst (λ (r : RowsOfWorld). IsIn (ceiling_of r.rows place) n) e is
