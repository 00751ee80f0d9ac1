use Rattle.std.proofs.Common.{◌<◌, All, inl, inr, length, refl, sym, subst}
use Rattle.qm_sight.specs.InCeiling.{IsInCeiling}
use Rattle.qm_lines.proofs.following.show.Goals as goal

pub get-requires : goal.get-requires
get-requires g c = subst (λ n. c.args.trace.now.leaf < n) (sym c.requires.row) c.requires.range.leaf

pub returns-then-get : goal.returns-then-get
returns-then-get g c = record { shown = inl refl; on = g.met.S.RowSource.goes_on_itself c.args.source.now }

pub all_have_leaf-requires : goal.all_have_leaf-requires
all_have_leaf-requires g c = record { portals = subst (All (λ p. p < length (g.S.RowSource.world c.args.source.now).portals)) (sym c.deref.ensures.value) c.requires.range.portals; leaf = c.requires.range.leaf }

pub returns-then-all_have_leaf : goal.returns-then-all_have_leaf
returns-then-all_have_leaf g c = record {
  shown = inr (subst (All (IsInCeiling (g.S.RowSource.ceilings c.args.source.now) c.args.trace.now.leaf)) c.deref.ensures.value (c.all_have_leaf.ensures.ceilings c.if-all_have_leaf.true), c.set.ensures);
  on = c.all_have_leaf.ensures.on;
}

pub returns-else-all_have_leaf : goal.returns-else-all_have_leaf
returns-else-all_have_leaf g c = record { shown = inl refl; on = c.all_have_leaf.ensures.on }
