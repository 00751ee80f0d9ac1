use Rattle.std.proofs.Common.{List, Bool, Some, length, sym, ap, ◌∙◌, subst, arith, refl}
use Rattle.qm_contacts.specs.World.{World}
use Rattle.qm_chains.specs.inner.Narrowing.{IsNarrowed}
use Rattle.qm_chains.specs.inner.OwnRows.{MustHave, CanHave}
use Rattle.qm_chains.specs.inner.Pairs.{Pairs, IsPairRow}
use Rattle.qm_chains.specs.inner.Wanted.{IsWantedVia}
use Rattle.qm_chains.proofs.PairRows.{pairs_more, within_more, can_within, wanted_answered}
use Rattle.qm_sight.specs.WordInSight.{ceiling_of}
use Rattle.qm_sight.specs.InCeiling.{IsInCeiling}
use Rattle.qm_flow.specs.inner.FlowPairs.{pairs_of}
use Rattle.qm_flow.proofs.PairsKept.{own_put}
use Rattle.qm_flow.proofs.searches.search.Goals as goal

pub returns-in_ok-put-clause-flow : goal.returns-in_ok-put-clause-flow
returns-in_ok-put-clause-flow g c =
    let world = c.args.flow.now.world.now in
    let old = (pairs_of c.args.flow.now) in
    let found = c.args.found.now in
    let portal = c.args.portal in
    let one = c.requires.pairs.own_are.one_each in
    let inside = c.requires.portal in
    let put = own_put old old c.put.new.self portal (Some c.narrow.new.mask) refl c.in_ok-put.ensures in
    let same_world = g.met.S.RowSource.same_world c.args.source.now c.seek.new.source c.seek.ensures.on ∙ c.requires.same_world in
    let later = ceiling_of (g.S.RowSource.ceilings c.seek.new.source) portal in
    let narrowed = subst (λ (w : World). IsNarrowed (MustHave w c.args.flow.now.own portal) (CanHave later c.args.flow.now.own portal) c.seek.new.sighted c.narrow.new.mask) same_world c.narrow.ensures.narrowed in
    let row : IsPairRow world old.first found portal c.narrow.new.mask = λ n wanted. narrowed.keeps n
    (c.in_ok-ended.ensures.ended c.if-ended.true n (subst (λ (sighted : List Bool). IsWantedVia world old.first sighted portal n) (sym c.copy_from.ensures) wanted))
    (wanted_answered world found old c.requires.pairs portal n wanted) in
    record {
      same_world = refl;
      pairs = record {
        same_first = ap (λ (p : Pairs). p.first) put;
        are = pairs_more world found old portal c.narrow.new.mask _ put (omega (arith, one, inside)) c.requires.pairs (narrowed.same_length ∙ c.in_ok-ended.ensures.wide ∙ ap length c.copy_from.ensures ∙ c.requires.wide) row;
        within = λ ceilings lie within.
            within_more world found old portal c.narrow.new.mask _ put (omega (arith, one, inside)) (IsInCeiling ceilings) within
            (λ n is. can_within (IsInCeiling ceilings) later old.own portal n
            (λ m has. lie portal m (g.met.S.RowSource.narrower c.args.source.now c.seek.new.source c.seek.ensures.on portal m has)) within (narrowed.within n is).1);
      };
    }
