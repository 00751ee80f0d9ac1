use Rattle.std.proofs.Common.{false, List, Bool, Some, length, sym, ap, ◌∙◌, subst, arith, refl}
use Rattle.std.proofs.lemmas.List.{length-replicate}
use Rattle.qm_lists.specs.WorkList.{IsIn}
use Rattle.qm_chains.specs.inner.Pairs.{Pairs, IsPairRow}
use Rattle.qm_chains.proofs.PairRows.{pairs_more, within_more, can_within}
use Rattle.qm_sight.specs.WordInSight.{ceiling_of}
use Rattle.qm_sight.specs.InCeiling.{IsInCeiling}
use Rattle.qm_flow.specs.inner.FlowPairs.{pairs_of}
use Rattle.qm_flow.proofs.PairsKept.{own_put}
use Rattle.qm_flow.proofs.pair_rows.pair.Goals as goal

pub put-requires : goal.put-requires
put-requires g c =
    let one = c.requires.of_world.pairs_are.own_are.one_each in
    let within = c.requires.portal in
    omega (arith, one, within)

pub copy_from-requires : goal.copy_from-requires
copy_from-requires g c = c.in_ok-cone_of_pair.ensures.spares.found ∙ sym (ap length c.in_ok-row.ensures ∙ length-replicate c.leaves.result false ∙ c.leaves.ensures)

pub returns-clause-flow : goal.returns-clause-flow
returns-clause-flow g c =
    let world = c.args.flow.now.world.now in
    let old = (pairs_of c.args.flow.now) in
    let found = c.args.found.now in
    let one = c.requires.of_world.pairs_are.own_are.one_each in
    let inside = c.requires.portal in
    let put = own_put old old c.put.new.self c.args.portal (Some c.copy_from.new.self) refl c.in_ok-put.ensures in
    let wide = c.in_ok-cone_of_pair.ensures.spares.found in
    let same = c.copy_from.ensures in
    record {
      same_world = refl;
      pairs = record {
        same_first = ap (λ (p : Pairs). p.first) put;
        are = pairs_more world found old c.args.portal c.copy_from.new.self _ put (omega (arith, one, inside)) c.requires.of_world.pairs_are (ap length same ∙ wide) (subst (IsPairRow world old.first found c.args.portal) (sym same) c.in_ok-cone_of_pair.ensures.has);
        within = λ ceilings lie within.
            within_more world found old c.args.portal c.copy_from.new.self _ put (omega (arith, one, inside)) (IsInCeiling ceilings) within
            (λ n is. can_within (IsInCeiling ceilings) (ceiling_of (g.S.RowSource.ceilings c.args.source.now) c.args.portal) old.own c.args.portal n (λ m has. lie c.args.portal m has) within (c.in_ok-cone_of_pair.ensures.within n (subst (λ (row : List Bool). IsIn row n) same is)));
      };
    }
