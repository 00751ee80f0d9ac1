use Rattle.std.proofs.Common.{◌<◌, Bool, List, length, refl, subst, arith}
use Rattle.std.proofs.lemmas.Option.{slice_get_read}
use Rattle.std.proofs.lemmas.List.Elements.{All-contains}
use Rattle.qm_lists.specs.Word.{IsWord}
use Rattle.qm_base.specs.declared.table.Kind.{Kind}
use Rattle.qm_base.specs.inner.Ways.{block_of}
use Rattle.qm_base.proofs.TableSteps.{back_wide}
use Rattle.qm_base.proofs.WaySteps.{no_way, one_way, All-block, kind_within}
use Rattle.qm_base.proofs.ways.way.Goals as goal

pub index-requires : goal.index-requires
index-requires c = let lane = c.requires.lane in let each = c.requires.kinds.one_each in let fits = c.args.table.now.kinds.ok.0 in omega (arith, lane, each, fits)

pub back-requires : goal.back-requires
back-requires c =
    kind_within c.args.table.now.lanes.items c.args.table.now.kinds.items c.args.table.now.beside.items c.requires.kinds c.args.k c.index.result.now c.requires.lane c.index.ensures

pub word-back-requires : goal.word-back-requires
word-back-requires c =
    let wide = back_wide c.args.table.now.lanes.items c.args.table.now.kinds.items c.args.table.now.beside.items c.requires.kinds c.index.result.now (kind_within c.args.table.now.lanes.items c.args.table.now.kinds.items c.args.table.now.beside.items c.requires.kinds c.args.k c.index.result.now c.requires.lane c.index.ensures) in
    let block = c.requires.block in
    rw c.back.ensures (omega (arith, wide, block))

pub returns-then-back-eq0 : goal.returns-then-back-eq0
returns-then-back-eq0 c =
    let kinds = c.args.table.now.kinds.items in
    let own_is = slice_get_read kinds (length kinds) c.args.k c.index.result.now refl (let lane = c.requires.lane in let each = c.requires.kinds.one_each in omega (arith, lane, each)) c.index.ensures in
    no_way kinds c.args.table.now.beside.items c.args.block c.args.k c.word-back.result c.index.result.now own_is
    (subst (λ (row : List Bool). IsWord row c.args.block c.word-back.result) c.back.ensures c.word-back.ensures) c.if-back-eq0.true

pub lanes_before-requires-clause-kinds : goal.lanes_before-requires-clause-kinds
lanes_before-requires-clause-kinds c run among =
    let is_class : Kind → Type 0 = λ kind. kind.class < length c.args.table.now.beside.items in
    All-contains is_class (block_of c.args.block c.args.table.now.kinds.items) run.kind (All-block is_class c.args.block c.args.table.now.kinds.items c.requires.kinds.within) (c.requires.runs.only run among)

pub returns : goal.returns
returns c =
    let kinds = c.args.table.now.kinds.items in
    let own_is = slice_get_read kinds (length kinds) c.args.k c.index.result.now refl (let lane = c.requires.lane in let each = c.requires.kinds.one_each in omega (arith, lane, each)) c.index.ensures in
    one_way kinds c.args.table.now.beside.items c.args.block c.args.k c.word-back.result c.index.result.now own_is
    (subst (λ (row : List Bool). IsWord row c.args.block c.word-back.result) c.back.ensures c.word-back.ensures)
    c.args.runs.now c.requires.runs c.lanes_before.result c.lanes_before.ensures
