use Rattle.std.proofs.Common.{◌<◌, ℕ, [], List, length, get_or, refl, sym, ◌∙◌, subst, arith}
use Rattle.std.proofs.lemmas.List.{take_all}
use Rattle.std.proofs.lemmas.Option.{slice_get-get_or}
use Rattle.qm_contacts.specs.NumberedLeaves.{numbered_leaves}
use Rattle.qm_rows.proofs.Gathering.{HasThoseOf, one_more_row, row_of_leaf, leaving_within}
use Rattle.qm_rows.proofs.rows.leaf_row.Goals as goal

pub add_row-requires-clause-within : goal.add_row-requires-clause-within
add_row-requires-clause-within c =
    let within = leaving_within c.args.world.now.portals c.args.n c.leaving-leaving.result.now c.leaving-leaving.ensures c.loop-p.p-index 0 c.loop-p-test.true in
    let same = c.requires.one_each in
    omega (arith, within, same)

pub add_row-requires-clause-wide : goal.add_row-requires-clause-wide
add_row-requires-clause-wide c k d within = c.requires.wide k d within ∙ sym c.loop-p.invariant.one_each

pub loop-p-preserved : goal.loop-p-preserved
loop-p-preserved c =
    let rows = c.args.rows.now in
    let places = c.leaving-leaving.result.now in
    let next = get_or places c.loop-p.p-index 0 in
    let portal_within = leaving_within c.args.world.now.portals c.args.n places c.leaving-leaving.ensures c.loop-p.p-index 0 c.loop-p-test.true in
    let within : next < length rows = (let same = c.requires.one_each in omega (arith, portal_within, same)) in
    one_more_row rows places (length (numbered_leaves c.args.world.now.tree)) c.args.n c.loop-p.p-index next c.loop-p.row (get_or rows next []) c.add_row.new.row c.loop-p-test.true refl c.loop-p.invariant
    (slice_get-get_or rows next [] within) c.add_row.ensures

pub returns : goal.returns
returns c =
    let rows = c.args.rows.now in
    let places = c.leaving-leaving.result.now in
    let leaves = length (numbered_leaves c.args.world.now.tree) in
    row_of_leaf c.args.world.now.portals rows places leaves c.args.n c.loop-p.row c.leaving-leaving.ensures
    (subst (λ (list : List ℕ). HasThoseOf rows list leaves c.args.n c.loop-p.row) (take_all c.loop-p.p-index places (let end = c.loop-p-test.false in omega (arith, end))) c.loop-p.invariant)
