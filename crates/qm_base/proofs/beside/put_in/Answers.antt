use Rattle.std.proofs.Common.{◌≡◌, ◌<◌, get_or, length, refl, subst, arith}
use Rattle.std.proofs.lemmas.List.{get_or_default}
use Rattle.std.proofs.lemmas.Option.{slice_get_read}
use Rattle.qm_base.specs.declared.beside.Beside.{Beside}
use Rattle.qm_base.specs.inner.Besides.{IsPutAt, no_beside, beside_at}
use Rattle.qm_base.proofs.BesideSteps.{put_in_more, put_in_all}
use Rattle.qm_base.proofs.beside.put_in.Goals as goal

pub loop-c-preserved : goal.loop-c-preserved
loop-c-preserved c =
    let planes = c.args.planes.now in
    let rows = c.loop-c.rows in
    let place = c.args.place in
    let sides = c.corner_sides-sides.result in
    let beside = c.put_sides.new.beside in
    let within : c.loop-c.c < length rows = let test = c.loop-c-test.true in let each = c.requires.one_each in let same = c.loop-c.invariant.same_count in omega (arith, test, each, same) in
    let within_old : c.loop-c.c < length c.args.rows.now = let test = c.loop-c-test.true in let each = c.requires.one_each in omega (arith, test, each) in
    let plane = c.index-planes-c.result in
    let read : get_or rows c.loop-c.c c.index-rows-c.result ≡ beside_at rows c.loop-c.c = get_or_default rows c.loop-c.c c.index-rows-c.result no_beside within in
    put_in_more c.args.winding.now planes place c.args.rows.now c.loop-c.c plane rows beside
    (slice_get_read planes (length planes) c.loop-c.c plane refl c.loop-c-test.true c.index-planes-c.is) within_old c.loop-c.invariant (record {
      is_front = sides.in_front;
      is_behind = sides.behind;
      says_front = c.corner_sides-sides.ensures.in_front;
      says_behind = c.corner_sides-sides.ensures.behind;
      front = subst (λ (b : Beside). IsPutAt place sides.in_front b.front beside.front) read c.put_sides.ensures.front;
      behind = subst (λ (b : Beside). IsPutAt place sides.behind b.behind beside.behind) read c.put_sides.ensures.behind;
    })

pub returns : goal.returns
returns c = put_in_all c.args.winding.now c.args.planes.now c.args.place c.args.rows.now c.loop-c.c c.loop-c.rows c.loop-c-test.false c.loop-c.invariant
