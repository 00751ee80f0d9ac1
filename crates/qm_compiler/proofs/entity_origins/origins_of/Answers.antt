use Rattle.std.proofs.Common.{◌≡◌, ◌<◌, length, get_or, List, sym, ap, ◌∙◌, arith}
use Rattle.qm_mapfile.specs.declared.entity.Entity.{Entity}
use Rattle.qm_compiler.proofs.Origins.{one_more_stands, none_more_stands, all_gathered, good_origin_at}
use Rattle.qm_compiler.proofs.entity_origins.origins_of.Goals as goal
use Rattle.qm_compiler.proofs.entity_origins.origins_of.Goals.{in-Some+in_ok-push, in_default}

pub origin-requires : goal.origin-requires
origin-requires c =
    let all = c.as_slice-entities.ensures in
    let long : length c.as_slice-entities.result.now ≡ length c.args.map.now.entities = ap length all in
    let at = ap (λ (entities : List Entity). get_or entities c.loop-k.k c.index-entities-k.result) (sym all) ∙ sym c.index-entities-k.is in
    let within = c.loop-k-test.true in
    good_origin_at c.args.map.now c.loop-k.k c.index-entities-k.result c.requires c.loop-k.auto.k (omega (arith, within, long)) at

pub loop-k-preserved : goal.loop-k-preserved
loop-k-preserved c =
    let map = c.args.map.now in
    let k = c.loop-k.k in
    let entity = c.index-entities-k.result in
    let all = c.as_slice-entities.ensures in
    let long : length c.as_slice-entities.result.now ≡ length map.entities = ap length all in
    let at = ap (λ (entities : List Entity). get_or entities k entity) (sym all) ∙ sym c.index-entities-k.is in
    let test = c.loop-k-test.true in
    let within : k < length map.entities = omega (arith, test, long) in
    elim c.match-origin.branch [
      | in-Some+in_ok-push w ↦
          rw (w.origins-is, w.in_ok-push.ensures.items) (one_more_stands map k c.loop-k.origins.items entity within at c.loop-k.invariant w.in-Some.point w.in-Some.ensures)
      | in_default w ↦
          rw w.origins-is (none_more_stands map k c.loop-k.origins.items entity within at c.loop-k.invariant w.in_default.ensures)
    ]

pub returns : goal.returns
returns c =
    let long : length c.as_slice-entities.result.now ≡ length c.args.map.now.entities = ap length c.as_slice-entities.ensures in
    let end = c.loop-k-test.false in
    all_gathered c.args.map.now c.loop-k.k c.loop-k.origins.items (omega (arith, end, long)) c.loop-k.invariant
