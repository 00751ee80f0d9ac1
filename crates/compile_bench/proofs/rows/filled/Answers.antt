use Rattle.std.proofs.Common.{◌≡◌, ◌<◌, ◌≤◌, ℕ, zero, suc, [], ◌∷◌, length, get_or, List, sym, ap, subst, ◌∙◌, arith}
use Rattle.qm_mapfile.specs.declared.entity.Entity.{Entity}
use Rattle.qm_mapfile.specs.declared.entity.MapFile.{MapFile}
use Rattle.qm_grammar.specs.Origin.{OriginsAreGood, HasGoodOrigin}
use Rattle.qm_grammar.specs.Valid.{IsValidMap}
use Rattle.compile_bench.proofs.rows.filled.Goals as goal

good_among : (entities : List Entity) (k : ℕ) (entity : Entity) → OriginsAreGood entities → 1 ≤ k → k < length entities → get_or entities k entity ≡ entity → HasGoodOrigin entity.pairs
good_among [] k entity good later within at = absurd (omega (arith, within))
good_among (world ∷ others) zero entity good later within at = absurd (omega (arith, later))
good_among (world ∷ others) (suc k) entity good later within at = subst (λ (e : Entity). HasGoodOrigin e.pairs) at (good k entity (omega (arith, within)))

good_origin_at : (map : MapFile) (k : ℕ) (entity : Entity) → IsValidMap map → 1 ≤ k → k < length map.entities → get_or map.entities k entity ≡ entity → HasGoodOrigin entity.pairs
unfolding IsValidMap
good_origin_at map k entity valid later within at = good_among map.entities k entity valid.2 later within at

pub origin-requires : goal.origin-requires
origin-requires c =
    let all = c.as_slice-entities.ensures in
    let long : length c.as_slice-entities.result.now ≡ length c.args.map.now.entities = ap length all in
    let at = ap (λ (entities : List Entity). get_or entities c.loop-k.k c.index-entities-k.result) (sym all) ∙ sym c.index-entities-k.is in
    let within = c.loop-k-test.true in
    good_origin_at c.args.map.now c.loop-k.k c.index-entities-k.result c.requires.map c.loop-k.auto.k (omega (arith, within, long)) at
