use Rattle.std.proofs.Common.{◌≡◌, ◌∙◌, List, Some, ap, sym}
use Rattle.qm_mapfile.specs.declared.entity.Pair.{Pair}
use Rattle.qm_grammar.specs.Origin.{origin_key, value_of}
use Rattle.qm_map.proofs.OriginPoints.{origin_point}
use Rattle.qm_map.proofs.entity_origin.EntityEntityOrigin.origin.Goals as goal

pub returns : goal.returns
returns c =
    let first : value_of origin_key c.args.self.now.pairs ≡ Some c.in_ok-value.value.now = ap (λ (pairs : List Pair). value_of origin_key pairs) (sym c.as_slice.ensures) ∙ c.in_ok-value.ensures in
    origin_point c.args.self.now.pairs c.in_ok-value.value.now c.origin_of.result first c.requires c.origin_of.ensures
