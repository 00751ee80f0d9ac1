use Rattle.std.proofs.Common.{◌≡◌, ◌∙◌, ◌&&◌, not, List, [], ◌∷◌, ◌++◌, length, ap, ap₂, sym, rules, ℕ, Bool}
use Rattle.std.specs.Prelude.{bytes_eq, is_none}
use Rattle.qm_mapfile.specs.declared.entity.Pair.{Pair}
use Rattle.qm_grammar.specs.Origin.{origin_key, value_of}
use Rattle.qm_map.proofs.OriginFlags.{lacks_push}
use Rattle.qm_map.proofs.reader.Reader.end_pair.Goals as goal

pub invariant_of-self-2 : goal.invariant_of-self-2
invariant_of-self-2 c =
    let due : length c.self.inside.numbers.items ≡ 0 = search rules in
    let pair : Pair = record { key = c.replace-key.result; value = c.in_ok-value.value } in
    let lacked : (c.self.inside.lacks_origin && not (bytes_eq c.as_slice.result.now origin_key)) ≡ (is_none (value_of origin_key c.self.inside.pairs.items) && not (bytes_eq c.replace-key.result origin_key)) =
    ap₂ (λ (lacks : Bool) (key : List ℕ). lacks && not (bytes_eq key origin_key)) c.self.invariant.2 c.as_slice.ensures in
    let pushed : is_none (value_of origin_key c.push.new.self.items) ≡ is_none (value_of origin_key (c.self.inside.pairs.items ++ pair ∷ [])) =
    ap (λ (pairs : List Pair). is_none (value_of origin_key pairs)) c.in_ok-push.ensures.items in
    let lacks : c.lacks_behind-lacks_origin.result ≡ is_none (value_of origin_key c.push.new.self.items) =
    c.lacks_behind-lacks_origin.ensures ∙ lacked ∙ sym (lacks_push origin_key c.self.inside.pairs.items pair) ∙ sym pushed in
    (c.self.invariant.0, due, lacks)
