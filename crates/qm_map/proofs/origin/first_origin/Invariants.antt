use Rattle.std.proofs.Common.{◌≡◌, drop}
use Rattle.qm_grammar.specs.Origin.{origin_key, value_of}
use Rattle.qm_map.proofs.origin.first_origin.Given as goal

-- the pairs that have been passed have another key
abbrev pub invariant-loop-pair : goal.invariant-loop-pair
invariant-loop-pair l = value_of origin_key l.pairs ≡ value_of origin_key (drop l.pair-index l.pairs)
