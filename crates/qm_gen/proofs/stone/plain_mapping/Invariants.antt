use Rattle.std.proofs.Common.{◌≡◌, ℕ, [], ◌∷◌, map, take}
use Rattle.qm_gen.proofs.stone.plain_mapping.Given as goal

abbrev pub invariant-loop-digit : goal.invariant-loop-digit
invariant-loop-digit l = l.words.items ≡ map (λ (digit : ℕ). digit ∷ []) (take l.digit-index l.digit-items)
