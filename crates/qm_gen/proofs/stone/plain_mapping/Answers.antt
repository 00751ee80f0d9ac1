use Rattle.std.proofs.Common.{ℕ, [], ◌∷◌, codes, map, ap, ◌∙◌, arith}
use Rattle.std.proofs.lemmas.List.{take_all}
use Rattle.qm_mapfile.specs.declared.face.Mapping.TheVariants.{Standard}
use Rattle.qm_rooms.specs.Boxes.{plain_mapping}
use Rattle.qm_gen.proofs.stone.plain_mapping.Goals as goal

pub returns : goal.returns
unfolding plain_mapping
returns c =
    ap Standard (c.from_vec.ensures ∙ c.loop-digit.invariant ∙ ap (map (λ (digit : ℕ). digit ∷ [])) (take_all c.loop-digit.digit-index (codes "00011") (omega arith)))
