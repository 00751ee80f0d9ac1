use Rattle.std.proofs.Common.{List, [], ◌∷◌, ◌++◌, codes, ap, ◌∙◌}
use Rattle.qm_mapfile.specs.declared.entity.Pair.{Pair}
use Rattle.qm_rooms.specs.Rooms.{pair_of, player_start}
use Rattle.qm_gen.proofs.entities.player_start.Goals as goal

pub returns : goal.returns
unfolding player_start
returns c =
    let pairs =
    c.in_ok-parts_of.ensures
    ∙ c.in_ok-push.ensures.items
    ∙ ap (λ (pairs : List Pair). pairs ++ c.in_ok-origin.origin ∷ []) c.in_ok-pairs.ensures
    ∙ ap (λ (origin : Pair). pair_of (codes "classname") (codes "info_player_start") ∷ origin ∷ []) c.in_ok-origin.ensures in
    λ i. record { pairs = pairs i; brushes = c.in_ok-none.ensures i }
