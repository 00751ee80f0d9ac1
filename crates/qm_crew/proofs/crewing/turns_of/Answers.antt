use Rattle.std.proofs.Common.{◌∙◌, ℕ, List, [], ◌∷◌, ◌++◌, ap}
use Rattle.qm_crew.proofs.crewing.turns_of.Goals as goal

pub returns : goal.returns
returns c =
    c.from_vec-2.ensures ∙ c.in_ok-append.ensures.items
    ∙ ap (λ (lists : List (List ℕ)). lists ++ c.args.others.items)
    (c.in_ok-push.ensures.items ∙ ap (λ (lists : List (List ℕ)). lists ++ c.from_vec.result ∷ []) c.new-turns.ensures.items ∙ ap (λ (list : List ℕ). list ∷ []) c.from_vec.ensures)
