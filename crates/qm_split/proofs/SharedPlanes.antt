-- The planes that cells share.
use Rattle.std.proofs.Common.{◌≡◌, List, [], ◌∷◌, ◌++◌, Vec, Global, sym, ap, ◌∙◌}
use Rattle.std.proofs.lemmas.List.{append_assoc, append-nil}
use Rattle.std.specs.declared.sync.Arc.{Arc}
use Rattle.qm_space.specs.Plane.{Plane}
use Rattle.qm_split.specs.CellPlanes.{planes_of_runs}

-- one run more
pub runs_more : (runs : List (Arc (Vec Plane Global) Global)) (run : Arc (Vec Plane Global) Global) → planes_of_runs (runs ++ run ∷ []) ≡ planes_of_runs runs ++ run.value.items
runs_more [] run = append-nil run.value.items
runs_more (first ∷ runs) run =
    ap (λ (ps : List Plane). first.value.items ++ ps) (runs_more runs run)
    ∙ sym (append_assoc first.value.items (planes_of_runs runs) run.value.items)
