use Rattle.std.proofs.Common.{ℕ, List, ◌++◌, ◌∷◌, ◌∙◌, ap, take_all}
use Rattle.std.specs.Prelude.{flat_map, string_bytes}
use Rattle.std.specs.Fmt.{decimal}
use Rattle.qm_make.proofs.printed.put_trail.Goals as goal

pub returns : goal.returns
returns c =
    c.loop-leaf.invariant
    ∙ ap (λ (leaves : List ℕ). string_bytes c.args.text.now ++ flat_map (λ leaf. 32 ∷ decimal leaf) leaves) (take_all c.loop-leaf.leaf-index c.args.trail.now c.loop-leaf-test.false)
