use Rattle.std.proofs.Common.{◌≡◌, ◌++◌, ◌∷◌, take}
use Rattle.std.specs.Prelude.{flat_map, string_bytes}
use Rattle.std.specs.Fmt.{decimal}
use Rattle.qm_make.proofs.printed.put_trail.Given as goal

abbrev pub invariant-loop-leaf : goal.invariant-loop-leaf
invariant-loop-leaf l = string_bytes l.text ≡ string_bytes l.fn.text ++ flat_map (λ leaf. 32 ∷ decimal leaf) (take l.leaf-index l.trail)
