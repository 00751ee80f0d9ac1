use Rattle.std.proofs.Common.{◌<◌, ◌^◌, ℕ, Bool, List, length, subst, ap, sym, ◌∙◌}
use Rattle.std.specs.List.{count_by}
use Rattle.qm_bits.specs.inner.Words.{ones_of}
use Rattle.qm_bits.proofs.Counts.{ones_of_row, ones_fit}
use Rattle.qm_bits.proofs.bit_row.BitRow.count.Goals as goal

pub count-requires : goal.count-requires
count-requires c = subst (λ (ws : List ℕ). ones_of (length ws) ws < 2 ^ 64) (sym c.deref.ensures.value) (ones_fit c.self.inside.words.items c.self.inside.len c.self.invariant)

pub returns : goal.returns
returns c =
    c.count.ensures ∙ ap (λ (ws : List ℕ). ones_of (length ws) ws) c.deref.ensures.value ∙ ones_of_row c.self.inside.words.items c.self.inside.len c.self.invariant ∙ ap (λ (l : List Bool). count_by (λ (s : Bool). s) l) c.self.view_is
