use Rattle.std.proofs.Common.{ℕ, List, length, subst, ap, sym, ◌∙◌}
use Rattle.qm_bits.specs.inner.Rows.{row_of, IsRow}
use Rattle.qm_bits.proofs.Rows.{same_counts}
use Rattle.qm_bits.proofs.Changes.{copied}
use Rattle.qm_bits.proofs.bit_row.BitRow.copy_from.Goals as goal

pub copy_from_slice-requires : goal.copy_from_slice-requires
copy_from_slice-requires c =
    let counts = same_counts c.self.inside.words.items c.other.inside.words.items c.self.inside.len c.other.inside.len c.args.self.now c.args.other.now c.self.view_is c.other.view_is c.self.invariant c.other.invariant c.requires in
    c.self.inside.words.ok.0 ∙ sym counts.1 ∙ sym (ap (λ (l : List ℕ). length l) c.deref.ensures.value)

pub invariant_of-self : goal.invariant_of-self
invariant_of-self c =
    let same = c.copy_from_slice.ensures.items ∙ c.deref.ensures.value in
    subst (λ (l : List ℕ). IsRow l c.self.inside.len) (sym same)
    (copied c.self.inside.words.items c.other.inside.words.items c.self.inside.len c.other.inside.len c.args.self.now c.args.other.now c.self.view_is c.other.view_is c.self.invariant c.other.invariant c.requires).0

pub returns : goal.returns
returns c =
    let same = c.copy_from_slice.ensures.items ∙ c.deref.ensures.value in
    ap (λ (l : List ℕ). row_of l c.self.inside.len) same
    ∙ (copied c.self.inside.words.items c.other.inside.words.items c.self.inside.len c.other.inside.len c.args.self.now c.args.other.now c.self.view_is c.other.view_is c.self.invariant c.other.invariant c.requires).1
