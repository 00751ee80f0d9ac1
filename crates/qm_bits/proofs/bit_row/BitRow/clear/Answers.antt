use Rattle.std.proofs.Common.{◌≡◌, ℕ, Bool, List, length, take, drop, replicate, false, ◌++◌, subst, ap, sym, ◌∙◌}
use Rattle.std.proofs.lemmas.List.{length-replicate, with_items_is}
use Rattle.qm_bits.specs.inner.Rows.{row_of, IsRow}
use Rattle.qm_bits.proofs.Rows.{length-row_of}
use Rattle.qm_bits.proofs.Changes.{zeros_row, zeros_clear}
use Rattle.qm_bits.proofs.bit_row.BitRow.clear.Goals as goal

pub invariant_of-self : goal.invariant_of-self
invariant_of-self c =
    let old = c.self.inside.words.items in
    let new = c.clear_all.new.words in
    let is : new ≡ replicate (length old) 0 = subst (λ (l : List ℕ). new ≡ replicate (length l) 0) c.deref_mut.ensures.value c.clear_all.ensures in
    let written : take c.self.inside.words.len (new ++ drop (length new) old) ≡ new = with_items_is c.self.inside.words new (ap length is ∙ length-replicate (length old) 0 ∙ sym c.self.inside.words.ok.0) in
    rw written (subst (λ (l : List ℕ). IsRow l c.self.inside.len) (sym is) (zeros_row (length old) c.self.inside.len c.self.invariant.counted c.self.invariant.word_count))

pub returns : goal.returns
returns c =
    let old = c.self.inside.words.items in
    let new = c.clear_all.new.words in
    let is : new ≡ replicate (length old) 0 = subst (λ (l : List ℕ). new ≡ replicate (length l) 0) c.deref_mut.ensures.value c.clear_all.ensures in
    let written : take c.self.inside.words.len (new ++ drop (length new) old) ≡ new = with_items_is c.self.inside.words new (ap length is ∙ length-replicate (length old) 0 ∙ sym c.self.inside.words.ok.0) in
    let long : length c.args.self.now ≡ c.self.inside.len = ap (λ (l : List Bool). length l) (sym c.self.view_is) ∙ length-row_of old c.self.inside.len in
    let done : row_of (take c.self.inside.words.len (new ++ drop (length new) old)) c.self.inside.len ≡ replicate (length c.args.self.now) false =
    rw written (ap (λ (l : List ℕ). row_of l c.self.inside.len) is ∙ zeros_clear (length old) c.self.inside.len ∙ ap (λ (n : ℕ). replicate n false) (sym long)) in
    done
