use Rattle.std.proofs.Common.{◌≡◌, ℕ, List, length, take, drop, ◌++◌, bit_and, subst, ap, sym, ◌∙◌}
use Rattle.std.proofs.lemmas.List.{with_items_is}
use Rattle.qm_lists.specs.CutTo.{IsCutTo}
use Rattle.qm_bits.specs.inner.Rows.{row_of}
use Rattle.qm_bits.specs.inner.Words.{IsOfBoth}
use Rattle.qm_bits.proofs.Rows.{same_counts}
use Rattle.qm_bits.proofs.Changes.{cut_of_lists}
use Rattle.qm_bits.proofs.bit_row.BitRow.and_row.Goals as goal

pub keep_all-requires : goal.keep_all-requires
keep_all-requires c =
    let counts = same_counts c.self.inside.words.items c.other.inside.words.items c.self.inside.len c.other.inside.len c.args.self.now c.args.other.now c.self.view_is c.other.view_is c.self.invariant c.other.invariant c.requires in
    ap (λ (l : List ℕ). length l) c.deref.ensures.value ∙ counts.1 ∙ sym (ap (λ (l : List ℕ). length l) c.deref_mut.ensures.value)

pub invariant_of-self : goal.invariant_of-self
invariant_of-self c =
    let old = c.self.inside.words.items in
    let other = c.other.inside.words.items in
    let new = c.keep_all.new.words in
    let is : IsOfBoth bit_and old other new = subst (λ (l : List ℕ). IsOfBoth bit_and l other new) c.deref_mut.ensures.value (subst (λ (l : List ℕ). IsOfBoth bit_and c.deref_mut.result.now l new) c.deref.ensures.value c.keep_all.ensures) in
    let written : take c.self.inside.words.len (new ++ drop (length new) old) ≡ new = with_items_is c.self.inside.words new (is.same_count ∙ sym c.self.inside.words.ok.0) in
    rw written ((cut_of_lists old other new c.self.inside.len c.other.inside.len c.args.self.now c.args.other.now c.self.view_is c.other.view_is c.self.invariant c.other.invariant c.requires is).0)

pub returns : goal.returns
returns c =
    let old = c.self.inside.words.items in
    let other = c.other.inside.words.items in
    let new = c.keep_all.new.words in
    let is : IsOfBoth bit_and old other new = subst (λ (l : List ℕ). IsOfBoth bit_and l other new) c.deref_mut.ensures.value (subst (λ (l : List ℕ). IsOfBoth bit_and c.deref_mut.result.now l new) c.deref.ensures.value c.keep_all.ensures) in
    let written : take c.self.inside.words.len (new ++ drop (length new) old) ≡ new = with_items_is c.self.inside.words new (is.same_count ∙ sym c.self.inside.words.ok.0) in
    let done : IsCutTo c.args.other.now c.args.self.now (row_of (take c.self.inside.words.len (new ++ drop (length new) old)) c.self.inside.len) =
    rw written ((cut_of_lists old other new c.self.inside.len c.other.inside.len c.args.self.now c.args.other.now c.self.view_is c.other.view_is c.self.invariant c.other.invariant c.requires is).1) in
    done
