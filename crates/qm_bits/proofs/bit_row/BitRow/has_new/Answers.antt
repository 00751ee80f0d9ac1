use Rattle.std.proofs.Common.{ℕ, List, length, subst, ap, sym, ◌∙◌}
use Rattle.qm_bits.proofs.Rows.{same_counts}
use Rattle.qm_bits.proofs.News.{news_of_lists}
use Rattle.qm_bits.specs.inner.Words.{HaveUnseen}
use Rattle.qm_bits.proofs.bit_row.BitRow.has_new.Goals as goal

pub have_new-requires : goal.have_new-requires
have_new-requires c =
    let counts = same_counts c.self.inside.words.items c.seen.inside.words.items c.self.inside.len c.seen.inside.len c.args.self.now c.args.seen.now c.self.view_is c.seen.view_is c.self.invariant c.seen.invariant c.requires in
    ap (λ (l : List ℕ). length l) c.deref-2.ensures.value ∙ counts.1 ∙ sym (ap (λ (l : List ℕ). length l) c.deref.ensures.value)

pub returns : goal.returns
returns c =
    let news = news_of_lists c.self.inside.words.items c.seen.inside.words.items c.self.inside.len c.seen.inside.len c.args.self.now c.args.seen.now c.self.view_is c.seen.view_is c.self.invariant c.seen.invariant in (
      λ is. news.0 (subst (λ (l : List ℕ). HaveUnseen l c.seen.inside.words.items) c.deref.ensures.value (subst (λ (l : List ℕ). HaveUnseen c.deref.result.now l) c.deref-2.ensures.value (c.have_new.ensures.0 is))),
      λ new. c.have_new.ensures.1 (subst (λ (l : List ℕ). HaveUnseen c.deref.result.now l) (sym c.deref-2.ensures.value) (subst (λ (l : List ℕ). HaveUnseen l c.seen.inside.words.items) (sym c.deref.ensures.value) (news.1 new))),
    )
