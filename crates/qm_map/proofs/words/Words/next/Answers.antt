use Rattle.std.proofs.Common.{take, drop, sym, ap, ◌∙◌}
use Rattle.qm_map.proofs.WordLaws.{words_of_text-cut}
use Rattle.qm_map.proofs.words.Words.next.Goals as goal
use Rattle.qm_map.proofs.words.Words.next.Goals.{then-is_empty, else-is_empty}

pub returns : goal.returns
returns c =
    let bytes = c.self.inside.rest.now in
    let text = c.split_at.result.1.now in
    let word = c.split_at-2.result.0.now in
    let rest = c.split_at-2.result.1.now in
    let cut = words_of_text-cut bytes text word rest (c.split_at.ensures.back ∙ ap (λ n. drop n bytes) c.blanks_len.ensures.value) (c.split_at-2.ensures.front ∙ ap (λ n. take n text) c.word_len.ensures.value) (c.split_at-2.ensures.back ∙ ap (λ n. drop n text) c.word_len.ensures.value) in
    elim c.if-is_empty.branch [
      | then-is_empty w ↦ rw w.result-is (sym c.self.view_is ∙ cut.none (sym c.is_empty.ensures ∙ w.if-is_empty.true))
      | else-is_empty w ↦ rw w.result-is (sym c.self.view_is ∙ cut.one (sym c.is_empty.ensures ∙ w.if-is_empty.false))
    ]
