use Rattle.std.proofs.Common.{◌≡◌, ℕ, [], ◌∷◌, ◌++◌, length, sym, ap, ◌∙◌, arith}
use Rattle.std.proofs.lemmas.Option.{slice_get-get_or}
use Rattle.qm_contacts.proofs.NumberingLeaves.{next_numbered, next_solid}
use Rattle.qm_portal.proofs.numbers.Numbers.of.Goals as goal
use Rattle.qm_portal.proofs.numbers.Numbers.of.Goals.{then-is_numbered+in_ok-push-2, else-is_numbered}

pub loop-k-preserved : goal.loop-k-preserved
loop-k-preserved c =
    let leaves = c.args.leaves.now in
    let k = c.loop-k.k in
    let numbered = c.loop-k.numbered in
    let before = c.loop-k.before.items in
    let count : c.len.result ≡ length numbered.items = omega (arith, c.len.ensures, numbered.ok.0) in
    let at = slice_get-get_or leaves k _ c.loop-k-test.true in
    let pushed : c.push.new.self.items ≡ before ++ length numbered.items ∷ [] = c.in_ok-push.ensures.items ∙ ap (λ (n : ℕ). before ++ n ∷ []) count in
    elim c.if-is_numbered.branch [
      | then-is_numbered+in_ok-push-2 w ↦ rw (w.numbered-is, pushed, w.in_ok-push-2.ensures.items) (next_numbered leaves k _ numbered.items before at c.loop-k.invariant (sym c.is_numbered.ensures ∙ w.if-is_numbered.true))
      | else-is_numbered w ↦ rw (w.numbered-is, pushed) (next_solid leaves k _ numbered.items before at c.loop-k.invariant (sym c.is_numbered.ensures ∙ w.if-is_numbered.false))
    ]
