use Rattle.std.proofs.Common.{ℕ, ◌+◌, ◌*◌, ◌/◌, ◌<◌, List, All, Contains, length, sym, subst, arith}
use Rattle.std.proofs.lemmas.List.Elements.{All-push}
use Rattle.qm_chains.specs.inner.Narrowing.{ShowsNothingNewUpTo}
use Rattle.qm_chains.proofs.Words.{shows_none_new, shows_nothing}
use Rattle.qm_flow.proofs.NewWords.{list_more}
use Rattle.qm_flow.proofs.masks.list_new.Goals as goal
use Rattle.qm_flow.proofs.masks.list_new.Goals.{then-word-ne0+in_ok-push, else-word-ne0}

pub loop-k-preserved : goal.loop-k-preserved
loop-k-preserved c =
    let mask = c.args.mask.now in
    let found = c.args.found.now in
    let k = c.loop-k.k in
    let small = c.word-in-loop-k.type_inv in
    let test = c.loop-k-test.true in
    let words = c.div_ceil-k-end.ensures in
    let long = c.len.ensures in
    elim c.if-word-ne0.branch [
      | then-word-ne0+in_ok-push w ↦ record {
        within = rw w.words-is (subst (All (λ (m : ℕ). 64 * m < length mask)) (sym w.in_ok-push.ensures.items)
            (All-push (λ (m : ℕ). 64 * m < length mask) c.loop-k.words.items k c.loop-k.invariant.within (omega (arith, test, words, long))));
        all_new = rw w.words-is (subst (λ (listed : List ℕ). ShowsNothingNewUpTo (λ n. Contains listed (n / 64) → ⊥) (k + 1) mask found) (sym w.in_ok-push.ensures.items)
            (list_more mask found c.loop-k.words.items k c.loop-k.invariant.all_new));
      }
      | else-word-ne0 w ↦ record {
        within = rw w.words-is c.loop-k.invariant.within;
        all_new = rw w.words-is (shows_none_new (λ n. Contains c.loop-k.words.items (n / 64) → ⊥) mask found k c.word.result c.word-in-loop-k.result c.loop-k.invariant.all_new c.word.ensures c.word-in-loop-k.ensures (omega (arith, small)) w.if-word-ne0.false);
      }
    ]

pub returns : goal.returns
returns c =
    let end = c.loop-k-test.false in
    let words = c.div_ceil-k-end.ensures in
    let long = c.len.ensures in
    record {
      within = c.loop-k.invariant.within;
      all_new = shows_nothing (λ n. Contains c.loop-k.words.items (n / 64) → ⊥) c.args.mask.now c.args.found.now c.loop-k.k (omega (arith, end, words, long)) c.loop-k.invariant.all_new;
    }
