use Rattle.std.proofs.Common.{◌≡◌, ◌<◌, ℕ, ◌+◌, ◌*◌, ◌/◌, true, List, Contains, take, get_or, length, sym, ap, ◌∙◌, subst, arith}
use Rattle.std.specs.List.Sorted.{IsPermutation}
use Rattle.std.proofs.lemmas.List.{take_all, get_or_default}
use Rattle.std.proofs.lemmas.List.Sorted.{IsPermutation-refl}
use Rattle.qm_contacts.specs.World.{World}
use Rattle.qm_lists.specs.Word.{has_bit}
use Rattle.qm_lists.proofs.Places.{take-read}
use Rattle.qm_chains.specs.inner.Narrowing.{ShowsNothingNew}
use Rattle.qm_chains.specs.inner.OwnRows.{AreOwnRows, MustHave}
use Rattle.qm_flow.proofs.NewWords.{none_in_more, none_in_all}
use Rattle.qm_flow.proofs.masks.may_show.Goals as goal

pub returns-then-is_barred-clause-none : goal.returns-then-is_barred-clause-none
returns-then-is_barred-clause-none g c clear n in_mask must = absurd (c.is_barred.ensures c.if-is_barred.true (g.S.RowSource.world c.args.source.now) n must)

pub returns-then-is_barred-clause-on : goal.returns-then-is_barred-clause-on
returns-then-is_barred-clause-on g c = g.met.S.RowSource.goes_on_itself c.args.source.now

pub word-requires : goal.word-requires
word-requires g c = subst (λ (words : List ℕ). 64 * get_or words c.loop-i.i 0 < length c.args.mask.now) (sym c.loop-i.invariant.same) (c.requires.words.within c.loop-i.i 0 c.loop-i-test.true)

pub word-word-requires-clause-own : goal.word-word-requires-clause-own
word-word-requires-clause-own g c = subst (λ (w : World). AreOwnRows w c.args.own.now) (sym (g.met.S.RowSource.same_world c.args.source.now c.loop-i.source c.loop-i.invariant.on)) c.requires.own

pub loop-i-preserved : goal.loop-i-preserved
loop-i-preserved g c =
    let Must = MustHave (g.S.RowSource.world c.args.source.now) c.args.own.now c.args.portal in
    let at = c.loop-i.i in
    let k = get_or c.loop-i.words at 0 in
    let small = c.word-in-loop-i.type_inv in
    let same = g.met.S.RowSource.same_world c.args.source.now c.loop-i.source c.loop-i.invariant.on in
    let read = ap (λ (words : List ℕ). get_or words at 0) c.loop-i.invariant.same in
    record {
      none = subst (λ (words : List ℕ). ShowsNothingNew (λ n. Must n × Contains words (n / 64)) c.args.mask.now c.args.found.now)
          (sym (take-read c.args.words.now at k c.loop-i-test.true (read ∙ get_or_default c.args.words.now at 0 k c.loop-i-test.true)))
          (none_in_more c.args.mask.now c.args.found.now Must (take at c.args.words.now) k c.word-word.result c.word.result c.word-in-loop-i.result c.loop-i.invariant.none c.word.ensures c.word-in-loop-i.ensures (omega (arith, small))
          (subst (λ (w : World). (bit : ℕ) → bit < 64 → MustHave w c.args.own.now c.args.portal (64 * k + bit) → has_bit c.word-word.result bit ≡ true) same c.word-word.ensures.sound) c.if-word-left-ne0.false);
      same = c.loop-i.invariant.same;
      on = g.met.S.RowSource.goes_on_in_turn c.args.source.now c.loop-i.source c.word-word.new.source c.loop-i.invariant.on c.word-word.ensures.on;
    }

pub returns-then-word-left-ne0-clause-words : goal.returns-then-word-left-ne0-clause-words
returns-then-word-left-ne0-clause-words g c = subst (λ (words : List ℕ). IsPermutation words c.swap.new.self) c.loop-i.invariant.same c.swap.ensures.permutation

pub returns-clause-words : goal.returns-clause-words
returns-clause-words g c = subst (λ (words : List ℕ). IsPermutation words c.loop-i.words) c.loop-i.invariant.same (IsPermutation-refl c.loop-i.words)

pub returns-clause-none : goal.returns-clause-none
returns-clause-none g c clear =
    let Must = MustHave (g.S.RowSource.world c.args.source.now) c.args.own.now c.args.portal in
    none_in_all c.args.mask.now c.args.found.now Must c.args.words.now c.requires.words.all_new
    (subst (λ (words : List ℕ). ShowsNothingNew (λ n. Must n × Contains words (n / 64)) c.args.mask.now c.args.found.now) (take_all c.loop-i.i c.args.words.now c.loop-i-test.false) c.loop-i.invariant.none)
