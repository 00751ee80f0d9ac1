use Rattle.std.proofs.Common.{◌≡◌, true, ℕ, ◌<◌, ◌+◌, ◌*◌, length, sym, subst, arith}
use Rattle.qm_contacts.specs.NumberedLeaves.{numbered_leaves}
use Rattle.qm_contacts.specs.World.{World}
use Rattle.qm_lists.specs.Word.{has_bit, IsWord}
use Rattle.qm_sight.specs.WordInSight.{ceiling_of}
use Rattle.qm_chains.specs.inner.OwnRows.{AreOwnRows, MustHave, CanHave}
use Rattle.qm_chains.proofs.Narrowing.{narrowed_none, narrowed_more, narrowed_clear, narrowed_all}
use Rattle.qm_flow.proofs.OwnAnswers.{can_more}
use Rattle.qm_flow.proofs.masks.narrow.Goals as goal
use Rattle.qm_flow.proofs.masks.narrow.Goals.{then-word-ne0, else-word-ne0}

pub loop-k-init : goal.loop-k-init
loop-k-init g c = record {
  narrowed = narrowed_none (MustHave (g.S.RowSource.world c.args.source.now) c.args.own.now c.args.portal) (CanHave (ceiling_of (g.S.RowSource.ceilings c.args.source.now) c.args.portal) c.args.own.now c.args.portal) c.args.mask.now;
  on = g.met.S.RowSource.goes_on_itself c.args.source.now;
}

pub word-requires : goal.word-requires
word-requires g c =
    let same = c.loop-k.invariant.narrowed.same_length in
    let test = c.loop-k-test.true in
    let words = c.div_ceil-k-end.ensures in
    let long = c.len.ensures in
    omega (arith, same, test, words, long)

pub word-word-requires-clause-own : goal.word-word-requires-clause-own
word-word-requires-clause-own g c =
    subst (λ (w : World). AreOwnRows w c.args.own.now) (sym (g.met.S.RowSource.same_world c.args.source.now c.loop-k.source c.loop-k.invariant.on)) c.requires.own

pub word-word-requires-clause-word : goal.word-word-requires-clause-word
word-word-requires-clause-word g c =
    let same = g.met.S.RowSource.same_world c.args.source.now c.loop-k.source c.loop-k.invariant.on in
    let wide = c.requires.wide in
    let test = c.loop-k-test.true in
    let words = c.div_ceil-k-end.ensures in
    let long = c.len.ensures in
    let here : 64 * c.loop-k.k < length (numbered_leaves (g.S.RowSource.world c.args.source.now).tree) = omega (arith, wide, test, words, long) in
    subst (λ (w : World). 64 * c.loop-k.k < length (numbered_leaves w.tree)) (sym same) here

pub and_word-requires : goal.and_word-requires
and_word-requires g c =
    let same = c.loop-k.invariant.narrowed.same_length in
    let test = c.loop-k-test.true in
    let words = c.div_ceil-k-end.ensures in
    let long = c.len.ensures in
    omega (arith, same, test, words, long)

pub loop-k-preserved : goal.loop-k-preserved
loop-k-preserved g c =
    let world = g.S.RowSource.world c.args.source.now in
    let own = c.args.own.now in
    let portal = c.args.portal in
    let ceiling = ceiling_of (g.S.RowSource.ceilings c.args.source.now) portal in
    let same = g.met.S.RowSource.same_world c.args.source.now c.loop-k.source c.loop-k.invariant.on in
    elim c.if-word-ne0.branch [
      | then-word-ne0 w ↦ record {
        narrowed = rw w.mask-is
            (narrowed_more (MustHave world own portal) (CanHave ceiling own portal) c.loop-k.k w.word-word.result c.args.mask.now c.loop-k.mask w.and_word.new.self c.loop-k.invariant.narrowed w.and_word.ensures
            (λ bit within is. can_more (ceiling_of (g.S.RowSource.ceilings c.loop-k.source) portal) ceiling own portal (64 * c.loop-k.k + bit)
            (λ m has. g.met.S.RowSource.narrower c.args.source.now c.loop-k.source c.loop-k.invariant.on portal m has)
            (w.word-word.ensures.within bit within is))
            (subst (λ (v : World). (bit : ℕ) → bit < 64 → MustHave v own portal (64 * c.loop-k.k + bit) → has_bit w.word-word.result bit ≡ true) same w.word-word.ensures.sound));
        on = rw w.source-is (g.met.S.RowSource.goes_on_in_turn c.args.source.now c.loop-k.source w.word-word.new.source c.loop-k.invariant.on w.word-word.ensures.on);
      }
      | else-word-ne0 w ↦ record {
        narrowed = rw w.mask-is
            (narrowed_clear (MustHave world own portal) (CanHave ceiling own portal) c.loop-k.k c.args.mask.now c.loop-k.mask c.loop-k.invariant.narrowed
            (subst (IsWord c.loop-k.mask c.loop-k.k) w.if-word-ne0.false c.word.ensures));
        on = rw w.source-is c.loop-k.invariant.on;
      }
    ]

pub returns-clause-narrowed : goal.returns-clause-narrowed
returns-clause-narrowed g c =
    let end = c.loop-k-test.false in
    let words = c.div_ceil-k-end.ensures in
    let long = c.len.ensures in
    narrowed_all (MustHave (g.S.RowSource.world c.args.source.now) c.args.own.now c.args.portal) (CanHave (ceiling_of (g.S.RowSource.ceilings c.args.source.now) c.args.portal) c.args.own.now c.args.portal) c.loop-k.k c.args.mask.now c.loop-k.mask (omega (arith, end, words, long)) c.loop-k.invariant.narrowed

pub returns-clause-on : goal.returns-clause-on
returns-clause-on g c = c.loop-k.invariant.on
