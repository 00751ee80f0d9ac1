use Rattle.std.proofs.Common.{◌≡◌, Bool, true, false, ◌&&◌, refl, sym, ◌∙◌, subst}
use Rattle.qm_lists.specs.Word.{has_bit}
use Rattle.qm_lists.proofs.Bits.{has_bit-and}
use Rattle.qm_contacts.specs.World.{World}
use Rattle.qm_sight.specs.WordInSight.{LacksNoneInSight}
use Rattle.sight_tests.proofs.two_rows.TwoRowsRowSource.word.Goals as goal

first_set : (a b : Bool) → (a && b) ≡ true → a ≡ true
first_set true b set = refl
first_set false b set = set

both_set : (a b : Bool) → a ≡ true → b ≡ true → (a && b) ≡ true
both_set true b first second = second
both_set false b first second = first

pub returns-else-next-eq0-clause-within : goal.returns-else-next-eq0-clause-within
returns-else-next-eq0-clause-within c bit less set =
    let wide = c.word-wide.result in
    let narrow = c.word-narrow.result in
    c.word-wide.ensures.within bit less (first_set (has_bit wide bit) (has_bit narrow bit) (sym (has_bit-and wide narrow bit) ∙ set))

pub returns-else-next-eq0-clause-sound : goal.returns-else-next-eq0-clause-sound
returns-else-next-eq0-clause-sound c portal at bit less sight =
    let wide = c.word-wide.result in
    let narrow = c.word-narrow.result in
    let of_narrow = subst (λ (world : World). LacksNoneInSight world c.args.portal c.args.k narrow) c.args.self.now.of_one_world c.word-narrow.ensures.sound in
    has_bit-and wide narrow bit ∙ both_set (has_bit wide bit) (has_bit narrow bit) (c.word-wide.ensures.sound portal at bit less sight) (of_narrow portal at bit less sight)
