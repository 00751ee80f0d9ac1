use Rattle.std.proofs.Common.{◌≡◌, ◌==◌, ◌+◌, ◌*◌, ◌/◌, ◌%◌, ◌<◌, ℕ, arith, sym, ap, ◌∙◌, subst}
use Rattle.std.proofs.lemmas.Nat.Bits.{shr_and_one}
use Rattle.qm_segments.specs.Sight.{IsInSight}
use Rattle.qm_sight.proofs.reading.has_leaf.Goals as goal

pub returns-clause-sound : goal.returns-clause-sound
returns-clause-sound g c p p_is seen =
    let leaf = c.args.leaf in
    let bit : leaf % 64 < 64 = omega arith in
    let place : 64 * (leaf / 64) + leaf % 64 ≡ leaf = omega arith in
    ap (λ (m : ℕ). m == 1) (shr_and_one c.word-word.result (leaf % 64))
    ∙ c.word-word.ensures.sound p p_is (leaf % 64) bit (subst (IsInSight (g.S.RowSource.world c.args.source.now).tree p) (sym place) seen)
