use Rattle.std.proofs.Common.{◌≡◌, sym, subst}
use Rattle.std.proofs.lemmas.List.Elements.{All-weaker}
use Rattle.qm_face_corners.specs.declared.kept_number.KeptNumber.{KeptNumber}
use Rattle.qm_face_corners.specs.inner.KeptNumbers.{HasItsNumber}
use Rattle.qm_face_corners.proofs.plane_numbers.PlaneNumbers.over.Goals as goal

pub invariant_of-result : goal.invariant_of-result
invariant_of-result c = record {
  count = c.in_ok-kept.ensures.count;
  each = All-weaker (λ (one : KeptNumber). one ≡ c.first_wall-first.result) (HasItsNumber c.args.book.now)
      (λ one is. subst (HasItsNumber c.args.book.now) (sym is) c.first_wall-first.ensures) c.in_ok-kept.kept.items c.in_ok-kept.ensures.each;
}
