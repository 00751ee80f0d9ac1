use Rattle.std.proofs.Common.{◌≡◌, true, false, sym, ◌∙◌}
use Rattle.qm_narrow.proofs.PartingPlanes.{parts_in_front, parts_behind}
use Rattle.qm_narrow.proofs.sides.parts.Goals as goal

pub returns-then-has_corner_in_front : goal.returns-then-has_corner_in_front
returns-then-has_corner_in_front c = (
  (λ _. parts_in_front c.args.source.now c.args.pass.now c.args.plane.now (λ some. let e = c.has_corner_behind.ensures.1 some in let never : false ≡ true = sym c.if-has_corner_behind.false ∙ e in cc) (c.has_corner_in_front.ensures.0 c.if-has_corner_in_front.true)),
  (λ _. c.if-has_corner_in_front.true),
)

pub returns-else-has_corner_in_front : goal.returns-else-has_corner_in_front
returns-else-has_corner_in_front c =
    let both = parts_behind c.args.source.now c.args.pass.now c.args.plane.now
    (λ some. let e = c.has_corner_behind.ensures.1 some in let never : false ≡ true = sym c.if-has_corner_behind.false ∙ e in cc)
    (λ some. let e = c.has_corner_in_front.ensures.1 some in let never : false ≡ true = sym c.if-has_corner_in_front.false ∙ e in cc) in (
      (λ is. both.0 (c.has_corner_behind-else-has_corner_in_front.ensures.0 is)),
      (λ parts. c.has_corner_behind-else-has_corner_in_front.ensures.1 (both.1 parts)),
    )
