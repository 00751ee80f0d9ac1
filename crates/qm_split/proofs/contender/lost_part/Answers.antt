use Rattle.std.proofs.Common.{refl}
use Rattle.qm_split.proofs.KeptParts.{contains_beyond, outside_beyond}
use Rattle.qm_split.proofs.contender.lost_part.Goals as goal

pub returns-then-is_inside-clause-part : goal.returns-then-is_inside-clause-part
returns-then-is_inside-clause-part c = λ cuboid book cell full reduced section held pieces. (
  refl,
  contains_beyond book cell (record { contents = c.args.contents; outward = c.args.outward.now }) c.args.section.now c.args.plane.now c.is_inside.ensures.reduced full reduced section pieces
      (c.if-is_inside.ensures.answer section.convex),
)

pub returns-else-is_inside-clause-part : goal.returns-else-is_inside-clause-part
returns-else-is_inside-clause-part c = λ cuboid book cell full reduced section held pieces.
    outside_beyond book cell (record { contents = c.args.contents; outward = c.args.outward.now }) c.args.section.now c.args.plane.now c.is_inside.ensures.reduced full reduced section pieces
    (c.if-is_inside.ensures.answer section.convex)
