use Rattle.std.proofs.Common.{ℤ, pos, ◌<ℤ◌, ◌≤ℤ◌, [], ◌∷◌, ◌++◌, refl, sym, ap, ◌∙◌, subst, arith}
use Rattle.std.proofs.lemmas.Int.{ints}
use Rattle.qm_space.specs.Plane.{Plane, flipped}
use Rattle.qm_space.specs.Cuboid.{least_value, greatest_value}
use Rattle.qm_split.specs.declared.contender.Body.{Body}
use Rattle.qm_split.specs.declared.contender.Part.TheVariants.{Kept}
use Rattle.qm_split.specs.Pieces.{solid_of_contender}
use Rattle.qm_split.specs.inner.Parts.{HasNoneBehind, IsPartIn, IsWindingInCell}
use Rattle.qm_split.proofs.SidesOfPlanes.{none_of_lying, none_of_lying_flipped}
use Rattle.qm_split.proofs.HeldCuboids.{outside_behind, outside_ahead}
use Rattle.qm_split.proofs.KeptParts.{moved_ahead, moved_behind, none_behind, none_ahead, kept_whole, shortened, shortened_flipped, section_flipped}
use Rattle.qm_split.proofs.contender.Contender.split.Goals as goal

pub returns-then-least-gt0-clause-front : goal.returns-then-least-gt0-clause-front
returns-then-least-gt0-clause-front c = λ book cell contends section.
    let h = c.if-least-gt0.true in
    let t = c.least_value-least.type_inv in
    let p : pos 0 <ℤ c.least_value-least.result = omega (arith, ints) in
    let above = subst (λ (z : ℤ). pos 0 <ℤ z) (c.least_value-least.ensures.exact ∙ ap (λ (b : Body). least_value c.args.plane.now b.cuboid) c.deref.ensures) p in
    kept_whole book cell c.args.self contends c.args.plane.now (moved_ahead book cell c.args.self contends c.args.plane.now above)

pub returns-then-least-gt0-clause-back : goal.returns-then-least-gt0-clause-back
returns-then-least-gt0-clause-back c = λ book cell contends section.
    let h = c.if-least-gt0.true in
    let t = c.least_value-least.type_inv in
    let p : pos 0 <ℤ c.least_value-least.result = omega (arith, ints) in
    let above = subst (λ (z : ℤ). pos 0 <ℤ z) (c.least_value-least.ensures.exact ∙ ap (λ (b : Body). least_value c.args.plane.now b.cuboid) c.deref.ensures) p in
    outside_behind c.args.self.body.value.cuboid (solid_of_contender c.args.self) cell contends.within c.args.plane.now (omega (arith, ints, above))

pub returns-then-least-gt0-clause-front_count : goal.returns-then-least-gt0-clause-front_count
returns-then-least-gt0-clause-front_count c = λ book cell contends.
    let h = c.if-least-gt0.true in
    let t = c.least_value-least.type_inv in
    let p : pos 0 <ℤ c.least_value-least.result = omega (arith, ints) in
    let above = subst (λ (z : ℤ). pos 0 <ℤ z) (c.least_value-least.ensures.exact ∙ ap (λ (b : Body). least_value c.args.plane.now b.cuboid) c.deref.ensures) p in
    shortened c.args.self c.args.plane.now c.args.plane.now (Kept c.args.self) c.args.self.body.value.pieces.items (moved_ahead book cell c.args.self contends c.args.plane.now above) refl (λ w lies. none_of_lying w c.args.plane.now lies)

pub returns-then-least-ge0-clause-front : goal.returns-then-least-ge0-clause-front
returns-then-least-ge0-clause-front c = λ book cell contends section.
    let h = c.if-least-ge0.true in
    let t = c.least_value-least.type_inv in
    let p : pos 0 ≤ℤ c.least_value-least.result = omega (arith, ints) in
    let above = subst (λ (z : ℤ). pos 0 ≤ℤ z) (c.least_value-least.ensures.exact ∙ ap (λ (b : Body). least_value c.args.plane.now b.cuboid) c.deref.ensures) p in
    c.left_beside.ensures.part book cell contends section (none_behind book cell c.args.self contends c.args.plane.now above)

pub returns-then-least-ge0-clause-back : goal.returns-then-least-ge0-clause-back
returns-then-least-ge0-clause-back c = λ book cell contends section.
    let h = c.if-least-ge0.true in
    let t = c.least_value-least.type_inv in
    let p : pos 0 ≤ℤ c.least_value-least.result = omega (arith, ints) in
    let above = subst (λ (z : ℤ). pos 0 ≤ℤ z) (c.least_value-least.ensures.exact ∙ ap (λ (b : Body). least_value c.args.plane.now b.cuboid) c.deref.ensures) p in
    outside_behind c.args.self.body.value.cuboid (solid_of_contender c.args.self) cell contends.within c.args.plane.now above

pub returns-then-least-ge0-clause-front_count : goal.returns-then-least-ge0-clause-front_count
returns-then-least-ge0-clause-front_count c = λ book cell contends.
    let h = c.if-least-ge0.true in
    let t = c.least_value-least.type_inv in
    let p : pos 0 ≤ℤ c.least_value-least.result = omega (arith, ints) in
    let above = subst (λ (z : ℤ). pos 0 ≤ℤ z) (c.least_value-least.ensures.exact ∙ ap (λ (b : Body). least_value c.args.plane.now b.cuboid) c.deref.ensures) p in
    c.left_beside.ensures.count book cell contends (none_behind book cell c.args.self contends c.args.plane.now above)

pub returns-then-greatest-lt0-clause-front : goal.returns-then-greatest-lt0-clause-front
returns-then-greatest-lt0-clause-front c = λ book cell contends section.
    let h = c.if-greatest-lt0.true in
    let t = c.greatest_value-greatest.type_inv in
    let p : c.greatest_value-greatest.result <ℤ pos 0 = omega (arith, ints) in
    let below = subst (λ (z : ℤ). z <ℤ pos 0) (c.greatest_value-greatest.ensures.exact ∙ ap (λ (b : Body). greatest_value c.args.plane.now b.cuboid) c.deref-2.ensures) p in
    outside_ahead c.args.self.body.value.cuboid (solid_of_contender c.args.self) cell contends.within c.args.plane.now (omega (arith, ints, below))

pub returns-then-greatest-lt0-clause-back : goal.returns-then-greatest-lt0-clause-back
returns-then-greatest-lt0-clause-back c = λ book cell contends section.
    let h = c.if-greatest-lt0.true in
    let t = c.greatest_value-greatest.type_inv in
    let p : c.greatest_value-greatest.result <ℤ pos 0 = omega (arith, ints) in
    let below = subst (λ (z : ℤ). z <ℤ pos 0) (c.greatest_value-greatest.ensures.exact ∙ ap (λ (b : Body). greatest_value c.args.plane.now b.cuboid) c.deref-2.ensures) p in
    kept_whole book cell c.args.self contends (flipped c.args.plane.now) (moved_behind book cell c.args.self contends c.args.plane.now below)

pub returns-then-greatest-lt0-clause-back_count : goal.returns-then-greatest-lt0-clause-back_count
returns-then-greatest-lt0-clause-back_count c = λ book cell contends.
    let h = c.if-greatest-lt0.true in
    let t = c.greatest_value-greatest.type_inv in
    let p : c.greatest_value-greatest.result <ℤ pos 0 = omega (arith, ints) in
    let below = subst (λ (z : ℤ). z <ℤ pos 0) (c.greatest_value-greatest.ensures.exact ∙ ap (λ (b : Body). greatest_value c.args.plane.now b.cuboid) c.deref-2.ensures) p in
    shortened c.args.self c.args.plane.now (flipped c.args.plane.now) (Kept c.args.self) c.args.self.body.value.pieces.items (moved_behind book cell c.args.self contends c.args.plane.now below) refl (λ w lies. none_of_lying_flipped w c.args.plane.now lies)

pub returns-then-greatest-le0-clause-front : goal.returns-then-greatest-le0-clause-front
returns-then-greatest-le0-clause-front c = λ book cell contends section.
    let h = c.if-greatest-le0.true in
    let t = c.greatest_value-greatest.type_inv in
    let p : c.greatest_value-greatest.result ≤ℤ pos 0 = omega (arith, ints) in
    let below = subst (λ (z : ℤ). z ≤ℤ pos 0) (c.greatest_value-greatest.ensures.exact ∙ ap (λ (b : Body). greatest_value c.args.plane.now b.cuboid) c.deref-2.ensures) p in
    outside_ahead c.args.self.body.value.cuboid (solid_of_contender c.args.self) cell contends.within c.args.plane.now below

pub returns-then-greatest-le0-clause-back : goal.returns-then-greatest-le0-clause-back
returns-then-greatest-le0-clause-back c = λ book cell contends section.
    let h = c.if-greatest-le0.true in
    let t = c.greatest_value-greatest.type_inv in
    let p : c.greatest_value-greatest.result ≤ℤ pos 0 = omega (arith, ints) in
    let below = subst (λ (z : ℤ). z ≤ℤ pos 0) (c.greatest_value-greatest.ensures.exact ∙ ap (λ (b : Body). greatest_value c.args.plane.now b.cuboid) c.deref-2.ensures) p in
    subst (λ (f : Plane). IsPartIn book (cell ++ f ∷ []) (solid_of_contender c.args.self) c.left_beside-then-greatest-le0.result) c.flipped.ensures
    (c.left_beside-then-greatest-le0.ensures.part book cell contends (subst (λ (f : Plane). IsWindingInCell cell f c.args.section.now) (sym c.flipped.ensures) (section_flipped cell c.args.plane.now c.args.section.now section)) (subst (HasNoneBehind c.args.self) (sym c.flipped.ensures) (none_ahead book cell c.args.self contends c.args.plane.now below)))

pub returns-then-greatest-le0-clause-back_count : goal.returns-then-greatest-le0-clause-back_count
returns-then-greatest-le0-clause-back_count c = λ book cell contends.
    let h = c.if-greatest-le0.true in
    let t = c.greatest_value-greatest.type_inv in
    let p : c.greatest_value-greatest.result ≤ℤ pos 0 = omega (arith, ints) in
    let below = subst (λ (z : ℤ). z ≤ℤ pos 0) (c.greatest_value-greatest.ensures.exact ∙ ap (λ (b : Body). greatest_value c.args.plane.now b.cuboid) c.deref-2.ensures) p in
    shortened_flipped c.args.self c.args.plane.now c.flipped.result _ c.flipped.ensures (c.left_beside-then-greatest-le0.ensures.count book cell contends (subst (HasNoneBehind c.args.self) (sym c.flipped.ensures) (none_ahead book cell c.args.self contends c.args.plane.now below)))
