use Rattle.std.proofs.Common.{◌≡◌, ◌∙◌, ◌-◌, ℕ, ap, subst, length, get_or, refl, arith}
use Rattle.std.proofs.lemmas.Option.{slice_get-get_or}
use Rattle.qm_base.specs.inner.Tables.{AreClasses}
use Rattle.qm_base.proofs.TableSteps.{class_more, some_plane}
use Rattle.qm_base.proofs.table.classes_of.Goals as goal

pub overflow_sub-len : goal.overflow_sub-len
overflow_sub-len c =
    let lanes = c.args.lanes.now in
    let some = some_plane lanes c.loop-k.k c.loop-k.planes.items c.add_plane.new.planes.items c.in_ok-add_plane.ensures c.loop-k-test.true in
    let count = c.len.ensures in
    let fits = c.add_plane.new.planes.ok.0 in
    omega (arith, some, count, fits)

pub loop-k-preserved : goal.loop-k-preserved
loop-k-preserved c =
    let lanes = c.args.lanes.now in
    let lane = get_or lanes c.loop-k.k c.index-lanes-k.result in
    let planes = c.add_plane.new.planes in
    rw c.in_ok-push.ensures.items (class_more lanes c.loop-k.k c.loop-k.kinds.items c.loop-k.planes.items planes.items lane (record { class = c.len.result - 1; front = lane.front }) c.loop-k.invariant c.in_ok-add_plane.ensures
    (slice_get-get_or lanes c.loop-k.k c.index-lanes-k.result c.loop-k-test.true) refl (ap (λ (n : ℕ). n - 1) (c.len.ensures ∙ planes.ok.0)))

pub returns : goal.returns
returns c =
    let lanes = c.args.lanes.now in
    let all : c.loop-k.k ≡ length lanes = let end = c.loop-k-test.false in let most = c.loop-k.auto.k-end in omega (arith, end, most) in
    subst (λ (n : ℕ). AreClasses lanes n c.loop-k.kinds.items c.loop-k.planes.items) all c.loop-k.invariant
