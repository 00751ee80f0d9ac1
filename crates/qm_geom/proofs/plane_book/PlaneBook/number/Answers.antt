use Rattle.std.proofs.Common.{◌≡◌, ◌<◌, ◌+◌, ◌-◌, ◌^◌, ℕ, Some, ◌∙◌, None, length, refl, sym, subst, arith}
use Rattle.std.specs.BTreeMap.{get, Updates}
use Rattle.qm_space.specs.Reduced.{IsReduced}
use Rattle.qm_space.specs.Entered.{was_there, is_gained, plane_cmp}
use Rattle.qm_geom.proofs.Entering.{entered_at}
use Rattle.qm_geom.proofs.Numbers.{AreBookPlanes-from, IsNumbered-same, IsNumbered-gained, absent_from}
use Rattle.qm_geom.proofs.plane_book.PlaneBook.number.Goals as goal

pub returns-in-Some-clause-ok : goal.returns-in-Some-clause-ok
returns-in-Some-clause-ok c =
    rw (← c.self.view_is) (was_there (c.self.invariant.found _ _ (sym c.get.ensures.value ∙ (sym c.copied.ensures ∙ c.in-Some.is))) refl)

pub invariant_of-self-in_err-insert : goal.invariant_of-self-in_err-insert
invariant_of-self-in_err-insert c = IsNumbered-same _ _ _ _ c.reserve.ensures.items c.in_err-insert.ensures.err c.self.invariant

-- the plane is gained only where its number was not found
absent : (c : goal.In_ok-push) → get plane_cmp c.self.inside.numbers c.args.plane ≡ None
absent c = sym c.get.ensures.value ∙ (sym c.copied.ensures ∙ c.in_default.is)

number : (c : goal.In_ok-push) → c.len-number.result ≡ length c.self.inside.planes.items
number c = c.len-number.ensures ∙ c.self.inside.planes.ok.0

pub invariant_of-self-2 : goal.invariant_of-self-2
invariant_of-self-2 c =
    let room : length c.self.inside.planes.items + 1 < 2 ^ 32 = (let h : length c.self.inside.planes.items < 2 ^ 32 - 1 = rw c.self.view_is c.requires.room in omega arith) in
    rw (c.in_ok-push.ensures.items, c.reserve.ensures.items)
    (IsNumbered-gained _ _ _ _ c.self.invariant (subst IsReduced c.plane.view_is c.plane.invariant) c.requires.leads (absent c)
    (subst (λ (k : ℕ). Updates plane_cmp c.self.inside.numbers c.insert.new.self c.args.plane (Some k)) (number c) c.in_ok-insert.ensures.updates) room)

pub returns-clause-ok : goal.returns-clause-ok
returns-clause-ok c =
    rw (← c.self.view_is, c.in_ok-push.ensures.items, c.reserve.ensures.items) (is_gained (absent_from _ _ _ c.self.invariant (absent c)) refl (number c))

pub returns-in-Some-clause-planes : goal.returns-in-Some-clause-planes
returns-in-Some-clause-planes c = rw (← c.self.view_is) (AreBookPlanes-from _ _ c.self.invariant)

pub returns-in_err-reserve-clause-planes : goal.returns-in_err-reserve-clause-planes
returns-in_err-reserve-clause-planes c = rw c.reserve.ensures.items (AreBookPlanes-from _ _ c.self.invariant)

pub returns-in_err-insert-clause-planes : goal.returns-in_err-insert-clause-planes
returns-in_err-insert-clause-planes c = rw c.reserve.ensures.items (AreBookPlanes-from _ _ c.self.invariant)

pub returns-clause-planes : goal.returns-clause-planes
returns-clause-planes c = AreBookPlanes-from _ _ (invariant_of-self-2 c)

pub returns-in-Some-clause-placed : goal.returns-in-Some-clause-placed
returns-in-Some-clause-placed c = entered_at _ _ _ _ (returns-in-Some-clause-ok c)

pub returns-clause-placed : goal.returns-clause-placed
returns-clause-placed c = entered_at _ _ _ _ (returns-clause-ok c)
