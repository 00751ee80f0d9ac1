-- A plane has one side between two crossings: just after a parting the segment is on the side on which it stays up to the
-- next crossing.
use Rattle.std.proofs.Common.{◌≡◌, ◌<◌, ℤ, pos, Bool, true, false, ◌&&◌, ◌||◌, if◌then◌else◌, refl, ap, sym, ◌∙◌, arith}
use Rattle.std.specs.Prelude.{int_lt}
use Rattle.qm_lists.proofs.Cases.{by_cases}
use Rattle.qm_spans.specs.declared.parting.Parting.{Parting}
use Rattle.qm_spans.specs.Partings.{is_earlier, are_opposed, crossing_at, crosses_between, is_behind_after}
use Rattle.qm_spans.proofs.PartingOrder.{IsEarlier, IsNotLater, earlier_from_test, test_from_earlier, not_later_from_test, test_from_not_later, parts_behind, parts_before, not_later_then_earlier, earlier_then_not_later, not_earlier_than_itself}
use Rattle.qm_spans.proofs.PlaneEnds.{value_at, differ, before_crossing, after_crossing, one_sided, parts_of_crossing}

module _ (u v : ℤ) where
  -- ---- which side it is

  abbrev x : Parting
  x = crossing_at u v

  side_opposed_before : (from : Parting) → are_opposed u v ≡ true → IsEarlier from x → is_behind_after u v from ≡ int_lt u (pos 0)
  unfolding is_behind_after
  side_opposed_before from opposed less =
      ap (λ (b : Bool). if b then (if is_earlier from (crossing_at u v) then int_lt u (pos 0) else int_lt v (pos 0)) else (int_lt u (pos 0) || int_lt v (pos 0))) opposed
      ∙ ap (λ (b : Bool). if b then int_lt u (pos 0) else int_lt v (pos 0)) (test_from_earlier from (crossing_at u v) less)

  side_opposed_after : (from : Parting) → are_opposed u v ≡ true → IsNotLater x from → is_behind_after u v from ≡ int_lt v (pos 0)
  unfolding is_behind_after
  side_opposed_after from opposed not =
      ap (λ (b : Bool). if b then (if is_earlier from (crossing_at u v) then int_lt u (pos 0) else int_lt v (pos 0)) else (int_lt u (pos 0) || int_lt v (pos 0))) opposed
      ∙ ap (λ (b : Bool). if b then int_lt u (pos 0) else int_lt v (pos 0)) (test_from_not_later from (crossing_at u v) not)

  side_of_both : (from : Parting) → are_opposed u v ≡ false → is_behind_after u v from ≡ (int_lt u (pos 0) || int_lt v (pos 0))
  unfolding is_behind_after
  side_of_both from not = ap (λ (b : Bool). if b then (if is_earlier from (crossing_at u v) then int_lt u (pos 0) else int_lt v (pos 0)) else (int_lt u (pos 0) || int_lt v (pos 0))) not

  -- ---- whether the plane is crossed

  pub crosses_from : (from to : Parting) → are_opposed u v ≡ true → IsEarlier from x → IsEarlier x to → crosses_between u v from to ≡ true
  unfolding crosses_between
  crosses_from from to opposed after before =
      λ i. opposed i && (test_from_earlier from (crossing_at u v) after i && test_from_earlier (crossing_at u v) to before i)

  -- what is so where it is
  pub record Crosses (from to : Parting) : Type 0 where
    pub opposed : are_opposed u v ≡ true
    pub after : IsEarlier from x
    pub before : IsEarlier x to

  all_three : (a b c : Bool) → (a && (b && c)) ≡ true → (a ≡ true) × (b ≡ true) × (c ≡ true)
  all_three true true c test = (refl, refl, test)
  all_three true false c test = absurd (let e : false ≡ true = test in cc)
  all_three false b c test = absurd (let e : false ≡ true = test in cc)

  pub crossed : (from to : Parting) → crosses_between u v from to ≡ true → Crosses from to
  unfolding crosses_between
  crossed from to test =
      let each = all_three (are_opposed u v) (is_earlier from (crossing_at u v)) (is_earlier (crossing_at u v) to) test in
      record { opposed = each.0; after = earlier_from_test from (crossing_at u v) each.1; before = earlier_from_test (crossing_at u v) to each.2 }

  not_crossed_before : (from to : Parting) → crosses_between u v from to ≡ false → are_opposed u v ≡ true → IsEarlier from x → IsNotLater to x
  not_crossed_before from to not opposed after = by_cases (is_earlier x to)
      (λ before. absurd (differ (crosses_from from to opposed after (earlier_from_test x to before)) not))
      (λ other. not_later_from_test x to other)

  -- ---- a plane that is not crossed has one side

  pub one_side : (from to p : Parting) → crosses_between u v from to ≡ false → IsEarlier from p → IsEarlier p to → int_lt (value_at u v p) (pos 0) ≡ is_behind_after u v from
  one_side from to p not after before = by_cases (are_opposed u v)
      (λ opposed. by_cases (is_earlier from x)
      (λ test.
      let less = earlier_from_test from x test in
      let far = not_crossed_before from to not opposed less in
      before_crossing u v p opposed (earlier_then_not_later p to x (parts_of_crossing u v opposed).0 before far) ∙ sym (side_opposed_before from opposed less))
      (λ test.
      let past = not_later_from_test from x test in
      after_crossing u v p opposed (not_later_then_earlier x from p (parts_of_crossing u v opposed).1 past after) ∙ sym (side_opposed_after from opposed past)))
      (λ free. one_sided u v p free (parts_before from p after) (parts_behind p to before) ∙ sym (side_of_both from free))

  -- it is not crossed after a later parting either, and the side is the same from there
  pub not_crossed_later : (from to p : Parting) → 0 < from.behind → crosses_between u v from to ≡ false → IsNotLater from p → IsEarlier p to → (crosses_between u v p to ≡ false) × (is_behind_after u v p ≡ is_behind_after u v from)
  not_crossed_later from to p some not after before = (
    by_cases (crosses_between u v p to)
        (λ test.
        let crosses = crossed p to test in
        absurd (differ (crosses_from from to crosses.opposed (not_later_then_earlier from p x some after crosses.after) crosses.before) not))
        (λ other. other),
    by_cases (are_opposed u v)
        (λ opposed. by_cases (is_earlier from x)
        (λ test.
        let less = earlier_from_test from x test in
        let far = not_crossed_before from to not opposed less in
        side_opposed_before p opposed (earlier_then_not_later p to x (parts_of_crossing u v opposed).0 before far) ∙ sym (side_opposed_before from opposed less))
        (λ test.
        let past = not_later_from_test from x test in
        side_opposed_after p opposed (past_later opposed past) ∙ sym (side_opposed_after from opposed past)))
        (λ free. side_of_both p free ∙ sym (side_of_both from free)),
  )
    where
      past_later : are_opposed u v ≡ true → IsNotLater x from → IsNotLater x p
      past_later opposed past = by_cases (is_earlier p x)
          (λ test. absurd (not_earlier_than_itself x (not_later_then_earlier x from x (parts_of_crossing u v opposed).1 past (not_later_then_earlier from p x some after (earlier_from_test p x test)))))
          (λ test. not_later_from_test p x test)

  -- ---- a plane that is crossed has the side of either end

  pub side_before : (from to p : Parting) → Crosses from to → IsEarlier p x → int_lt (value_at u v p) (pos 0) ≡ int_lt u (pos 0)
  side_before from to p crosses less = before_crossing u v p crosses.opposed less

  pub side_after : (from to p : Parting) → Crosses from to → IsEarlier x p → int_lt (value_at u v p) (pos 0) ≡ int_lt v (pos 0)
  side_after from to p crosses less = after_crossing u v p crosses.opposed less

  -- just after the crossing it is not crossed, and the side is that of the second end
  pub side_at_crossing : (from to : Parting) → Crosses from to → (crosses_between u v x to ≡ false) × (is_behind_after u v x ≡ int_lt v (pos 0))
  side_at_crossing from to crosses = (
    by_cases (crosses_between u v x to)
        (λ test. absurd (not_earlier_than_itself x (crossed x to test).after))
        (λ other. other),
    side_opposed_after x crosses.opposed (omega arith),
  )
