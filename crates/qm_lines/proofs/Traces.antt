-- Traces of lines: how they begin and go on, and what they show.
use Rattle.std.proofs.Common.{◌≡◌, ◌⊎◌, inl, inr, ⊎_elim, Result, OnOk, ℕ, ◌<◌, true, ℤ, pos, ◌<ℤ◌, Bool, List, [], ◌∷◌, ◌++◌, map, length, get_or, set, All, Contains, refl, sym, ap, ◌∙◌, subst}
use Rattle.std.specs.Result.{IsErr}
use Rattle.std.proofs.lemmas.Result.{IfOk-from_err}
use Rattle.std.proofs.lemmas.List.{length-set}
use Rattle.std.proofs.lemmas.List.Elements.{All-contains, All-nil, All-push, Contains-push, Contains-append_left}
use Rattle.qm_lists.proofs.Elements.{Contains-at, Contains-first, Contains-later, Contains-cons_cases}
use Rattle.qm_lists.proofs.Pairs.{All-from_contains}
use Rattle.qm_space.specs.Plane.{value, IsBehind}
use Rattle.qm_contacts.specs.Portals.{Portal, portals_of}
use Rattle.qm_contacts.specs.World.{World}
use Rattle.qm_contacts.specs.OwnPortals.{HasOwnPortals}
use Rattle.qm_segments.specs.Segment.{Segment}
use Rattle.qm_segments.specs.OpenChain.{IsOpenChain, alone, longer}
use Rattle.qm_separators.specs.ChainState.{ChainState}
use Rattle.qm_separators.specs.PortalSteps.{BeginsWith, StepsThrough}
use Rattle.qm_separators.proofs.ChainLaws.{lets, lead}
use Rattle.qm_chains.specs.Shown.{IsAt, IsShown}
use Rattle.qm_chains.proofs.TurnLaws.{shown_weaker}
use Rattle.qm_chains.proofs.TriedPortals.{same_portal, gains_one}
use Rattle.qm_sight.specs.WordInSight.{LieWithin}
use Rattle.qm_sight.specs.InCeiling.{IsInCeiling}
use Rattle.qm_lines.specs.Gained.{HasGainedShown}
use Rattle.qm_lines.specs.inner.Crossing.{Crossing, crossing_point, mixed, value_where, CrossesPlane, CrossesAt}
use Rattle.qm_lines.specs.inner.Trace.{IsTrace, IsOnward, HasEntered, AreInRange}
use Rattle.qm_lines.specs.declared.trace.Trace.{Trace}
use Rattle.qm_lines.proofs.Crossings.{value_is, further_on, crosses_there}

-- ---- rows

pub gains_none : (portals : List Portal) (MayHave : ℕ → ℕ → Type 0) (p : ℕ) (row : List Bool) → HasGainedShown portals MayHave p row row
gains_none portals MayHave p row = record { same_length = refl; stays = λ n is. is; gained = λ n is. inl is }

pub gains_more : (portals : List Portal) (MayHave : ℕ → ℕ → Type 0) (p : ℕ) (a b c : List Bool) → HasGainedShown portals MayHave p a b → HasGainedShown portals MayHave p b c → HasGainedShown portals MayHave p a c
gains_more portals MayHave p a b c first second = record {
  same_length = second.same_length ∙ first.same_length;
  stays = λ n is. second.stays n (first.stays n is);
  gained = λ n is. ⊎_elim (λ old. first.gained n old) (λ shown. inr shown) (second.gained n is);
}

pub gains_shown : (portals : List Portal) (MayHave : ℕ → ℕ → Type 0) (p leaf : ℕ) (row : List Bool) → leaf < length row → IsShown portals (MayHave leaf) p leaf → HasGainedShown portals MayHave p row (set row leaf true)
gains_shown portals MayHave p leaf row within shown = record {
  same_length = length-set row leaf true;
  stays = λ n is. (gains_one row leaf within n).1 (inr is);
  gained = λ n is. ⊎_elim
      (λ here. inr (subst (λ (m : ℕ). IsShown portals (MayHave m) p m) here shown))
      (λ old. inl old)
      ((gains_one row leaf within n).0 is);
}

-- ---- traces

module _ (world : World) (own : HasOwnPortals world) (p : ℕ) (s : Segment) where
  abbrev own_list : List Portal
  own_list = portals_of world.tree own.touchings

  listed : (number : ℕ) (q : Portal) → IsAt world.portals number q → Contains own_list q
  listed number q at = subst (λ (all : List Portal). Contains all q) own.portals_are (Contains-at world.portals number q at)

  -- a trace begins where the line goes through the portal
  pub trace_begins : (crossing : Crossing) → CrossesAt world.portals p s crossing → (old new : Trace) → old.passed.items ≡ [] → (from : Portal) → IsAt world.portals p from → old.met.items ≡ from.from ∷ [] → HasEntered world p crossing old new → IsTrace world p s new
  trace_begins crossing crosses old new none_passed from from_is one_met entered =
      let first = crosses.portal in
      let there = listed p first crosses.portal_is in
      let begun = (lead world.tree own.have_points own.touchings own.are_touchings).begin_all first there in
      let to_is = ap (λ (q : Portal). q.to) (same_portal world.portals p entered.portal first entered.portal_is crosses.portal_is) in
      let from_same = ap (λ (q : Portal). q.from) (same_portal world.portals p from first from_is crosses.portal_is) in
      let met_are : new.met.items ≡ first.from ∷ first.to ∷ [] = entered.met ∙ ap (λ (met : List ℕ). met ++ entered.portal.to ∷ []) one_met ∙ ap (λ (n : ℕ). n ∷ entered.portal.to ∷ []) from_same ∙ ap (λ (n : ℕ). first.from ∷ n ∷ []) to_is in
      let passed_are : new.passed.items ≡ p ∷ [] = entered.passed ∙ ap (λ (passed : List ℕ). passed ++ p ∷ []) none_passed in
      record {
        first = first;
        first_is = crosses.portal_is;
        last = first;
        before = [];
        state = begun.0;
        open_chain = alone begun.1;
        meets = (lets world.tree own.have_points own.touchings own.are_touchings).begun s first begun.0 (crossing_point s first.into) there crosses.goes_through begun.1;
        goes_through = crosses.goes_through;
        begin_is = ap (λ (c : Crossing). c.at_begin) entered.last ∙ crosses.begin_is;
        end_is = ap (λ (c : Crossing). c.at_end) entered.last ∙ crosses.end_is;
        here = sym to_is ∙ sym entered.leaf;
        later = [];
        numbers_are = (crosses.portal_is, tt);
        all_passed = λ number in_it. subst (λ (passed : List ℕ). Contains passed number) (sym passed_are) in_it;
        all_met = λ n in_it. subst (λ (met : List ℕ). Contains met n) (sym met_are) in_it;
      }

  -- it goes on where the line goes through a portal further on, into a leaf in which it was not
  pub trace_goes_on : (old new : Trace) (number : ℕ) (crossing : Crossing) → IsTrace world p s old → IsOnward world s old number crossing → HasEntered world number crossing old new → IsTrace world p s new
  trace_goes_on old new number crossing trace onward entered =
      let q = onward.crosses.portal in
      let q_is = onward.crosses.portal_is in
      let there = listed number q q_is in
      let last = trace.last in
      let chain = last ∷ trace.before in
      let behind : IsBehind q.into (crossing_point s last.into) = subst (λ (z : ℤ). z <ℤ pos 0) (value_is s last.into q.into old.last trace.begin_is trace.end_is) onward.further in
      let between = further_on s last.into q.into trace.goes_through.in_front onward.crosses.goes_through.in_front behind in
      let own_chain = subst (λ (all : List Portal). IsOpenChain BeginsWith StepsThrough all trace.first chain trace.state) own.portals_are trace.open_chain in
      let step : (next : ChainState) × StepsThrough trace.state q next = ⊎_elim (λ leads. leads)
      (λ blocked. absurd ((lets world.tree own.have_points own.touchings own.are_touchings).not_blocked s q trace.state (crossing_point s last.into) (crossing_point s q.into) trace.meets there onward.crosses.goes_through between blocked))
      ((lead world.tree own.have_points own.touchings own.are_touchings).go_on trace.first chain trace.state q own_chain there) in
      let to_is = ap (λ (r : Portal). r.to) (same_portal world.portals number entered.portal q entered.portal_is q_is) in
      let entered_met = map (λ (r : Portal). r.to) chain in
      record {
        first = trace.first;
        first_is = trace.first_is;
        last = q;
        before = chain;
        state = step.0;
        open_chain = longer trace.open_chain (Contains-at world.portals number q q_is) (onward.from_here ∙ sym trace.here) (λ met. onward.new (trace.all_met q.to met)) step.1;
        meets = (lets world.tree own.have_points own.touchings own.are_touchings).gone_on s q trace.state step.0 (crossing_point s last.into) (crossing_point s q.into) trace.meets there onward.crosses.goes_through between step.1;
        goes_through = onward.crosses.goes_through;
        begin_is = ap (λ (c : Crossing). c.at_begin) entered.last ∙ onward.crosses.begin_is;
        end_is = ap (λ (c : Crossing). c.at_end) entered.last ∙ onward.crosses.end_is;
        here = sym to_is ∙ sym entered.leaf;
        later = number ∷ trace.later;
        numbers_are = (q_is, trace.numbers_are);
        all_passed = λ n in_it. subst (λ (passed : List ℕ). Contains passed n) (sym entered.passed) (⊎_elim
            (λ here. subst (Contains (old.passed.items ++ number ∷ [])) here (Contains-push old.passed.items number))
            (λ before. Contains-append_left old.passed.items (number ∷ []) n (trace.all_passed n before))
            (Contains-cons_cases number n (trace.later ++ p ∷ []) in_it));
        all_met = λ n in_it. subst (λ (met : List ℕ). Contains met n) (sym (entered.met ∙ ap (λ (m : ℕ). old.met.items ++ m ∷ []) to_is)) (⊎_elim
            (λ first. Contains-append_left old.met.items (q.to ∷ []) n (trace.all_met n (subst (Contains (trace.first.from ∷ entered_met)) first (Contains-first trace.first.from entered_met))))
            (λ later. ⊎_elim
            (λ here. subst (Contains (old.met.items ++ q.to ∷ [])) here (Contains-push old.met.items q.to))
            (λ before. Contains-append_left old.met.items (q.to ∷ []) n (trace.all_met n (Contains-later trace.first.from n entered_met before)))
            (Contains-cons_cases q.to n entered_met later))
            (Contains-cons_cases trace.first.from n (q.to ∷ entered_met) in_it));
      }

  -- the leaf in which the line is is shown, where each portal that it passed may have it
  pub trace_shows : (MayHave : ℕ → ℕ → Type 0) (trace : Trace) → IsTrace world p s trace → All (MayHave trace.leaf) trace.passed.items → IsShown world.portals (MayHave trace.leaf) p trace.leaf
  trace_shows MayHave trace is may = record {
    first = is.first;
    first_is = is.first_is;
    last = is.last;
    before = is.before;
    state = is.state;
    open_chain = is.open_chain;
    ends = is.here;
    later = is.later;
    numbers_are = is.numbers_are;
    each_has = All-from_contains (MayHave trace.leaf) (is.later ++ p ∷ []) (λ number there. All-contains (MayHave trace.leaf) trace.passed.items number may (is.all_passed number there));
  }

  -- what becomes of a row where that is asked for
  pub row_shows : (MayHave : ℕ → ℕ → Type 0) (Has : ℕ → Type 0) (trace : Trace) → ((number : ℕ) → Has number → MayHave trace.leaf number) → IsTrace world p s trace → (old new : List Bool) → trace.leaf < length old →
      (new ≡ old) ⊎ (All Has trace.passed.items × (new ≡ set old trace.leaf true)) → HasGainedShown world.portals MayHave p old new
  row_shows MayHave Has trace each is old new within shows = ⊎_elim
      (λ same. subst (HasGainedShown world.portals MayHave p old) (sym same) (gains_none world.portals MayHave p old))
      (λ sets. subst (HasGainedShown world.portals MayHave p old) (sym sets.1) (gains_shown world.portals MayHave p trace.leaf old within
      (trace_shows MayHave trace is (λ place d inside. each (get_or trace.passed.items place d) (sets.0 place d inside)))))
      shows

pub row_long : (Shows : Type 0) (leaf : ℕ) (old new : List Bool) → (new ≡ old) ⊎ (Shows × (new ≡ set old leaf true)) → length new ≡ length old
row_long Shows leaf old new shows = ⊎_elim (λ same. ap length same) (λ sets. ap length sets.1 ∙ length-set old leaf true) shows

pub entered_range : (world : World) (old new : Trace) (number : ℕ) (crossing : Crossing) → AreInRange world old → HasEntered world number crossing old new → number < length world.portals → AreInRange world new
entered_range world old new number crossing range entered within = record {
  portals = subst (All (λ n. n < length world.portals)) (sym entered.passed) (All-push (λ n. n < length world.portals) old.passed.items number range.portals within);
  leaf = entered.within;
}

pub begun_range : (world : World) (old new : Trace) (number : ℕ) (crossing : Crossing) → old.passed.items ≡ [] → HasEntered world number crossing old new → number < length world.portals → AreInRange world new
begun_range world old new number crossing none entered within = record {
  portals = subst (All (λ n. n < length world.portals)) (sym entered.passed) (All-push (λ n. n < length world.portals) old.passed.items number (subst (All (λ n. n < length world.portals)) (sym none) (All-nil (λ n. n < length world.portals))) within);
  leaf = entered.within;
}

-- ---- the portal that is next

-- a portal that leaves the leaf, and whose plane the line crosses further on than the last one, in front of the portal's edges
pub onward_through : (world : World) → HasOwnPortals world → (s : Segment) (trace : Trace) (number : ℕ) (q : Portal) → IsAt world.portals number q → q.from ≡ trace.leaf → (Contains trace.met.items q.to → ⊥) →
    (crossing : Crossing) → CrossesPlane q.into s crossing → mixed trace.last crossing.at_begin crossing.at_end <ℤ pos 0 → All (λ g. pos 0 <ℤ value_where crossing s g) q.winding.edges → IsOnward world s trace number crossing
unfolding value_where crosses_there
onward_through world own s trace number q q_is from_here new crossing at beyond inside = record {
  crosses = crosses_there world own number q q_is s crossing at inside;
  from_here = from_here;
  further = subst (λ (z : ℤ). mixed trace.last z (value q.into s.to) <ℤ pos 0) at.begin_is (subst (λ (z : ℤ). mixed trace.last crossing.at_begin z <ℤ pos 0) at.end_is beyond);
  new = new;
}

-- ---- over ceilings

-- what is shown over ceilings is shown over larger ones
pub shown_wider : (portals : List Portal) (less more : List (List Bool)) (p n : ℕ) → LieWithin less more → IsShown portals (IsInCeiling less n) p n → IsShown portals (IsInCeiling more n) p n
shown_wider portals less more p n lie shown = shown_weaker portals (IsInCeiling less n) (IsInCeiling more n) (λ q. lie q n) p n shown

-- a row that has gained over larger ceilings, and then over smaller ones
pub gains_on : (portals : List Portal) (more less : List (List Bool)) (p : ℕ) (a b c : List Bool) → LieWithin less more → HasGainedShown portals (IsInCeiling more) p a b → HasGainedShown portals (IsInCeiling less) p b c → HasGainedShown portals (IsInCeiling more) p a c
gains_on portals more less p a b c lie first second = gains_more portals (IsInCeiling more) p a b c first (record {
  same_length = second.same_length;
  stays = second.stays;
  gained = λ n is. ⊎_elim (λ old. inl old) (λ shown. inr (shown_wider portals less more p n lie shown)) (second.gained n is);
})

-- where memory was wanted nothing is promised
pub nothing_at_err : {T E : Type 0} (P : Type 0) (r : Result T E) → IsErr r → OnOk r P
nothing_at_err P r is = IfOk-from_err r (λ _. P) is
