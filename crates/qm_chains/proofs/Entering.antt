-- How the leaves of a cone are entered: portal by portal, leaf by leaf, until none is due.
use Rattle.std.proofs.Common.{◌≡◌, ◌⊎◌, ◌↔◌, inl, inr, ⊎_elim, ℕ, ◌+◌, ◌<◌, Bool, true, false, not, List, [], ◌∷◌, ◌++◌, length, get_or, set, replicate, All, Contains, refl, sym, ap, ◌∙◌, subst, cond, arith}
use Rattle.std.specs.List.{count_by}
use Rattle.std.proofs.lemmas.List.{length-set, length_push, length-replicate}
use Rattle.std.proofs.lemmas.List.Elements.{Contains-append_left, Contains-append_right, Contains-push_cases, Contains-get_or}
use Rattle.std.proofs.lemmas.Option.{slice_get_within}
use Rattle.std.proofs.lemmas.List.Sums.{sum_by-set}
use Rattle.qm_lists.specs.WorkList.{IsIn}
use Rattle.qm_lists.proofs.Elements.{Contains-nil, Contains-first, Contains-cons_cases}
use Rattle.qm_lists.proofs.Reached.{least}
use Rattle.qm_contacts.specs.NumberedLeaves.{numbered_leaves}
use Rattle.qm_contacts.specs.Portals.{Portal}
use Rattle.qm_contacts.specs.World.{World, AreLeaving}
use Rattle.qm_chains.specs.Shown.{IsAt}
use Rattle.qm_chains.specs.inner.Cone.{LeadsOn, LeadsInto, LeadsFrom, IsInCone, IsConeSoFar, AreEntered}
use Rattle.qm_chains.specs.inner.Frame.{Frame}
use Rattle.qm_chains.proofs.AwaitedLeaves.{number_of_listed}
use Rattle.qm_chains.proofs.Beginnings.{none_clear}
use Rattle.qm_chains.proofs.TriedPortals.{same_portal, gains_one}

last_there : (below : List ℕ) (n : ℕ) → Contains (below ++ n ∷ []) n
last_there below n = Contains-append_right below (n ∷ []) n (Contains-first n [])

-- one place that was clear is set
one_fewer : (row : List Bool) (place : ℕ) → place < length row → get_or row place false ≡ false → count_by not (set row place true) + 1 ≡ count_by not row
one_fewer row place within clear =
    let parts : ◌≡◌ {A = ℕ} (count_by not (set row place true) + cond (not (get_or row place false)) 1 0) (count_by not row + 0) = sum_by-set (λ s. cond (not s) 1 0) row place true false within in
    let here : ◌≡◌ {A = ℕ} (cond (not (get_or row place false)) 1 0) 1 = ap (λ (s : Bool). cond (not s) 1 0) clear in
    omega (arith, parts, here)

-- ---- leaves are entered

pub none_entered : (goes : ℕ → Type 0) (row : List Bool) (due : List ℕ) → ((to : ℕ) → goes to → IsIn row to) → AreEntered goes row row due due
none_entered goes row due there = record {
  same_length = refl;
  stays = λ n is. is;
  due_stays = λ n is. is;
  gained = λ n is. inl is;
  only = λ n is. inl is;
  all = there;
  weight = refl;
}

pub one_entered : (goes : ℕ → Type 0) (row new : List Bool) (due new_due : List ℕ) (to : ℕ) → to < length row → get_or row to false ≡ false → new ≡ set row to true → new_due ≡ due ++ to ∷ [] → ((n : ℕ) → goes n → to ≡ n) → AreEntered goes row new due new_due
one_entered goes row new due new_due to within clear new_is due_is alone = record {
  same_length = ap length new_is ∙ length-set row to true;
  stays = λ n is. gives n (inr is);
  due_stays = λ n there. subst (λ (l : List ℕ). Contains l n) (sym due_is) (Contains-append_left due (to ∷ []) n there);
  gained = λ n is. ⊎_elim
      (λ here. inr (subst (λ (l : List ℕ). Contains l n) (sym due_is) (subst (Contains (due ++ to ∷ [])) here (last_there due to))))
      (λ old. inl old)
      ((gains_one row to within n).0 (subst (λ (r : List Bool). IsIn r n) new_is is));
  only = λ n there. ⊎_elim
      (λ old. inl old)
      (λ here. inr (gives n (inl here)))
      (Contains-push_cases due to n (subst (λ (l : List ℕ). Contains l n) due_is there));
  all = λ n goes_there. gives n (inl (alone n goes_there));
  weight =
      let fewer = one_fewer row to within clear in
      let more = ap length due_is ∙ length_push due to in
      let same = ap (λ (r : List Bool). count_by not r) new_is in
      omega (arith, fewer, more, same);
}
  where
    gives : (n : ℕ) → (to ≡ n) ⊎ IsIn row n → IsIn new n
    gives n one = subst (λ (r : List Bool). IsIn r n) (sym new_is) ((gains_one row to within n).1 one)

-- some leaves, and then others
pub then_entered : (A B C : ℕ → Type 0) (one two three : List Bool) (due later last : List ℕ) → ((to : ℕ) → C to → A to ⊎ B to) → AreEntered A one two due later → AreEntered B two three later last → AreEntered C one three due last
then_entered A B C one two three due later last either before after = record {
  same_length = after.same_length ∙ before.same_length;
  stays = λ n is. after.stays n (before.stays n is);
  due_stays = λ n is. after.due_stays n (before.due_stays n is);
  gained = λ n is. ⊎_elim (λ was. ⊎_elim (λ old. inl old) (λ there. inr (after.due_stays n there)) (before.gained n was)) (λ there. inr there) (after.gained n is);
  only = λ n there. ⊎_elim (λ was. ⊎_elim (λ old. inl old) (λ is. inr (after.stays n is)) (before.only n was)) (λ is. inr is) (after.only n there);
  all = λ to goes. ⊎_elim (λ is. after.stays to (before.all to is)) (λ is. after.all to is) (either to goes);
  weight = after.weight ∙ before.weight;
}

module _ (world : World) (p : ℕ) (frame : Frame) (found : List Bool) where
  -- ---- over the portals that leave a leaf

  pub into_none : (to : ℕ) → LeadsInto world p frame found [] to → ⊥
  into_none to leads = Contains-nil leads.number leads.among

  pub into_cases : (numbers : List ℕ) (number to : ℕ) → LeadsInto world p frame found (numbers ++ number ∷ []) to → LeadsInto world p frame found numbers to ⊎ LeadsInto world p frame found (number ∷ []) to
  into_cases numbers number to leads = ⊎_elim
      (λ before. inl (record { number = leads.number; among = before; portal = leads.portal; portal_is = leads.portal_is; leads = leads.leads; to_is = leads.to_is }))
      (λ here. inr (record { number = leads.number; among = subst (Contains (number ∷ [])) here (Contains-first number []); portal = leads.portal; portal_is = leads.portal_is; leads = leads.leads; to_is = leads.to_is }))
      (Contains-push_cases numbers number leads.number leads.among)

  -- portals that leave a leaf have numbers in range
  pub leaving_within : (leaf : ℕ) (numbers : List ℕ) → AreLeaving world.portals leaf numbers → All (λ number. number < length world.portals) numbers
  leaving_within leaf numbers leaving i other within =
      let its = (leaving.leave (get_or numbers i other)).0 (Contains-get_or numbers i other within) in
      slice_get_within world.portals (get_or numbers i other) its.0 its.1

  -- the one portal of a list is the portal of that number
  module _ (number : ℕ) (q : Portal) (q_is : IsAt world.portals number q) (to : ℕ) (leads : LeadsInto world p frame found (number ∷ []) to) where
    one_portal : leads.portal ≡ q
    one_portal = ⊎_elim
        (λ here. same_portal world.portals number leads.portal q (subst (λ (m : ℕ). IsAt world.portals m leads.portal) (sym here) leads.portal_is) q_is)
        (λ none. absurd (Contains-nil leads.number none))
        (Contains-cons_cases number leads.number [] leads.among)

    pub into_its_leaf : q.to ≡ to
    into_its_leaf = ap (λ (r : Portal). r.to) (sym one_portal) ∙ leads.to_is

    pub leads_over : LeadsOn world p frame found q
    leads_over = subst (LeadsOn world p frame found) one_portal leads.leads

  -- ---- leaf by leaf

  module _ (entered : ℕ) where
    pub cone_begins : (leaves : ℕ) (row : List Bool) (due : List ℕ) → leaves ≡ length (numbered_leaves world.tree) → entered < leaves → row ≡ set (replicate leaves false) entered true → due ≡ entered ∷ [] → IsConeSoFar world p frame found entered row due
    cone_begins leaves row due count within row_is due_is = record {
      wide = ap length row_is ∙ length-set (replicate leaves false) entered true ∙ clear_long ∙ count;
      begun = subst (λ (r : List Bool). IsIn r entered) (sym row_is) ((one entered).1 (inl refl));
      only = λ n there. ⊎_elim
          (λ here. subst (λ (r : List Bool). IsIn r n) (sym row_is) ((one n).1 (inl here)))
          (λ none. absurd (Contains-nil n none))
          (Contains-cons_cases entered n [] (subst (λ (l : List ℕ). Contains l n) due_is there));
      gone_on = λ from is. ⊎_elim
          (λ here. inl (subst (λ (l : List ℕ). Contains l from) (sym due_is) (subst (Contains (entered ∷ [])) here (Contains-first entered []))))
          (λ never. absurd (none_clear leaves from never))
          ((one from).0 (subst (λ (r : List Bool). IsIn r from) row_is is));
    }
      where
        clear_long : length {A = Bool} (replicate leaves false) ≡ leaves
        clear_long = length-replicate leaves false

        one : (n : ℕ) → IsIn (set (replicate leaves false) entered true) n ↔ (entered ≡ n) ⊎ IsIn (replicate leaves false) n
        one n = gains_one (replicate leaves false) entered (omega (arith, clear_long, within)) n

    -- the last leaf that is due is gone on from
    module _ (row new : List Bool) (due below new_due : List ℕ) (leaf : ℕ) (taken_off : due ≡ below ++ leaf ∷ []) (so_far : IsConeSoFar world p frame found entered row due) where
      pub leaf_in : IsIn row leaf
      leaf_in = so_far.only leaf (subst (λ (l : List ℕ). Contains l leaf) (sym taken_off) (last_there below leaf))

      module _ (leaving : List ℕ) (all : AreLeaving world.portals leaf leaving) (after : AreEntered (LeadsInto world p frame found leaving) row new below new_due) where
        from_leaf : (to : ℕ) → LeadsFrom world p frame found leaf to → IsIn new to
        from_leaf to leads =
            let at = number_of_listed world.portals leads.portal leads.listed in
            after.all to (record {
              number = at.0;
              among = (all.leave at.0).1 (leads.portal, at.1, leads.from_is);
              portal = leads.portal;
              portal_is = at.1;
              leads = leads.leads;
              to_is = leads.to_is;
            })

        pub cone_more : IsConeSoFar world p frame found entered new new_due
        cone_more = record {
          wide = after.same_length ∙ so_far.wide;
          begun = after.stays entered so_far.begun;
          only = λ n there. ⊎_elim
              (λ was. after.stays n (so_far.only n (subst (λ (l : List ℕ). Contains l n) (sym taken_off) (Contains-append_left below (leaf ∷ []) n was))))
              (λ is. is)
              (after.only n there);
          gone_on = λ from is. ⊎_elim
              (λ was. ⊎_elim
              (λ was_due. ⊎_elim
              (λ among. inl (after.due_stays from among))
              (λ here. inr (λ to leads. from_leaf to (subst (λ (m : ℕ). LeadsFrom world p frame found m to) (sym here) leads)))
              (Contains-push_cases below leaf from (subst (λ (l : List ℕ). Contains l from) taken_off was_due)))
              (λ gone. inr (λ to leads. after.stays to (gone to leads)))
              (so_far.gone_on from was))
              (λ there. inl there)
              (after.gained from is);
        }

        pub cone_less : count_by not new + length new_due < count_by not row + length due
        cone_less =
            let same = after.weight in
            let more = ap length taken_off ∙ length_push below leaf in
            omega (arith, same, more)

    pub cone_ends : (row : List Bool) → IsConeSoFar world p frame found entered row [] → (n : ℕ) → IsInCone world p frame found entered n → IsIn row n
    cone_ends row so_far =
        least (λ m. entered ≡ m) (LeadsFrom world p frame found) (IsIn row)
        (λ n here. subst (IsIn row) here so_far.begun)
        (λ from to is leads. ⊎_elim (λ due. absurd (Contains-nil from due)) (λ gone. gone to leads) (so_far.gone_on from is))
