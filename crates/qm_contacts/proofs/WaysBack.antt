-- The portals of a tree stand in pairs, one each way: the one behind or before leads back.
use Rattle.std.proofs.Common.{◌≡◌, ℕ, zero, suc, ◌+◌, ◌-◌, ◌%◌, ◌<◌, true, false, List, [], ◌∷◌, length, flat_map, filter, refl, sym, subst, ◌∙◌, ◌⊎◌, inl, inr, arith}
use Rattle.std.proofs.lemmas.Option.{slice_get_within}
use Rattle.qm_space.proofs.ReducedPlanes.{flipped_twice}
use Rattle.qm_partition.specs.Tree.{Tree}
use Rattle.qm_contacts.specs.Touching.{Touching}
use Rattle.qm_contacts.specs.Portals.{Portal, both_ways, portal, is_passage, portals_of}
use Rattle.qm_contacts.specs.World.{LeadsBack}
use Rattle.qm_contacts.specs.OwnPortals.{HasOwnPortals}

-- the other number of a pair
abbrev partner : ℕ → ℕ
partner zero = 1
partner (suc zero) = 0
partner (suc (suc n)) = suc (suc (partner n))

partner_behind : (n : ℕ) → n % 2 ≡ 0 → partner n ≡ n + 1
partner_behind zero even = refl
partner_behind (suc zero) even = absurd (omega (arith, even))
partner_behind (suc (suc n)) even = let rest = partner_behind n (omega (arith, even)) in omega (arith, rest)

partner_before : (n : ℕ) → n % 2 ≡ 1 → partner n ≡ n - 1
partner_before zero odd = absurd (omega (arith, odd))
partner_before (suc zero) odd = refl
partner_before (suc (suc zero)) odd = absurd (omega (arith, odd))
partner_before (suc (suc (suc n))) odd = let rest = partner_before (suc n) (omega (arith, odd)) in omega (arith, rest)

module _ (tree : Tree) where
  way_back : (touchings : List Touching) (n : ℕ) → n < length (flat_map (both_ways tree) touchings) → LeadsBack (flat_map (both_ways tree) touchings) n (partner n)
  way_back [] n within = absurd (omega (arith, within))
  way_back (found ∷ touchings) zero within = record {
    there = portal tree found false found.front found.back;
    there_is = refl;
    again = portal tree found true found.back found.front;
    again_is = refl;
    winding_is = refl;
    into_is = sym (flipped_twice found.winding.plane);
    from_is = refl;
    to_is = refl;
  }
  way_back (found ∷ touchings) (suc zero) within = record {
    there = portal tree found true found.back found.front;
    there_is = refl;
    again = portal tree found false found.front found.back;
    again_is = refl;
    winding_is = refl;
    into_is = refl;
    from_is = refl;
    to_is = refl;
  }
  way_back (found ∷ touchings) (suc (suc n)) within =
      let rest = way_back touchings n (omega (arith, within)) in
      record {
        there = rest.there;
        there_is = rest.there_is;
        again = rest.again;
        again_is = rest.again_is;
        winding_is = rest.winding_is;
        into_is = rest.into_is;
        from_is = rest.from_is;
        to_is = rest.to_is;
      }

  -- of a number that is even the one behind it, of one that is odd the one before it
  pub leads_back : (portals : List Portal) → HasOwnPortals (record { tree = tree; portals = portals }) → (n back : ℕ) → n < length portals → ((n % 2 ≡ 0) × (back ≡ n + 1)) ⊎ ((n % 2 ≡ 1) × (back ≡ n - 1)) → LeadsBack portals n back
  leads_back portals own n back within is =
      subst (λ (ps : List Portal). LeadsBack ps n back) (sym own.portals_are)
      (subst (LeadsBack (portals_of tree own.touchings) n) (sym (back_is is))
      (way_back (filter (is_passage tree) own.touchings) n (subst (λ (ps : List Portal). n < length ps) own.portals_are within)))
    where
      back_is : ((n % 2 ≡ 0) × (back ≡ n + 1)) ⊎ ((n % 2 ≡ 1) × (back ≡ n - 1)) → back ≡ partner n
      back_is (inl even) = even.1 ∙ sym (partner_behind n even.0)
      back_is (inr odd) = odd.1 ∙ sym (partner_before n odd.0)

-- it is one of them
pub back_within : (portals : List Portal) (n back : ℕ) → LeadsBack portals n back → back < length portals
back_within portals n back leads = slice_get_within portals back leads.again leads.again_is
