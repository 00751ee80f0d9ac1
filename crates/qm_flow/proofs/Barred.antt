-- Portals via which nothing is seen: how the portal back tells it, and pairs with a clear row for one.
use Rattle.std.proofs.Common.{◌≡◌, ◌⊎◌, ⊎_elim, ℕ, ◌<◌, Bool, true, false, List, length, replicate, set, Some, sym, ap, ◌∙◌, subst}
use Rattle.std.proofs.lemmas.List.{length-replicate}
use Rattle.qm_contacts.specs.Portals.{Portal}
use Rattle.qm_contacts.specs.World.{World}
use Rattle.qm_contacts.specs.NumberedLeaves.{numbered_leaves}
use Rattle.qm_segments.specs.Sight.{IsInSight}
use Rattle.qm_segments.specs.SeenVia.{IsSeenVia}
use Rattle.qm_segments.proofs.ViaLaws.{first_in_sight_back, second_in_sight_back}
use Rattle.qm_sight.specs.InCeiling.{IsInCeiling}
use Rattle.qm_chains.specs.Shown.{IsAt}
use Rattle.qm_chains.specs.inner.OwnRows.{IsInSightAt}
use Rattle.qm_chains.specs.inner.Pairs.{Pairs, ArePairs}
use Rattle.qm_chains.proofs.Beginnings.{none_clear}
use Rattle.qm_chains.proofs.PairRows.{pairs_more, within_more}
use Rattle.qm_chains.proofs.TriedPortals.{same_portal}
use Rattle.qm_contacts.specs.World.{LeadsBack}
use Rattle.qm_flow.specs.inner.PairsGoOn.{PairsGoOn}
use Rattle.qm_flow.specs.inner.UnseenVia.{IsUnseenVia}

-- ---- the portal back

-- both leaves of the first portal are in sight of the portal back, where anything is seen via the portal
leaves_in_sight_back : (world : World) (p number back leaf n : ℕ) (first other q : Portal) → IsAt world.portals p first → IsAt world.portals p other → IsAt world.portals number q → LeadsBack world.portals number back → (leaf ≡ first.from) ⊎ (leaf ≡ first.to) → IsSeenVia world.tree other q n → IsInSightAt world back leaf
leaves_in_sight_back world p number back leaf n first other q first_is other_is q_is leads its via =
    let seen = subst (λ (r : Portal). IsSeenVia world.tree r leads.there n) (same_portal world.portals p other first other_is first_is)
    (subst (λ (r : Portal). IsSeenVia world.tree other r n) (same_portal world.portals number q leads.there q_is leads.there_is) via) in
    record {
      portal = leads.again;
      portal_is = leads.again_is;
      sight = ⊎_elim
          (λ left. subst (IsInSight world.tree leads.again) (sym left) (first_in_sight_back world.tree first leads.there n seen leads.again leads.from_is leads.to_is))
          (λ entered. subst (IsInSight world.tree leads.again) (sym entered) (second_in_sight_back world.tree first leads.there n seen leads.again leads.from_is leads.to_is))
          its;
    }

-- so where a sound answer for the portal back has not one of them, nothing is seen via the portal
pub unseen_via : (world read : World) (p number back leaf : ℕ) (first : Portal) (has : Bool) → read ≡ world → IsAt world.portals p first → LeadsBack world.portals number back → (leaf ≡ first.from) ⊎ (leaf ≡ first.to) → ((again : Portal) → IsAt read.portals back again → IsInSight read.tree again leaf → has ≡ true) → has ≡ false → IsUnseenVia world p number
unseen_via world read p number back leaf first has same first_is leads its sound lacks other q other_is q_is n via =
    let seen = subst (λ (w : World). IsInSightAt w back leaf) (sym same) (leaves_in_sight_back world p number back leaf n first other q first_is other_is q_is leads its via) in
    let never : true ≡ false = sym (sound seen.portal seen.portal_is seen.sight) ∙ lacks in
    cc

-- ---- pairs

-- a clear row is a row of the pair, and lies within all ceilings
pub pairs_barred : (world : World) (now : List (List Bool)) (old new : Pairs) (number leaves : ℕ) → leaves ≡ length (numbered_leaves world.tree) → new ≡ record { first = old.first; start = old.start; seen = old.seen; own = set old.own number (Some (replicate leaves false)) } → number < length old.own →
    IsUnseenVia world old.first number → (found : List Bool) → ArePairs world found old → PairsGoOn world now found old new
pairs_barred world now old new number leaves count new_is within unseen found are =
    let clear : List Bool = replicate leaves false in
    record {
      same_first = ap (λ (p : Pairs). p.first) new_is;
      are = pairs_more world found old number clear new new_is within are (length-replicate leaves false ∙ count) (λ n wanted. absurd (unseen wanted.wanted.first wanted.portal wanted.wanted.first_is wanted.portal_is wanted.wanted.target wanted.wanted.via));
      within = λ ceilings lie lies. within_more world found old number clear new new_is within (IsInCeiling ceilings) lies (λ n is. absurd (none_clear leaves n is));
    }
