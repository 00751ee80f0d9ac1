-- What facets leave on one side of a plane, one after another.
use Rattle.std.proofs.Common.{◌≡◌, Option, Some, None, List, [], ◌∷◌, ◌++◌, sym, ap, ◌∙◌}
use Rattle.std.specs.Option.{MatchOption}
use Rattle.std.proofs.lemmas.List.{append-nil}
use Rattle.qm_space.specs.Plane.{Plane}
use Rattle.qm_convex.specs.Winding.{Winding, IsConvex}
use Rattle.qm_convex.specs.Sides.{HasNoneInFront, IsWhollyInFront}
use Rattle.qm_convex.specs.Cut.{IsPartInFront}
use Rattle.qm_convex.specs.inner.Facets.{Facet, AreCut, none, left, gone}
use Rattle.qm_convex.proofs.Cutting.{whole_is_part}
use Rattle.qm_body.specs.inner.LeftFacets.{left_facet, IsLeftAdded}

-- one facet more
pub cut_more : (h : Plane) (facets rest : List Facet) (inward : Plane) (winding : Winding) (half : Option Winding) → AreCut h facets rest → MatchOption half (HasNoneInFront winding h) (λ w. IsPartInFront w winding h) → AreCut h (facets ++ record { inward = inward; winding = winding } ∷ []) (rest ++ left_facet inward half)
cut_more h facets rest inward winding None none is = gone is none
cut_more h facets rest inward winding (Some w) none is = left is none
cut_more h facets rest inward winding half (left part have) is = left part (cut_more h _ _ inward winding half have is)
cut_more h facets rest inward winding half (gone never have) is = gone never (cut_more h _ _ inward winding half have is)

-- ---- what is left of one facet

pub cut_append : (h : Plane) (facets rest : List Facet) (found : Facet) (new : List Facet) → AreCut h facets rest → AreCut h (found ∷ []) new → AreCut h (facets ++ found ∷ []) (rest ++ new)
cut_append h facets rest found new none is = is
cut_append h facets rest found new (left part have) is = left part (cut_append h _ _ found new have is)
cut_append h facets rest found new (gone never have) is = gone never (cut_append h _ _ found new have is)

-- a facet whose polygon stayed as it was
pub same_facet : (found : Facet) (inward : Plane) (v w : Winding) → w ≡ v → record { inward = inward; winding = v } ≡ found → record { inward = inward; winding = w } ≡ found
same_facet found inward v w same is = ap (λ (u : Winding). record { inward = inward; winding = u }) same ∙ is

module _ (h : Plane) (found : Facet) (old new : List Facet) where
  -- all of it
  pub all_added : IsConvex found.winding → IsWhollyInFront found.winding h → new ≡ old ++ found ∷ [] → IsLeftAdded h found old new
  all_added convex ahead is = record { left = found ∷ []; added = is; cut = left (whole_is_part found.winding h convex ahead) none }

  -- or nothing
  pub none_added : HasNoneInFront found.winding h → old ≡ new → IsLeftAdded h found old new
  none_added never is = record { left = []; added = sym is ∙ sym (append-nil old); cut = gone never none }

  -- or a part
  pub half_added : (half : Option Winding) → MatchOption half (HasNoneInFront found.winding h) (λ w. IsPartInFront w found.winding h) → new ≡ old ++ left_facet found.inward half → IsLeftAdded h found old new
  half_added half is added = record { left = left_facet found.inward half; added = added; cut = cut_more h [] [] found.inward found.winding half none is }
