-- Planes that were found before are at the least distance for the source: so what has the normal of one of them is that one.
use Rattle.std.proofs.Common.{◌≡◌, ℕ, ◌<◌, List, [], ◌∷◌, ◌++◌, length, get_or, Contains, ap, sym, subst, ◌∙◌, inr, ⊎_elim}
use Rattle.std.proofs.lemmas.List.Elements.{Contains-push_cases}
use Rattle.qm_lists.proofs.Elements.{Contains-nil}
use Rattle.qm_space.specs.Point.{Point}
use Rattle.qm_space.specs.Plane.{Plane}
use Rattle.qm_space.specs.Vector.{normal_of}
use Rattle.qm_space.specs.LeastDistance.{IsLeastDistance}
use Rattle.qm_convex.specs.Winding.{Winding, corners}
use Rattle.qm_separators.specs.Across.{HasLowestNormal}
use Rattle.qm_separators.specs.Gains.{Gains}
use Rattle.qm_separators.proofs.Normals.{like_lowest}
use Rattle.qm_separators.specs.inner.Below.{HasBelow}
use Rattle.qm_separators.specs.inner.Found.{PartsAlong, SeparatesByMix, SeparatesBy, SeparatesAt, SeparatesByEdge}
use Rattle.qm_separators.proofs.FoundPlanes.{gains_along_there}
use Rattle.qm_narrow.specs.inner.FoundPlanes.{AreAtLeastDistance, HasNormalAmong}

-- ---- the distances

pub none_found : (s : Winding) (planes : List Plane) → planes ≡ [] → AreAtLeastDistance s planes
none_found s planes e = record {
  each = λ h there. absurd (Contains-nil h (subst (λ (l : List Plane). Contains l h) e there));
  lowest = λ h there. absurd (Contains-nil h (subst (λ (l : List Plane). Contains l h) e there));
}

pub found_still : (Has : Plane → Type 0) (s : Winding) (old new : List Plane) → ((h : Plane) → Has h → IsLeastDistance (h.nx ∷ h.ny ∷ h.nz ∷ []) (corners s) h.d) → ((h : Plane) → Has h → HasLowestNormal h) → Gains Has old new → AreAtLeastDistance s old → AreAtLeastDistance s new
found_still Has s old new least lowest gains are = record {
  each = λ h there. ⊎_elim (λ before. are.each h before) (λ has. least h has) ((gains.members h).0 there);
  lowest = λ h there. ⊎_elim (λ before. are.lowest h before) (λ has. lowest h has) ((gains.members h).0 there);
}

module _ (s p : Winding) (old new : List Plane) where
  pub found_along : (along : Plane) → HasLowestNormal along → Gains (PartsAlong s p along) old new → AreAtLeastDistance s old → AreAtLeastDistance s new
  found_along along lowest = found_still (PartsAlong s p along) s old new (λ h is. is.touches) (λ h is. like_lowest h along is.normal lowest)

  pub found_by : (at from to : Point) → Gains (SeparatesBy s p at from to) old new → AreAtLeastDistance s old → AreAtLeastDistance s new
  found_by at from to = found_still (SeparatesBy s p at from to) s old new (λ h is. is.0.touches) (λ h is. is.1.lowest)

  pub found_by_mix : (below above from to : Point) → Gains (SeparatesByMix s p below above from to) old new → AreAtLeastDistance s old → AreAtLeastDistance s new
  found_by_mix below above from to = found_still (SeparatesByMix s p below above from to) s old new (λ h is. is.2.0.touches) (λ h is. is.2.1.lowest)

  module _ (e o : Winding) where
    pub found_by_corners : (i n : ℕ) → Gains (HasBelow n (SeparatesAt s p e o i)) old new → AreAtLeastDistance s old → AreAtLeastDistance s new
    found_by_corners i n = found_still (HasBelow n (SeparatesAt s p e o i)) s old new (λ h is. is.2.separator.touches) (λ h is. is.2.normal.lowest)

    pub found_by_edges : (n : ℕ) → Gains (HasBelow n (SeparatesByEdge s p e o)) old new → AreAtLeastDistance s old → AreAtLeastDistance s new
    found_by_edges n = found_still (HasBelow n (SeparatesByEdge s p e o)) s old new (λ h is. is.2.2.separator.touches) (λ h is. is.2.2.normal.lowest)

-- ---- the normals

pub none_along : (along : Plane) → HasNormalAmong [] along → ⊥
none_along along (h, there, normal) = Contains-nil h there

pub none_along_yet : (planes : List Plane) (one along : Plane) → (HasNormalAmong planes along → ⊥) → (normal_of one ≡ normal_of along → ⊥) → HasNormalAmong (planes ++ one ∷ []) along → ⊥
none_along_yet planes one along none not (h, there, normal) = ⊎_elim
    (λ before. none (h, before, normal))
    (λ last. not (ap normal_of last ∙ normal))
    (Contains-push_cases planes one h there)

-- along a normal that one of them has, nothing is gained
pub gains_along_listed : (s p : Winding) (along : Plane) (old : List Plane) → AreAtLeastDistance s old → HasNormalAmong old along → Gains (PartsAlong s p along) old old
gains_along_listed s p along old are (h, there, normal) =
    gains_along_there s p along h normal (subst (λ (n : Point). IsLeastDistance (n.x ∷ n.y ∷ n.z ∷ []) (corners s) h.d) normal (are.each h there)) old there

pub has_along : (planes : List Plane) (i : ℕ) (one along : Plane) → i < length planes → one ≡ get_or planes i one → normal_of one ≡ normal_of along → HasNormalAmong planes along
has_along planes i one along below is normal = (one, (i, below, sym is), normal)

-- so do the planes that part both windings along a normal that one of them has
pub listed_along : (s p : Winding) (along g h : Plane) (planes : List Plane) → AreAtLeastDistance s planes → Contains planes g → normal_of along ≡ normal_of g → PartsAlong s p along h → Contains planes h
listed_along s p along g h planes are there normal is = ((gains_along_listed s p along planes are (g, there, sym normal)).members h).1 (inr is)
