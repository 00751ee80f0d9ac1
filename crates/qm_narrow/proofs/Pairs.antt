-- Source and pass, by which of them has the edges.
use Rattle.std.proofs.Common.{◌≡◌, ℕ, pos, ◌<ℤ◌, Bool, true, false, sym, subst, ◌∙◌, ap, cond, ⊎_elim, inl, inr}
use Rattle.qm_space.specs.Point.{Point, whole_point}
use Rattle.qm_space.specs.Vector.{normal_of}
use Rattle.qm_space.specs.ThreePoints.{outward_plane}
use Rattle.qm_geom.specs.declared.vector.Vector.{Vector}
use Rattle.qm_geom.specs.Vectors.{direction_of}
use Rattle.qm_numbers.specs.Rounding.{IsRoundedDown, IsRoundedUp}
use Rattle.qm_convex.specs.Winding.{Winding, corner_at}
use Rattle.qm_separators.specs.inner.Outline.{IsMixOf}
use Rattle.qm_separators.proofs.WholePointLaws.{whole_by_coordinates, around_is_mix}
use Rattle.qm_separators.specs.inner.Found.{AreBoth}
use Rattle.qm_narrow.specs.declared.outlook.Outlook.{Outlook}
use Rattle.qm_narrow.specs.declared.edge.Edge.{Edge}
use Rattle.qm_narrow.specs.declared.spot.Spot.{Spot}
use Rattle.qm_narrow.specs.inner.Trace.{IsSpotOf}
use Rattle.qm_narrow.specs.inner.Turn.{IsThrough}
use Rattle.qm_narrow.specs.inner.WholeCandidates.{IsToldBy}
use Rattle.qm_narrow.specs.inner.Edge.{IsOwner}
use Rattle.qm_narrow.specs.inner.Look.{IsOutlook}

-- the other of the two has no edge, but the corner
other_owner : (source pass edges others : Winding) (flag : Bool) → AreBoth source pass edges others → IsOwner source pass edges flag → IsOwner pass source others flag
other_owner source pass edges others flag both owner = ⊎_elim
    (λ first. ⊎_elim (λ unset. inl (unset.0, first.1)) (λ set. inr (set.0, first.1 ∙ sym set.1 ∙ first.0)) owner)
    (λ second. ⊎_elim (λ unset. inl (unset.0, second.1 ∙ sym unset.1 ∙ second.0)) (λ set. inr (set.0, second.1)) owner)
    both

module _ (source pass edges others : Winding) (n : Vector) (flag : Bool) (both : AreBoth source pass edges others) (owner : IsOwner source pass edges flag) (look outlook : Outlook)
    (told : IsOutlook edges others n look) (ahead : outlook.ahead ≡ cond flag look.back look.ahead) (back : outlook.back ≡ cond flag look.ahead look.back) where
  -- as the flag tells, the outlook is one on source and pass
  pub outlook_exchanged : IsOutlook source pass n outlook
  outlook_exchanged = ⊎_elim
      (λ unset.
      let other : others ≡ pass = ⊎_elim (λ is. is.1) (λ is. let never : true ≡ false = sym is.0 ∙ unset.0 in cc) (other_owner source pass edges others flag both owner) in
      subst (λ (v : Winding). IsOutlook v pass n outlook) unset.1 (subst (λ (v : Winding). IsOutlook edges v n outlook) other
      (record {
        ahead = λ not. told.ahead (sym (ahead ∙ ap (λ (b : Bool). cond b look.back look.ahead) unset.0) ∙ not);
        back = λ not. told.back (sym (back ∙ ap (λ (b : Bool). cond b look.ahead look.back) unset.0) ∙ not);
      })))
      (λ set.
      let other : others ≡ source = ⊎_elim (λ is. let never : true ≡ false = sym set.0 ∙ is.0 in cc) (λ is. is.1) (other_owner source pass edges others flag both owner) in
      subst (λ (v : Winding). IsOutlook v pass n outlook) other (subst (λ (v : Winding). IsOutlook others v n outlook) set.1
      (record {
        ahead = λ not. told.back (sym (ahead ∙ ap (λ (b : Bool). cond b look.back look.ahead) set.0) ∙ not);
        back = λ not. told.ahead (sym (back ∙ ap (λ (b : Bool). cond b look.ahead look.back) set.0) ∙ not);
      })))
      owner

-- so it is for the normals through an edge and each whole point around a corner
module _ (source pass edges others : Winding) (k : ℕ) (edge : Edge) (own : Spot) (flag : Bool) (both : AreBoth source pass edges others) (owner : IsOwner source pass edges flag) (look outlook : Outlook)
    (weight : pos 0 <ℤ (corner_at others k).w) (own_is : IsSpotOf (corner_at others k) own)
    (told : (n : Vector) → IsThrough edge (corner_at others k) n → IsOutlook edges others n look) (ahead : outlook.ahead ≡ cond flag look.back look.ahead) (back : outlook.back ≡ cond flag look.ahead look.back) where
  through : (at : Point) → IsMixOf (whole_point own.below) (whole_point own.above) at → (n : Vector) → direction_of n ≡ normal_of (outward_plane at (whole_point edge.from) (whole_point edge.to)) → IsThrough edge (corner_at others k) n
  through at mix n is = record {
    weight = weight;
    at = at;
    around = (around_is_mix (corner_at others k) (whole_point own.below) (whole_point own.above) at weight (whole_by_coordinates IsRoundedDown _ _ own_is.below) (whole_by_coordinates IsRoundedUp _ _ own_is.above)).1 mix;
    normal = is;
  }

  pub told_by : (at : Point) → IsMixOf (whole_point own.below) (whole_point own.above) at → IsToldBy source pass outlook at (whole_point edge.from) (whole_point edge.to)
  told_by at mix = record {
    ahead = λ n is. (outlook_exchanged source pass edges others n flag both owner look outlook (told n (through at mix n is)) ahead back).ahead;
    back = λ n is. (outlook_exchanged source pass edges others n flag both owner look outlook (told n (through at mix n is)) ahead back).back;
  }
