-- Corners of a winding and the whole points near them, as they are listed one after another.
use Rattle.std.proofs.Common.{◌≡◌, ℕ, pos, ◌+◌, ◌<◌, List, [], ◌∷◌, ◌++◌, length, get_or, sym, subst, ap, ◌∙◌, arith, ⊎_elim}
use Rattle.std.proofs.lemmas.Bool.{cases_eq}
use Rattle.std.proofs.lemmas.List.{length_push, get_or_push, get_or_append_left}
use Rattle.qm_space.specs.Point.{Point}
use Rattle.qm_space.specs.Coordinates.{HasSmallCoordinates}
use Rattle.qm_convex.specs.Winding.{Winding, corner_at, corners}
use Rattle.qm_convex.specs.World.{IsInWorld}
use Rattle.qm_convex.proofs.Corners.{corners_by_place, corners_length, corner_in_list}
use Rattle.qm_wind.proofs.Worlds.{is_small}
use Rattle.qm_narrow.specs.declared.spot.Spot.{Spot}
use Rattle.qm_narrow.specs.inner.Trace.{IsSpotOf, IsTrace}

-- the first n of them
pub record IsTracing (v : Winding) (traced : List Point) (spots : List Spot) (n : ℕ) : Type 0 where
  pub corners_many : length traced ≡ n
  pub spots_many : length spots ≡ n
  pub corners_are : (i : ℕ) (d : Point) → i < n → get_or traced i d ≡ corner_at v i
  pub spots_are : (i : ℕ) (d : Spot) → i < n → IsSpotOf (corner_at v i) (get_or spots i d)

pub tracing_begins : (v : Winding) (traced : List Point) (spots : List Spot) → traced ≡ [] → spots ≡ [] → IsTracing v traced spots 0
tracing_begins v traced spots e f = record {
  corners_many = ap length e;
  spots_many = ap length f;
  corners_are = λ i d l. absurd (omega arith);
  spots_are = λ i d l. absurd (omega arith);
}

pub tracing_ends : (v : Winding) (traced : List Point) (spots : List Spot) (n : ℕ) → n ≡ length v.edges → IsTracing v traced spots n → IsTrace v traced spots
tracing_ends v traced spots n e is = record {
  corners_are = corners_by_place v traced (record { x = pos 0; y = pos 0; z = pos 0; w = pos 1 }) (is.corners_many ∙ e) (λ i l. is.corners_are i (record { x = pos 0; y = pos 0; z = pos 0; w = pos 1 }) (omega arith));
  one_each = is.spots_many ∙ e;
  spots_are = λ i d l. is.spots_are i d (omega arith);
}

pub tracing_more : (v : Winding) (traced new_traced : List Point) (spots new_spots : List Spot) (n : ℕ) (corner : Point) (spot : Spot) → new_traced ≡ traced ++ corner ∷ [] → new_spots ≡ spots ++ spot ∷ [] → IsTracing v traced spots n → corner ≡ corner_at v n → IsSpotOf corner spot → IsTracing v new_traced new_spots (n + 1)
tracing_more v traced new_traced spots new_spots n corner spot e f is c s = record {
  corners_many = ap length e ∙ length_push traced corner ∙ ap (λ (k : ℕ). k + 1) is.corners_many;
  spots_many = ap length f ∙ length_push spots spot ∙ ap (λ (k : ℕ). k + 1) is.spots_many;
  corners_are = λ i d l. ⊎_elim
      (λ same. ap (λ (ps : List Point). get_or ps i d) e ∙ get_or_push traced corner d i (is.corners_many ∙ sym same) ∙ c ∙ ap (corner_at v) (sym same))
      (λ other. ap (λ (ps : List Point). get_or ps i d) e ∙ get_or_append_left traced (corner ∷ []) d i (let m = is.corners_many in omega (arith, other)) ∙ is.corners_are i d (omega (arith, other)))
      (cases_eq i n);
  spots_are = λ i d l. ⊎_elim
      (λ same. subst (λ (q : Spot). IsSpotOf (corner_at v i) q) (sym (ap (λ (ps : List Spot). get_or ps i d) f ∙ get_or_push spots spot d i (is.spots_many ∙ sym same))) (subst (λ (q : Point). IsSpotOf q spot) (c ∙ ap (corner_at v) (sym same)) s))
      (λ other. subst (λ (q : Spot). IsSpotOf (corner_at v i) q) (sym (ap (λ (ps : List Spot). get_or ps i d) f ∙ get_or_append_left spots (spot ∷ []) d i (let m = is.spots_many in omega (arith, other)))) (is.spots_are i d (omega (arith, other))))
      (cases_eq i n);
}

-- the whole points at a place of those that are kept are near the corner there
pub spot_at : (v u : Winding) (traced : List Point) (spots listed : List Spot) (i : ℕ) (d : Spot) → IsTrace v traced spots → v ≡ u → listed ≡ spots → i < length listed → (i < length u.edges) × IsSpotOf (corner_at u i) (get_or listed i d)
spot_at v u traced spots listed i d is e f l =
    let n = is.one_each in let m = ap length f in
    let within : i < length v.edges = omega arith in
    (subst (λ (w : Winding). i < length w.edges) e within, subst (λ (w : Winding). IsSpotOf (corner_at w i) (get_or listed i d)) e (subst (λ (ss : List Spot). IsSpotOf (corner_at v i) (get_or ss i d)) (sym f) (is.spots_are i d within)))

-- the corner at a place of those that are kept
pub corner_at_place : (v u : Winding) (traced listed : List Point) (spots : List Spot) (i : ℕ) (corner : Point) → IsTrace v traced spots → v ≡ u → listed ≡ traced → IsInWorld v → i < length u.edges → corner ≡ get_or listed i corner → (corner ≡ corner_at u i) × HasSmallCoordinates corner
corner_at_place v u traced listed spots i corner is e f world below read =
    let same = read ∙ ap (λ (ps : List Point). get_or ps i corner) (f ∙ is.corners_are ∙ ap corners e) ∙ corner_in_list u i corner below in
    (same, is_small v u i corner e world below same)

pub corner_listed : (v u : Winding) (traced : List Point) (spots : List Spot) (i : ℕ) → IsTrace v traced spots → v ≡ u → i < length u.edges → i < length traced
corner_listed v u traced spots i is e below =
    let n = corners_length u in let m = ap length (is.corners_are ∙ ap corners e) in omega arith
