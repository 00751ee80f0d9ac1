-- Solids whose outward planes are, place by place, positive multiples of one another are full together and hold the
-- same points, so that the same contents come of them.
use Rattle.std.proofs.Common.{◌≡◌, ℕ, ◌<◌, inl, inr, List, [], ◌∷◌, All, get_or, sym, ◌∙◌, subst}
use Rattle.std.specs.List.{AllZip}
use Rattle.std.proofs.lemmas.List.Elements.{All-nil, All-cons, All-head, All-tail, AllZip-get_or, length_all_zip, Contains-get_or}
use Rattle.qm_space.specs.Point.{Point}
use Rattle.qm_space.specs.Plane.{Plane, IsBehind, IsNotInFront}
use Rattle.qm_space.specs.Multiple.{IsPositiveMultiple}
use Rattle.qm_space.proofs.Multiples.{multiple_behind, multiple_not_in_front}
use Rattle.qm_contents.specs.declared.contents.Contents.{Contents}
use Rattle.qm_contents.specs.Precedence.{IsAtMost}
use Rattle.qm_solids.specs.Solid.{Solid}
use Rattle.qm_solids.specs.Alike.{IsAlike}
use Rattle.qm_solids.specs.Holding.{IsFull, Holds}
use Rattle.qm_solids.specs.Strongest.{IsOneThat, AreGiven}
use Rattle.qm_solids.specs.Contents.{HasContents}
use Rattle.qm_solids.proofs.Insides.{behind_all, inside_of_behind}

-- ---- what holds on one side of planes that are multiples

module _ (P : Plane → Type 0) (kept : (h g : Plane) → IsPositiveMultiple h g → P h → P g) where
  pub there : (outward others : List Plane) → AllZip IsPositiveMultiple outward others → All P outward → All P others
  there [] [] alike all = All-nil P
  there [] (g ∷ others) alike all = absurd alike
  there (h ∷ outward) [] alike all = absurd alike
  there (h ∷ outward) (g ∷ others) alike all =
      All-cons P g others (kept h g alike.0 (All-head P h outward all)) (there outward others alike.1 (All-tail P h outward all))

module _ (P : Plane → Type 0) (kept : (h g : Plane) → IsPositiveMultiple h g → P g → P h) where
  pub back : (outward others : List Plane) → AllZip IsPositiveMultiple outward others → All P others → All P outward
  back [] [] alike all = All-nil P
  back [] (g ∷ others) alike all = absurd alike
  back (h ∷ outward) [] alike all = absurd alike
  back (h ∷ outward) (g ∷ others) alike all =
      All-cons P h outward (kept h g alike.0 (All-head P g others all)) (back outward others alike.1 (All-tail P g others all))

module _ (solid other : Solid) (alike : IsAlike solid other) where
  pub full_there : IsFull solid → IsFull other
  full_there full =
      let x = full.within in
      let behind = there (λ h. IsBehind h x) (λ h g m. (multiple_behind h g x m).0) solid.outward other.outward alike.multiples (behind_all solid.outward x full.inside) in
      record { within = x; in_cube = full.in_cube; inside = inside_of_behind other.outward x behind }

  pub full_back : IsFull other → IsFull solid
  full_back full =
      let x = full.within in
      let behind = back (λ h. IsBehind h x) (λ h g m. (multiple_behind h g x m).1) solid.outward other.outward alike.multiples (behind_all other.outward x full.inside) in
      record { within = x; in_cube = full.in_cube; inside = inside_of_behind solid.outward x behind }

  pub holds_there : (x : Point) → Holds solid x → Holds other x
  holds_there x holds = record {
    full = full_there holds.full;
    not_in_front = there (λ h. IsNotInFront h x) (λ h g m. (multiple_not_in_front h g x m).0) solid.outward other.outward alike.multiples holds.not_in_front;
  }

  pub holds_back : (x : Point) → Holds other x → Holds solid x
  holds_back x holds = record {
    full = full_back holds.full;
    not_in_front = back (λ h. IsNotInFront h x) (λ h g m. (multiple_not_in_front h g x m).1) solid.outward other.outward alike.multiples holds.not_in_front;
  }

-- ---- lists of such solids

module _ (solids others : List Solid) (alike : AllZip IsAlike solids others) (x : Point) where
  one_there : (solid : Solid) → IsOneThat (λ s. Holds s x) solids solid → (other : Solid) × IsOneThat (λ s. Holds s x) others other × (solid.contents ≡ other.contents)
  one_there solid one =
      let k = one.listed.0 in
      let pair = subst (λ (s : Solid). IsAlike s (get_or others k solid)) one.listed.2 (AllZip-get_or IsAlike solids others k solid solid alike one.listed.1) in
      let listed = Contains-get_or others k solid (subst (λ (n : ℕ). k < n) (length_all_zip IsAlike solids others alike) one.listed.1) in
      (get_or others k solid, record { listed = listed; has = holds_there solid (get_or others k solid) pair x one.has }, pair.same_contents)

  one_back : (other : Solid) → IsOneThat (λ s. Holds s x) others other → (solid : Solid) × IsOneThat (λ s. Holds s x) solids solid × (solid.contents ≡ other.contents)
  one_back other one =
      let k = one.listed.0 in
      let within = subst (λ (n : ℕ). k < n) (sym (length_all_zip IsAlike solids others alike)) one.listed.1 in
      let pair = subst (λ (o : Solid). IsAlike (get_or solids k other) o) one.listed.2 (AllZip-get_or IsAlike solids others k other other alike within) in
      (get_or solids k other, record { listed = Contains-get_or solids k other within; has = holds_back (get_or solids k other) other pair x one.has }, pair.same_contents)

  given_back : (contents : Contents) → AreGiven (λ s. Holds s x) others contents → AreGiven (λ s. Holds s x) solids contents
  given_back contents (inl empty) = inl empty
  given_back contents (inr by) = let at = one_back by.0 by.1 in inr (at.0, at.1, at.2 ∙ by.2)

  -- solids that are alike, place by place, make the same of a point
  pub same_contents_back : (contents : Contents) → HasContents others x contents → HasContents solids x contents
  same_contents_back contents has = record {
    given = given_back contents has.given;
    strongest = λ solid one. let at = one_there solid one in subst (λ (c : Contents). IsAtMost c contents) (sym at.2) (has.strongest at.0 at.1);
  }
