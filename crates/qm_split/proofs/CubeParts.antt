-- What the brushes of a list are to the cube, one after another, and in halves.
use Rattle.std.proofs.Common.{◌≡◌, ⊎_elim, ℕ, zero, suc, ◌+◌, ◌-◌, ◌<◌, ◌≤◌, List, [], ◌∷◌, ◌++◌, None, length, get_or, take, refl, sym, ap, ◌∙◌, subst, arith}
use Rattle.std.proofs.lemmas.Bool.{cases_lt}
use Rattle.std.proofs.lemmas.List.{get_or_append_left, get_or-append_right, get_or_push, length_push, length-append, take_all}
use Rattle.qm_space.specs.Plane.{Plane}
use Rattle.qm_solids.specs.Solid.{Solid}
use Rattle.qm_solids.specs.InBook.{BookSolid, solid_at, solid_in, solids_in, IsBookOf}
use Rattle.qm_split.specs.declared.contender.Part.{Part}
use Rattle.qm_split.specs.declared.gathering.Gathering.{Gathering}
use Rattle.qm_split.specs.inner.Parts.{IsPartIn}
use Rattle.qm_split.specs.inner.Gathered.{IsGathered}
use Rattle.qm_split.specs.inner.CubeParts.{ArePartsOfCube}
use Rattle.qm_split.proofs.MadeFragments.{solids_more}

module _ (book : List Plane) (list : List BookSolid) where
  abbrev pub IsPart : ℕ → Part → Type 0
  IsPart n part = IsPartIn book [] (solid_in book (solid_at list n)) part

  pub no_parts : (from : ℕ) → ArePartsOfCube book list from []
  no_parts from k d within = absurd (omega (arith, within))

  -- the parts of two runs of solids, of which the second follows the first
  pub parts_appended : (from next : ℕ) (parts others : List Part) → from + length parts ≡ next → ArePartsOfCube book list from parts → ArePartsOfCube book list next others → ArePartsOfCube book list from (parts ++ others)
  parts_appended from next parts others follows are follow k d within = ⊎_elim
      (λ before. subst (λ (p : Part). IsPart (from + k) p) (sym (get_or_append_left parts others d k before)) (are k d before))
      (λ behind.
      let long = length-append parts others in
      let place : next + (k - length parts) ≡ from + k = omega (arith, behind, follows) in
      let there : k - length parts < length others = omega (arith, behind, within, long) in
      subst (λ (p : Part). IsPart (from + k) p) (sym (get_or-append_right parts others (length parts) k d refl behind))
      (subst (λ (n : ℕ). IsPart n (get_or others (k - length parts) d)) place (follow (k - length parts) d there)))
      (cases_lt k (length parts))

  -- one part more
  pub parts_more : (from : ℕ) (parts : List Part) (part : Part) → ArePartsOfCube book list from parts → IsPart (from + length parts) part → ArePartsOfCube book list from (parts ++ part ∷ [])
  parts_more from parts part are is =
      parts_appended from (from + length parts) parts (part ∷ []) refl are (only from (length parts) is)
    where
      only : (first n : ℕ) → IsPart (first + n) part → ArePartsOfCube book list (first + n) (part ∷ [])
      only first n is zero d within = subst (λ (m : ℕ). IsPart m part) (omega arith) is
      only first n is (suc k) d within = absurd (omega (arith, within))

  -- what a gathering is of the first parts
  abbrev pub IsGatheredOf : List Part → Gathering → Type 0
  IsGatheredOf parts gathering =
      IsBookOf book list → length parts ≤ length list → ArePartsOfCube book list 0 parts → IsGathered book [] None (solids_in book (take (length parts) list)) gathering

  pub gathered_none : (gathering : Gathering) → IsGathered book [] None [] gathering → IsGatheredOf [] gathering
  gathered_none gathering is is_book short are = is

  module _ (done : List Part) (part : Part) (old new : Gathering) (adds : (solids : List Solid) (solid : Solid) → IsGathered book [] None solids old → IsPartIn book [] solid part → IsGathered book [] None (solids ++ solid ∷ []) new) where
    first_parts : ArePartsOfCube book list 0 (done ++ part ∷ []) → ArePartsOfCube book list 0 done
    first_parts are k d within =
        let here = are k d (let long = length_push done part in omega (arith, within, long)) in
        subst (λ (p : Part). IsPart (0 + k) p) (get_or_append_left done (part ∷ []) d k within) here

    last_part : ArePartsOfCube book list 0 (done ++ part ∷ []) → IsPart (length done) part
    last_part are =
        let here = are (length done) part (let long = length_push done part in omega (arith, long)) in
        subst (λ (n : ℕ). IsPart n part) (omega arith) (subst (λ (p : Part). IsPart (0 + length done) p) (get_or_push done part part (length done) refl) here)

    -- one more is gathered
    pub gathered_more : IsGatheredOf done old → IsGatheredOf (done ++ part ∷ []) new
    gathered_more so_far is_book short are =
        let long = length_push done part in
        let n = length done in
        subst (λ (ss : List Solid). IsGathered book [] None ss new)
        (solids_more book list is_book n (omega (arith, short, long)) ∙ ap (λ (m : ℕ). solids_in book (take m list)) (sym long))
        (adds (solids_in book (take n list)) (solid_in book (solid_at list n)) (so_far is_book (omega (arith, short, long)) (first_parts are)) (last_part are))

  -- all are gathered
  pub gathered_all : (parts : List Part) (gathering : Gathering) → IsGatheredOf parts gathering → IsBookOf book list → length parts ≡ length list → ArePartsOfCube book list 0 parts → IsGathered book [] None (solids_in book list) gathering
  gathered_all parts gathering are is_book long parts_are =
      subst (λ (ss : List BookSolid). IsGathered book [] None (solids_in book ss) gathering) (take_all (length parts) list (omega (arith, long)))
      (are is_book (omega (arith, long)) parts_are)
