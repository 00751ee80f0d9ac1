-- The brushes that may own points of a plane, in their order: the first of them that has a property, and that it is the least.
use Rattle.std.proofs.Common.{◌≡◌, ◌<◌, ℕ, zero, suc, ◌+◌, Bool, List, [], ◌∷◌, ◌++◌, map, Option, Some, None, slice_get, ◌⊎◌, ⊎_elim, refl, sym, ap, ◌∙◌, subst, arith}
use Rattle.std.specs.Prelude.{option_to_list}
use Rattle.qm_solids.specs.InBook.{BookSolid}
use Rattle.qm_surface.specs.Owner.{FaceOwner, owning_face, owners_from}
use Rattle.qm_surface.proofs.OnlyOne.{IsFirstThat, first, after}

abbrev pub owner_at : ℕ → ℕ → FaceOwner
owner_at brush face = record { brush = brush; face = face }

module _ (n : ℕ) (side : Bool) (Has : FaceOwner → Type 0) where
  -- of brushes that are numbered from k on this one is the first that may own points and has the property
  pub record IsFirstOwner (solids : List BookSolid) (k : ℕ) (owner : FaceOwner) : Type 0 where
    pub place : ℕ
    pub solid : BookSolid
    pub brush_is : owner.brush ≡ k + place
    pub listed : slice_get solids place ≡ Some solid
    pub counts : owning_face n side solid ≡ Some owner.face
    pub has : Has owner
    pub before : (j : ℕ) (its : BookSolid) (face : ℕ) → j < place → slice_get solids j ≡ Some its → owning_face n side its ≡ Some face → Has (owner_at (k + j) face) → ⊥

  -- ---- some owner has it, so there is a first one

  module _ (decide : (owner : FaceOwner) → Has owner ⊎ (Has owner → ⊥)) where
    push_first : (k : ℕ) (own : Option ℕ) (rest : List FaceOwner) → ((owner : FaceOwner) × IsFirstThat Has owner rest) → (owner : FaceOwner) × IsFirstThat Has owner (map (owner_at k) (option_to_list own) ++ rest)
    push_first k None rest found = found
    push_first k (Some face) rest found = ⊎_elim
        (λ has. (owner_at k face, first has))
        (λ not. (found.0, after not found.1))
        (decide (owner_at k face))

    here_first : (k : ℕ) (own : Option ℕ) (rest : List FaceOwner) (face : ℕ) → own ≡ Some face → Has (owner_at k face) → (owner : FaceOwner) × IsFirstThat Has owner (map (owner_at k) (option_to_list own) ++ rest)
    here_first k own rest face is has = subst (λ (o : Option ℕ). (owner : FaceOwner) × IsFirstThat Has owner (map (owner_at k) (option_to_list o) ++ rest)) (sym is) (owner_at k face, first has)

    pub some_first : (solids : List BookSolid) (k place : ℕ) (solid : BookSolid) (face : ℕ) → slice_get solids place ≡ Some solid → owning_face n side solid ≡ Some face → Has (owner_at (k + place) face) → (owner : FaceOwner) × IsFirstThat Has owner (owners_from n side solids k)
    some_first [] k place solid face at counts has = absurd cc
    some_first (one ∷ solids) k zero solid face at counts has =
        let same : one ≡ solid = cc in
        let number : k + 0 ≡ k = omega arith in
        here_first k (owning_face n side one) (owners_from n side solids (k + 1)) face (ap (owning_face n side) same ∙ counts) (subst (λ (b : ℕ). Has (owner_at b face)) number has)
    some_first (one ∷ solids) k (suc place) solid face at counts has =
        let number : k + suc place ≡ (k + 1) + place = omega arith in
        push_first k (owning_face n side one) (owners_from n side solids (k + 1))
        (some_first solids (k + 1) place solid face at counts (subst (λ (b : ℕ). Has (owner_at b face)) number has))

  -- ---- what the first one is

  later_owner : (one : BookSolid) (solids : List BookSolid) (k : ℕ) (owner : FaceOwner) → ((face : ℕ) → owning_face n side one ≡ Some face → Has (owner_at k face) → ⊥) → IsFirstOwner solids (k + 1) owner → IsFirstOwner (one ∷ solids) k owner
  later_owner one solids k owner never is = record {
    place = suc is.place;
    solid = is.solid;
    brush_is = is.brush_is ∙ omega arith;
    listed = is.listed;
    counts = is.counts;
    has = is.has;
    before = before;
  }
    where
      before : (j : ℕ) (its : BookSolid) (face : ℕ) → j < suc is.place → slice_get (one ∷ solids) j ≡ Some its → owning_face n side its ≡ Some face → Has (owner_at (k + j) face) → ⊥
      before zero its face less at counts has =
          let same : one ≡ its = cc in
          let number : k + 0 ≡ k = omega arith in
          never face (ap (owning_face n side) same ∙ counts) (subst (λ (b : ℕ). Has (owner_at b face)) number has)
      before (suc j) its face less at counts has =
          let number : k + suc j ≡ (k + 1) + j = omega arith in
          is.before j its face (omega (arith, less)) at counts (subst (λ (b : ℕ). Has (owner_at b face)) number has)

  here_owner : (one : BookSolid) (solids : List BookSolid) (k face : ℕ) → owning_face n side one ≡ Some face → Has (owner_at k face) → IsFirstOwner (one ∷ solids) k (owner_at k face)
  here_owner one solids k face counts has = record {
    place = 0;
    solid = one;
    brush_is = omega arith;
    listed = refl;
    counts = counts;
    has = has;
    before = λ j its other less at its_counts its_has. absurd (omega (arith, less));
  }

  -- by what the first brush owns
  from_own : (one : BookSolid) (solids : List BookSolid) (k : ℕ) (own : Option ℕ) (rest : List FaceOwner) (owner : FaceOwner) → owning_face n side one ≡ own → IsFirstThat Has owner (map (owner_at k) (option_to_list own) ++ rest) → (IsFirstThat Has owner rest → IsFirstOwner solids (k + 1) owner) → IsFirstOwner (one ∷ solids) k owner
  from_own one solids k None rest owner is found below =
      later_owner one solids k owner (λ face counts has. absurd (let e : None ≡ Some face = sym is ∙ counts in cc)) (below found)
  from_own one solids k (Some face) rest owner is (first has) below = here_owner one solids k face is has
  from_own one solids k (Some face) rest owner is (after not found) below =
      later_owner one solids k owner (λ other counts has. not (let e : Some face ≡ Some other = sym is ∙ counts in subst (λ (f : ℕ). Has (owner_at k f)) (the_same face other e) has)) (below found)
    where
      the_same : (a b : ℕ) → Some a ≡ Some b → b ≡ a
      the_same a b e = cc

  pub first_is : (solids : List BookSolid) (k : ℕ) (owner : FaceOwner) → IsFirstThat Has owner (owners_from n side solids k) → IsFirstOwner solids k owner
  first_is [] k owner found = elim found [ ]
  first_is (one ∷ solids) k owner found =
      from_own one solids k (owning_face n side one) (owners_from n side solids (k + 1)) owner refl found (λ later. first_is solids (k + 1) owner later)
