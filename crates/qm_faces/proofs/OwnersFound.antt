-- The owners on a plane are brushes of the list.
use Rattle.std.proofs.Common.{◌<◌, ◌+◌, ℕ, Bool, List, [], ◌∷◌, All, length, map, Option, Some, None, arith}
use Rattle.std.specs.Prelude.{option_to_list}
use Rattle.std.proofs.lemmas.List.Elements.{All-nil, All-cons, All-append, All-weaker}
use Rattle.qm_solids.specs.InBook.{BookSolid}
use Rattle.qm_surface.specs.Owner.{FaceOwner, owning_face, owners_from}
use Rattle.qm_faces.specs.inner.Rows.{owner_at}

-- each is one of so many brushes that are numbered from k on
owners_within : (n : ℕ) (side : Bool) (solids : List BookSolid) (k : ℕ) → All (λ (owner : FaceOwner). owner.brush < k + length solids) (owners_from n side solids k)
owners_within n side [] k = All-nil (λ (owner : FaceOwner). owner.brush < k + 0)
owners_within n side (solid ∷ solids) k =
    All-append (λ (owner : FaceOwner). owner.brush < k + length (solid ∷ solids)) (map (owner_at k) (option_to_list (owning_face n side solid))) (owners_from n side solids (k + 1))
    (own (owning_face n side solid))
    (All-weaker (λ (owner : FaceOwner). owner.brush < (k + 1) + length solids) (λ (owner : FaceOwner). owner.brush < k + length (solid ∷ solids)) (λ owner less. omega (arith, less)) (owners_from n side solids (k + 1)) (owners_within n side solids (k + 1)))
  where
    own : (face : Option ℕ) → All (λ (owner : FaceOwner). owner.brush < k + length (solid ∷ solids)) (map (owner_at k) (option_to_list face))
    own None = All-nil (λ (owner : FaceOwner). owner.brush < k + length (solid ∷ solids))
    own (Some face) = All-cons (λ (owner : FaceOwner). owner.brush < k + length (solid ∷ solids)) (owner_at k face) [] (omega arith) (All-nil (λ (owner : FaceOwner). owner.brush < k + length (solid ∷ solids)))

-- each is a brush of the list
pub owners_listed : (n : ℕ) (side : Bool) (solids : List BookSolid) → All (λ (owner : FaceOwner). owner.brush < length solids) (owners_from n side solids 0)
owners_listed n side solids =
    All-weaker (λ (owner : FaceOwner). owner.brush < 0 + length solids) (λ (owner : FaceOwner). owner.brush < length solids) (λ owner less. omega (arith, less)) (owners_from n side solids 0) (owners_within n side solids 0)
