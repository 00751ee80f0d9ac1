-- Where the entities of a map stand: in the order of their numbers, and in one way.
use Rattle.std.proofs.Common.{◌≡◌, ℕ, zero, suc, ◌+◌, ◌<◌, ◌≤◌, List, [], ◌∷◌, ◌++◌, append_assoc, drop, length, get_or, Some, None, refl, sym, ap, ◌∙◌, subst, arith}
use Rattle.std.specs.List.{All}
use Rattle.std.proofs.lemmas.List.{append-nil, drop_more, drop_all}
use Rattle.std.proofs.lemmas.List.Elements.{All-nil, All-cons, All-weaker}
use Rattle.std.proofs.lemmas.List.Kept.{AllPairs-cons}
use Rattle.qm_space.specs.Point.{Point}
use Rattle.qm_mapfile.specs.declared.entity.Pair.{Pair}
use Rattle.qm_mapfile.specs.declared.entity.Entity.{Entity}
use Rattle.qm_mapfile.specs.declared.entity.MapFile.{MapFile}
use Rattle.qm_grammar.specs.Origin.{origin_key, value_of, HasGoodOrigin, OriginsAreGood}
use Rattle.qm_grammar.specs.Valid.{IsValidMap}
use Rattle.qm_grammar.specs.inner.Machine.{origin_of}
use Rattle.qm_grammar.proofs.OriginTexts.{spelled_origin}
use Rattle.qm_grammar.specs.OriginPoint.{IsOriginPoint}
use Rattle.qm_contacts.specs.Leak.{Origin, AreInOrder}
use Rattle.qm_statement.specs.Origins.{StandAt, none_left, nowhere, somewhere, AreOriginsOf}

-- ---- in order

numbered_from : (k : ℕ) (entities : List Entity) (origins : List Origin) → StandAt k entities origins → All (λ origin. k ≤ origin.entity) origins
numbered_from k [] origins none_left = All-nil (λ origin. k ≤ origin.entity)
numbered_from k (entity ∷ entities) origins (nowhere lacks rest) =
    All-weaker (λ (o : Origin). k + 1 ≤ o.entity) (λ (o : Origin). k ≤ o.entity) (λ o later. omega (arith, later)) origins (numbered_from (k + 1) entities origins rest)
numbered_from k (entity ∷ entities) all (somewhere {point = point} {origins = origins} is rest) =
    All-cons (λ (o : Origin). k ≤ o.entity) (record { entity = k; point = point }) origins (omega arith)
    (All-weaker (λ (o : Origin). k + 1 ≤ o.entity) (λ (o : Origin). k ≤ o.entity) (λ o later. omega (arith, later)) origins (numbered_from (k + 1) entities origins rest))

in_order_from : (k : ℕ) (entities : List Entity) (origins : List Origin) → StandAt k entities origins → AreInOrder origins
in_order_from k [] origins none_left = λ i j d before within. absurd (omega (arith, within))
in_order_from k (entity ∷ entities) origins (nowhere lacks rest) = in_order_from (k + 1) entities origins rest
in_order_from k (entity ∷ entities) all (somewhere {point = point} {origins = origins} is rest) =
    AllPairs-cons (λ (a b : Origin). a.entity < b.entity) (record { entity = k; point = point }) origins
    (All-weaker (λ (o : Origin). k + 1 ≤ o.entity) (λ (o : Origin). k < o.entity) (λ o later. omega (arith, later)) origins (numbered_from (k + 1) entities origins rest))
    (in_order_from (k + 1) entities origins rest)

pub origins_in_order : (map : MapFile) (origins : List Origin) → AreOriginsOf map origins → AreInOrder origins
origins_in_order map origins are = in_order_from 1 (drop 1 map.entities) origins are

-- ---- in one way

one_point : (pairs : List Pair) (a b : Point) → IsOriginPoint pairs a → IsOriginPoint pairs b → a ≡ b
one_point pairs a b is_a is_b =
    let e : Some is_a.value ≡ Some is_b.value = sym is_a.first ∙ is_b.first in
    let same : is_a.value ≡ is_b.value = cc in
    let f : Some a ≡ Some b = sym (spelled_origin is_a.value a is_a.spelled) ∙ ap origin_of same ∙ spelled_origin is_b.value b is_b.spelled in
    cc

one_way : (k : ℕ) (entities : List Entity) (first second : List Origin) → StandAt k entities first → StandAt k entities second → first ≡ second
one_way k [] first second none_left none_left = refl
one_way k (entity ∷ entities) first second (nowhere lacks rest) (nowhere also others) = one_way (k + 1) entities first second rest others
one_way k (entity ∷ entities) first all (nowhere lacks rest) (somewhere is others) = absurd (let e : Some is.value ≡ None = sym is.first ∙ lacks in cc)
one_way k (entity ∷ entities) all second (somewhere is rest) (nowhere lacks others) = absurd (let e : Some is.value ≡ None = sym is.first ∙ lacks in cc)
one_way k (entity ∷ entities) all both (somewhere {point = a} {origins = first} is rest) (somewhere {point = b} {origins = second} it others) =
    let same = one_point entity.pairs a b is it in
    let tails = one_way (k + 1) entities first second rest others in
    λ i. record { entity = k; point = same i } ∷ tails i

pub one_origins : (map : MapFile) (first second : List Origin) → AreOriginsOf map first → AreOriginsOf map second → first ≡ second
one_origins map first second is it = one_way 1 (drop 1 map.entities) first second is it

-- ---- as they are gathered: whatever the entities from k on come to completes the origins

abbrev pub AreGathered : MapFile → ℕ → List Origin → Type 0
AreGathered map k origins = (rest : List Origin) → StandAt k (drop k map.entities) rest → AreOriginsOf map (origins ++ rest)

pub none_gathered : (map : MapFile) → AreGathered map 1 []
none_gathered map rest are = are

module _ (map : MapFile) (k : ℕ) (origins : List Origin) (entity : Entity) (within : k < length map.entities) (at : get_or map.entities k entity ≡ entity) (so_far : AreGathered map k origins) where
  next_entity : drop k map.entities ≡ entity ∷ drop (k + 1) map.entities
  next_entity = drop_more map.entities k entity within ∙ ap (λ (e : Entity). e ∷ drop (k + 1) map.entities) at

  pub one_more_stands : (point : Point) → IsOriginPoint entity.pairs point → AreGathered map (k + 1) (origins ++ record { entity = k; point = point } ∷ [])
  one_more_stands point is rest are =
      let here : Origin = record { entity = k; point = point } in
      subst (AreOriginsOf map) (sym (append_assoc origins (here ∷ []) rest))
      (so_far (here ∷ rest) (subst (λ (list : List Entity). StandAt k list (here ∷ rest)) (sym next_entity) (somewhere is are)))

  pub none_more_stands : value_of origin_key entity.pairs ≡ None → AreGathered map (k + 1) origins
  none_more_stands lacks rest are = so_far rest (subst (λ (list : List Entity). StandAt k list rest) (sym next_entity) (nowhere lacks are))

pub all_gathered : (map : MapFile) (k : ℕ) (origins : List Origin) → length map.entities ≤ k → AreGathered map k origins → AreOriginsOf map origins
all_gathered map k origins past so_far =
    subst (AreOriginsOf map) (append-nil origins) (so_far [] (subst (λ (list : List Entity). StandAt k list []) (sym (drop_all k map.entities past)) none_left))

-- ---- they are good

good_among : (entities : List Entity) (k : ℕ) (entity : Entity) → OriginsAreGood entities → 1 ≤ k → k < length entities → get_or entities k entity ≡ entity → HasGoodOrigin entity.pairs
good_among [] k entity good later within at = absurd (omega (arith, within))
good_among (world ∷ others) zero entity good later within at = absurd (omega (arith, later))
good_among (world ∷ others) (suc k) entity good later within at = subst (λ (e : Entity). HasGoodOrigin e.pairs) at (good k entity (omega (arith, within)))

pub good_origin_at : (map : MapFile) (k : ℕ) (entity : Entity) → IsValidMap map → 1 ≤ k → k < length map.entities → get_or map.entities k entity ≡ entity → HasGoodOrigin entity.pairs
unfolding IsValidMap
good_origin_at map k entity valid later within at = good_among map.entities k entity valid.2 later within at
