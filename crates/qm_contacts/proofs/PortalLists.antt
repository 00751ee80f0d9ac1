-- The list of portals: one touching pair after another, and what holds of each portal.
use Rattle.std.proofs.Common.{◌≡◌, ℕ, suc, ◌+◌, true, false, List, [], ◌∷◌, ◌++◌, length, filter, flat_map, All, Contains, get_or, take, Some, slice_get, refl, ap, sym, ◌∙◌, subst, arith}
use Rattle.std.proofs.lemmas.Grind.{flat_map-append}
use Rattle.std.proofs.lemmas.List.{append_assoc, append-nil, get_or_default}
use Rattle.std.proofs.lemmas.List.Concat.{flat_map-cons}
use Rattle.std.proofs.lemmas.List.Elements.{All-nil, All-cons, filter-append}
use Rattle.std.proofs.lemmas.Option.{slice_get_within}
use Rattle.qm_lists.proofs.Cases.{by_cases}
use Rattle.qm_lists.proofs.Elements.{Contains-first, Contains-later}
use Rattle.qm_lists.proofs.Places.{take_next}
use Rattle.qm_space.specs.Point.{Point}
use Rattle.qm_space.specs.Plane.{Plane, IsInFront}
use Rattle.qm_space.specs.Turned.{turned}
use Rattle.qm_space.proofs.Planes.{flipped_behind, flipped_in_front}
use Rattle.qm_partition.specs.Tree.{Tree}
use Rattle.qm_contacts.specs.Meeting.{Meeting, meetings}
use Rattle.qm_contacts.specs.NumberedLeaves.{numbered_leaves}
use Rattle.qm_contacts.specs.Touching.{Touching, AreTouchings, IsTouching}
use Rattle.qm_contacts.specs.Portals.{Portal, leaf_number, is_passage, portal, both_ways, portals_of}
use Rattle.qm_contacts.specs.PortalChain.{IsPortalBetween}
use Rattle.qm_contacts.specs.World.{IsInCellOf, PartsItsLeaves}
use Rattle.qm_contacts.specs.inner.WorldParts.{IsAmong}
use Rattle.qm_contacts.specs.inner.LeavesThere.{HasItsLeaves}
use Rattle.qm_contacts.proofs.FilledLeaves.{portal_back}
use Rattle.qm_contacts.proofs.Numbers.{leaf_at_number}
use Rattle.qm_contacts.proofs.Passages.{leaves_there, passage_is_portal}
use Rattle.qm_contacts.proofs.Touchings.{meeting_of_touching}
use Rattle.qm_contacts.proofs.WaysBelow.{leaf_in_front, leaf_behind}

module _ (tree : Tree) where
  -- one pair, and those behind it

  portals_yes : (found : Touching) (rest : List Touching) → is_passage tree found ≡ true → portals_of tree (found ∷ rest) ≡ both_ways tree found ++ portals_of tree rest
  portals_yes found rest test = rw test (flat_map-cons (both_ways tree) found (filter (is_passage tree) rest))

  portals_no : (found : Touching) (rest : List Touching) → is_passage tree found ≡ false → portals_of tree (found ∷ rest) ≡ portals_of tree rest
  portals_no found rest test = rw test refl

  -- some pairs, and one more

  portals_append : (first second : List Touching) → portals_of tree (first ++ second) ≡ portals_of tree first ++ portals_of tree second
  portals_append first second =
      ap (flat_map (both_ways tree)) (filter-append (is_passage tree) first second)
      ∙ flat_map-append (both_ways tree) (filter (is_passage tree) first) (filter (is_passage tree) second)

  portals_push_passage : (first : List Touching) (found : Touching) → is_passage tree found ≡ true → portals_of tree (first ++ found ∷ []) ≡ portals_of tree first ++ both_ways tree found
  portals_push_passage first found test = portals_append first (found ∷ []) ∙ ap (λ (rest : List Portal). portals_of tree first ++ rest) (portals_yes found [] test ∙ append-nil (both_ways tree found))

  portals_push_wall : (first : List Touching) (found : Touching) → is_passage tree found ≡ false → portals_of tree (first ++ found ∷ []) ≡ portals_of tree first
  portals_push_wall first found test = portals_append first (found ∷ []) ∙ ap (λ (rest : List Portal). portals_of tree first ++ rest) (portals_no found [] test) ∙ append-nil (portals_of tree first)

  take_one_more : (touchings : List Touching) (i : ℕ) (found : Touching) → slice_get touchings i ≡ Some found → take (i + 1) touchings ≡ take i touchings ++ found ∷ []
  take_one_more touchings i found at = ap (λ (m : ℕ). take m touchings) {x = i + 1} {y = suc i} (omega arith) ∙ take_next touchings i found at

  -- the portals of the first pairs, and of one pair more
  pub portals_next_passage : (touchings : List Touching) (i : ℕ) (found : Touching) (old : List Portal) → slice_get touchings i ≡ Some found → is_passage tree found ≡ true → old ≡ portals_of tree (take i touchings) → old ++ both_ways tree found ≡ portals_of tree (take (i + 1) touchings)
  portals_next_passage touchings i found old at test are =
      ap (λ (all : List Portal). all ++ both_ways tree found) are
      ∙ sym (ap (portals_of tree) (take_one_more touchings i found at) ∙ portals_push_passage (take i touchings) found test)

  pub portals_next_wall : (touchings : List Touching) (i : ℕ) (found : Touching) (old : List Portal) → slice_get touchings i ≡ Some found → is_passage tree found ≡ false → old ≡ portals_of tree (take i touchings) → old ≡ portals_of tree (take (i + 1) touchings)
  portals_next_wall touchings i found old at test are =
      are ∙ sym (ap (portals_of tree) (take_one_more touchings i found at) ∙ portals_push_wall (take i touchings) found test)

  -- both portals of a pair, one behind the other
  pub both_pushed : (found : Touching) (old : List Portal) (onward back : Portal) → onward ≡ portal tree found false found.front found.back → back ≡ portal tree found true found.back found.front → (old ++ onward ∷ []) ++ back ∷ [] ≡ old ++ both_ways tree found
  both_pushed found old onward back is_onward is_back = append_assoc old (onward ∷ []) (back ∷ []) ∙ (λ i. old ++ is_onward i ∷ is_back i ∷ [])

  -- what holds of both portals of each passage holds of all portals
  pub each_portal : (P : Portal → Type 0) (touchings : List Touching) → ((found : Touching) → Contains touchings found → is_passage tree found ≡ true → P (portal tree found false found.front found.back) × P (portal tree found true found.back found.front)) → All P (portals_of tree touchings)
  each_portal P [] holds = All-nil P
  each_portal P (found ∷ rest) holds =
      let behind = each_portal P rest (λ other listed test. holds other (Contains-later found other rest listed) test) in
      by_cases (is_passage tree found)
      (λ test.
      let both = holds found (Contains-first found rest) test in
      let onward = portal tree found false found.front found.back in
      let back = portal tree found true found.back found.front in
      subst (All P) (sym (portals_yes found rest test)) (All-cons P onward (back ∷ portals_of tree rest) both.0 (All-cons P back (portals_of tree rest) both.1 behind)))
      (λ test. subst (All P) (sym (portals_no found rest test)) behind)

  -- ---- of a tree with its touching pairs

  module _ (touchings : List Touching) (are : AreTouchings tree.planes (meetings tree) touchings) where
    -- both leaves of each pair are there
    pub pairs_have_leaves : All (HasItsLeaves tree) touchings
    pairs_have_leaves = λ place d within.
        let there = leaves_there tree touchings are (get_or touchings place d) (place, within, get_or_default touchings place (get_or touchings place d) d within) in
        record { front = omega (arith, there.0, there.1); back = there.1 }

    -- both leaves of a passage stand at their numbers

    number_from : (a b : ℕ) → IsPortalBetween tree a b → slice_get (numbered_leaves tree) (leaf_number tree a) ≡ Some a
    number_from a b is = leaf_at_number tree a is.from is.from_is is.numbered

    number_to : (a b : ℕ) → IsPortalBetween tree a b → slice_get (numbered_leaves tree) (leaf_number tree b) ≡ Some b
    number_to a b is = number_from b a (portal_back tree a b is)

    -- the leaves of each portal are there
    pub portals_among : All (IsAmong (length (numbered_leaves tree))) (portals_of tree touchings)
    portals_among = each_portal (IsAmong (length (numbered_leaves tree))) touchings (λ found listed test.
        let is = passage_is_portal tree touchings are found listed test in
        let front = slice_get_within (numbered_leaves tree) (leaf_number tree found.front) found.front (number_from found.front found.back is) in
        let back = slice_get_within (numbered_leaves tree) (leaf_number tree found.back) found.back (number_to found.front found.back is) in
        (record { from = front; to = back }, record { from = back; to = front }))

    -- the cell of the leaf in front is in front of the polygon's plane, and that of the leaf behind is behind it

    in_front : (found : Touching) (m : Meeting) (x : Point) → Contains (meetings tree) m → IsTouching tree.planes m found → slice_get (numbered_leaves tree) (leaf_number tree found.front) ≡ Some found.front → IsInCellOf tree (leaf_number tree found.front) x → IsInFront found.winding.plane x
    in_front found m x listed is at inside =
        let e : Some found.front ≡ Some inside.leaf = sym at ∙ inside.leaf_is in
        let same : found.front ≡ inside.leaf = cc in
        let leaf_is : m.front.leaf ≡ inside.leaf = sym is.front ∙ same in
        subst (λ (h : Plane). IsInFront h x) (sym is.plane) (leaf_in_front tree m inside.way x listed (ap (slice_get _) leaf_is ∙ inside.way_is) inside.inside)

    behind : (found : Touching) (m : Meeting) (x : Point) → Contains (meetings tree) m → IsTouching tree.planes m found → slice_get (numbered_leaves tree) (leaf_number tree found.back) ≡ Some found.back → IsInCellOf tree (leaf_number tree found.back) x → IsInFront (turned false found.winding.plane) x
    behind found m x listed is at inside =
        let e : Some found.back ≡ Some inside.leaf = sym at ∙ inside.leaf_is in
        let same : found.back ≡ inside.leaf = cc in
        let leaf_is : m.back.leaf ≡ inside.leaf = sym is.back ∙ same in
        subst (λ (h : Plane). IsInFront (turned false h) x) (sym is.plane) (leaf_behind tree m inside.way x listed (ap (slice_get _) leaf_is ∙ inside.way_is) inside.inside)

    -- so each portal parts its leaves
    pub portals_part : All (PartsItsLeaves tree) (portals_of tree touchings)
    portals_part = each_portal (PartsItsLeaves tree) touchings (λ found listed test.
        let is = passage_is_portal tree touchings are found listed test in
        let m = meeting_of_touching tree.planes (meetings tree) touchings found are listed in
        let front_at = number_from found.front found.back is in
        let back_at = number_to found.front found.back is in (
          record {
            entered = λ x inside. behind found m.0 x m.1 m.2 back_at inside;
            left = λ x inside. (flipped_behind found.winding.plane x).1 (in_front found m.0 x m.1 m.2 front_at inside);
          },
          record {
            entered = λ x inside. in_front found m.0 x m.1 m.2 front_at inside;
            left = λ x inside. (flipped_in_front found.winding.plane x).0 (behind found m.0 x m.1 m.2 back_at inside);
          },
        ))
