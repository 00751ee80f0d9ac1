-- From leaf to leaf one comes through a contact of the two, and so, where they have the same contents, through the portal
-- between them.
use Rattle.std.proofs.Common.{◌≡◌, ◌≢◌, ℕ, ◌<◌, true, false, List, ◌∷◌, ◌++◌, All, Contains, Some, slice_get, refl, sym, ap, ◌∙◌, subst, arith, ◌⊎◌, inl, inr, ⊎_elim}
use Rattle.std.proofs.lemmas.Bool.{cases_lt}
use Rattle.std.proofs.lemmas.List.{map-append}
use Rattle.std.proofs.lemmas.Option.{slice_get_within}
use Rattle.std.proofs.lemmas.List.Elements.{All-head, All-tail, Contains-append_left, Contains-append_right, Contains-append_cases}
use Rattle.qm_lists.proofs.Elements.{Contains-first, Contains-later, All-first_part, All-last_part}
use Rattle.qm_space.specs.Point.{Point, IsInCube}
use Rattle.qm_space.specs.Plane.{Plane, IsOn, IsInFront, IsNotBehind, flipped}
use Rattle.qm_space.specs.Cell.{IsInCell}
use Rattle.qm_space.specs.Book.{plane_at}
use Rattle.qm_numbers.proofs.IntegerProducts.{linear}
use Rattle.qm_space.proofs.Planes.{value_flipped}
use Rattle.qm_contents.specs.declared.contents.Contents.{Contents}
use Rattle.qm_contents.specs.declared.contents.Contents.TheVariants.{Solid}
use Rattle.qm_convex.specs.Winding.{IsInRegion, IsConvex}
use Rattle.qm_partition.specs.declared.step.Step.{Step}
use Rattle.qm_partition.specs.Tree.{Tree}
use Rattle.qm_partition.specs.Ways.{Way, ways, turned_to, cell_of_way, HasPoints}
use Rattle.qm_partition.proofs.Cells.{length-ways}
use Rattle.qm_contacts.specs.Meeting.{Meeting, meetings}
use Rattle.qm_contacts.specs.Contact.{IsContact}
use Rattle.qm_contacts.specs.Touching.{Touching, IsTouching, AreTouchings}
use Rattle.qm_contacts.specs.NumberedLeaves.{numbered_leaves}
use Rattle.qm_contacts.specs.Portals.{Portal, portals_of}
use Rattle.qm_contacts.proofs.WaysBelow.{tree_meeting_ways, leaf_in_front, leaf_behind}
use Rattle.qm_contacts.proofs.Partings.{crossing_is_contact, tree_leaves_meet}
use Rattle.qm_contacts.proofs.Touchings.{touching_of_meeting}
use Rattle.qm_segments.specs.Generic.{IsNodePlane}
use Rattle.qm_segments.proofs.EndLeaves.{way_names_nodes}
use Rattle.qm_segments.proofs.PortalsListed.{HasLeaf, number_of_leaf, passage_from_contents, to_back, to_front, to_back_listed, to_front_listed}

module _ (tree : Tree) where
  -- behind no plane of the way to a leaf
  pub record IsBesideLeaf (k : ℕ) (x : Point) : Type 0 where
    pub way : Way
    pub way_is : slice_get (ways tree.shape) k ≡ Some way
    pub not_behind : All (λ g. IsNotBehind g x) (cell_of_way tree.planes way)

  -- on no two different node planes
  abbrev pub IsOnOnePlane : Point → Type 0
  IsOnOnePlane x = (g h : Plane) → IsNodePlane tree g → IsNodePlane tree h → IsOn g x → IsOn h x → g ≡ h

  -- the three parts of a way with a step in it
  module _ (above rest way : Way) (step : Step) (x : Point) (is : above ++ step ∷ rest ≡ way) where
    part_not_behind : All (λ g. IsNotBehind g x) (cell_of_way tree.planes way) → All (λ g. IsNotBehind g x) (cell_of_way tree.planes above) × IsNotBehind (turned_to tree.planes step) x × All (λ g. IsNotBehind g x) (cell_of_way tree.planes rest)
    part_not_behind all =
        let here = subst (λ (w : Way). All (λ g. IsNotBehind g x) (cell_of_way tree.planes w)) (sym is) all in
        let split = subst (λ (cell : List Plane). All (λ g. IsNotBehind g x) cell) (map-append (turned_to tree.planes) above (step ∷ rest)) here in
        let later = All-last_part (λ g. IsNotBehind g x) (cell_of_way tree.planes above) (cell_of_way tree.planes (step ∷ rest)) split in (
          All-first_part (λ g. IsNotBehind g x) (cell_of_way tree.planes above) (cell_of_way tree.planes (step ∷ rest)) split,
          All-head (λ g. IsNotBehind g x) (turned_to tree.planes step) (cell_of_way tree.planes rest) later,
          All-tail (λ g. IsNotBehind g x) (turned_to tree.planes step) (cell_of_way tree.planes rest) later,
        )

    in_way : (other : Step) → Contains above other ⊎ Contains (step ∷ rest) other → Contains way other
    in_way other there = subst (λ (w : Way). Contains w other) is (⊎_elim
        (λ a. Contains-append_left above (step ∷ rest) other a)
        (λ b. Contains-append_right above (step ∷ rest) other b)
        there)

  -- ---- a contact

  -- of two leaves, the one in front of the node that parts them first
  module _ (have : HasPoints tree) (f b : ℕ) (x : Point) (order : f < b) (beside_front : IsBesideLeaf f x) (beside_back : IsBesideLeaf b x) (in_cube : IsInCube x) (one : IsOnOnePlane x) where
    pub record IsContactOfLeaves : Type 0 where
      pub meeting : Meeting
      pub listed : Contains (meetings tree) meeting
      pub front : meeting.front.leaf ≡ f
      pub back : meeting.back.leaf ≡ b
      pub contact : IsContact tree.planes meeting x

    pub crossing_contact : IsContactOfLeaves
    crossing_contact =
        let there = slice_get_within (ways tree.shape) b beside_back.way beside_back.way_is in
        let found = tree_leaves_meet tree f b order (omega (arith, there, length-ways tree.shape)) in
        contact_at found.0 found.1 found.2 found.3
      where
        contact_at : (m : Meeting) → Contains (meetings tree) m → m.front.leaf ≡ f → m.back.leaf ≡ b → IsContactOfLeaves
        contact_at m listed front back =
            let its = tree_meeting_ways tree m listed in
            let front_step : Step = record { plane = m.plane; front = true } in
            let back_step : Step = record { plane = m.plane; front = false } in
            let front_is : m.above ++ front_step ∷ m.front.way ≡ beside_front.way = (let e : Some (m.above ++ front_step ∷ m.front.way) ≡ Some beside_front.way = sym its.to_front ∙ ap (slice_get (ways tree.shape)) front ∙ beside_front.way_is in cc) in
            let back_is : m.above ++ back_step ∷ m.back.way ≡ beside_back.way = (let e : Some (m.above ++ back_step ∷ m.back.way) ≡ Some beside_back.way = sym its.to_back ∙ ap (slice_get (ways tree.shape)) back ∙ beside_back.way_is in cc) in
            let of_front = part_not_behind m.above m.front.way beside_front.way front_step x front_is beside_front.not_behind in
            let of_back = part_not_behind m.above m.back.way beside_back.way back_step x back_is beside_back.not_behind in
            let e = value_flipped (plane_at tree.planes m.plane) x in
            let on : IsOn (plane_at tree.planes m.plane) x = omega (arith, linear, of_front.1, of_back.1) in
            let named = way_names_nodes tree.shape f beside_front.way front_step beside_front.way_is (in_way m.above m.front.way beside_front.way front_step x front_is front_step (inr (Contains-first front_step m.front.way))) in
            record {
              meeting = m;
              listed = listed;
              front = front;
              back = back;
              contact = crossing_is_contact tree m x have listed (record {
                in_cube = in_cube;
                on = on;
                above = of_front.0;
                in_front = of_front.2;
                behind = of_back.2;
                only = λ step there on_step. one (plane_at tree.planes step.plane) (plane_at tree.planes m.plane) (
                  step.plane,
                  ⊎_elim
                      (λ above. way_names_nodes tree.shape f beside_front.way step beside_front.way_is (in_way m.above m.front.way beside_front.way front_step x front_is step (inl above)))
                      (λ more. ⊎_elim
                      (λ in_front. way_names_nodes tree.shape f beside_front.way step beside_front.way_is (in_way m.above m.front.way beside_front.way front_step x front_is step (inr (Contains-later front_step step m.front.way in_front))))
                      (λ behind. way_names_nodes tree.shape b beside_back.way step beside_back.way_is (in_way m.above m.back.way beside_back.way back_step x back_is step (inr (Contains-later back_step step m.back.way behind))))
                      (Contains-append_cases m.front.way m.back.way step more))
                      (Contains-append_cases m.above (m.front.way ++ m.back.way) step there),
                  refl,
                )
                    (m.plane, named, refl) on_step on;
              });
            }

  -- ---- the portal

  module _ (have : HasPoints tree) (touchings : List Touching) (are : AreTouchings tree.planes (meetings tree) touchings) (contents : Contents) (not_solid : contents ≢ Solid) where
    -- a portal from the leaf k to the leaf n, by their places in the tree, that has the point in its polygon
    pub record IsPortalAt (k n : ℕ) (x : Point) : Type 0 where
      pub portal : Portal
      pub listed : Contains (portals_of tree touchings) portal
      pub from_is : slice_get (numbered_leaves tree) portal.from ≡ Some k
      pub to_is : slice_get (numbered_leaves tree) portal.to ≡ Some n
      pub convex : IsConvex portal.winding
      pub inside : IsInRegion portal.winding x
      pub in_front : (way : Way) (y : Point) → slice_get (ways tree.shape) n ≡ Some way → IsInCell (cell_of_way tree.planes way) y → IsInFront portal.into y
      pub on : IsOn portal.into x

    -- both ways at a contact
    module _ (f b : ℕ) (x : Point) (order : f < b) (contact : (m : Meeting) × Contains (meetings tree) m × (m.front.leaf ≡ f) × (m.back.leaf ≡ b) × IsContact tree.planes m x) (has_front : HasLeaf tree contents f) (has_back : HasLeaf tree contents b) where
      abbrev m : Meeting
      m = contact.0

      found : (t : Touching) × Contains touchings t × IsTouching tree.planes contact.0 t
      found = touching_of_meeting tree.planes (meetings tree) touchings contact.0 x are contact.1 contact.4

      both : (t : Touching) → Contains touchings t → IsTouching tree.planes contact.0 t → IsPortalAt f b x × IsPortalAt b f x
      both t listed is =
          let front : t.front ≡ f = is.front ∙ contact.2 in
          let back : t.back ≡ b = is.back ∙ contact.3 in
          let passage = passage_from_contents tree contents t not_solid (subst (HasLeaf tree contents) (sym front) has_front) (subst (HasLeaf tree contents) (sym back) has_back) in
          let front_number = number_of_leaf tree contents t.front not_solid (subst (HasLeaf tree contents) (sym front) has_front) ∙ ap Some front in
          let back_number = number_of_leaf tree contents t.back not_solid (subst (HasLeaf tree contents) (sym back) has_back) ∙ ap Some back in
          let inside = (is.points x).1 contact.4 in
          let e = value_flipped t.winding.plane x in (
            record {
              portal = to_back tree t;
              listed = to_back_listed tree touchings t listed passage;
              from_is = front_number;
              to_is = back_number;
              convex = is.convex;
              inside = inside;
              in_front = λ way y at in_cell. subst (λ (h : Plane). IsInFront (flipped h) y) (sym is.plane) (leaf_behind tree contact.0 way y contact.1 (ap (slice_get (ways tree.shape)) contact.3 ∙ at) in_cell);
              on = let z = inside.on in omega (arith, linear);
            },
            record {
              portal = to_front tree t;
              listed = to_front_listed tree touchings t listed passage;
              from_is = back_number;
              to_is = front_number;
              convex = is.convex;
              inside = inside;
              in_front = λ way y at in_cell. subst (λ (h : Plane). IsInFront h y) (sym is.plane) (leaf_in_front tree contact.0 way y contact.1 (ap (slice_get (ways tree.shape)) contact.2 ∙ at) in_cell);
              on = inside.on;
            },
          )

      both_portals : IsPortalAt f b x × IsPortalAt b f x
      both_portals = both found.0 found.1 found.2

    -- from one leaf to another, of the same contents, at a point beside both
    pub crossed_portal : (k n : ℕ) (x : Point) → k ≢ n → IsBesideLeaf k x → IsBesideLeaf n x → IsInCube x → IsOnOnePlane x → HasLeaf tree contents k → HasLeaf tree contents n → IsPortalAt k n x
    crossed_portal k n x apart beside_k beside_n in_cube one has_k has_n = ⊎_elim
        (λ less.
        let c = crossing_contact have k n x less beside_k beside_n in_cube one in
        (both_portals k n x less (c.meeting, c.listed, c.front, c.back, c.contact) has_k has_n).0)
        (λ not_less.
        let less : n < k = omega (arith, not_less, apart) in
        let c = crossing_contact have n k x less beside_n beside_k in_cube one in
        (both_portals n k x less (c.meeting, c.listed, c.front, c.back, c.contact) has_n has_k).1)
        (cases_lt k n)
