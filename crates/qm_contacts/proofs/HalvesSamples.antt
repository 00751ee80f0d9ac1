-- Worked rows: the tree of one node, the plane x = 0, with all contacts of its two leaves; what leaks, and what is filled.
use Rattle.std.proofs.Common.{◌≡◌, ℕ, zero, suc, ◌<◌, ◌≤◌, ℤ, pos, neg_ℤ, ◌<ℤ◌, true, false, List, [], ◌∷◌, Contains, length, Some, refl, sym, ap, subst, arith, ◌⊎◌, inl, inr, ⊎_elim}
use Rattle.std.proofs.lemmas.Int.{ints}
use Rattle.std.proofs.lemmas.List.Elements.{All-from_recursion, All-contains, All-nil}
use Rattle.qm_lists.specs.Reach.{start}
use Rattle.qm_lists.specs.WorkList.{IsIn}
use Rattle.qm_lists.proofs.Elements.{Contains-first, Contains-cons_cases}
use Rattle.qm_space.specs.Bounds.{extent}
use Rattle.qm_space.specs.Point.{Point, IsInCube}
use Rattle.qm_space.specs.Plane.{Plane, plane_of, value, IsInFront, flipped}
use Rattle.qm_space.specs.Cube.{cube_walls, wall_x, wall_y, wall_z, mirrored}
use Rattle.qm_numbers.proofs.IntegerProducts.{linear, one_*ℤ, zero_*ℤ}
use Rattle.qm_numbers.proofs.Signs.{product_positive}
use Rattle.qm_convex.specs.Winding.{Winding}
use Rattle.qm_convex.specs.inner.Square.{square}
use Rattle.qm_convex.proofs.Squares.{square_convex, square_region, square_all, turn_y_z, between_y, between_z}
use Rattle.qm_contents.specs.declared.contents.Contents.{Contents}
use Rattle.qm_contents.specs.declared.contents.Contents.TheVariants.{Empty, Sky}
use Rattle.qm_partition.specs.declared.node.Leaf.{Leaf}
use Rattle.qm_partition.specs.Partition.{leaf, node}
use Rattle.qm_partition.specs.Tree.{Tree}
use Rattle.qm_partition.specs.LeafOfPoint.{node_value}
use Rattle.qm_partition.specs.Marked.{filled_leaf, marked_tree}
use Rattle.qm_partition.specs.Ways.{Way, ways, cell_of_way, IsInLeaf, HasPoints}
use Rattle.qm_contacts.specs.Meeting.{meetings, Meeting, meeting_at}
use Rattle.qm_contacts.specs.Contact.{bounds_of_contact}
use Rattle.qm_contacts.specs.Touching.{Touching, IsTouching, AreTouchings, none, touching}
use Rattle.qm_contacts.specs.Contacts.{AreContacts}
use Rattle.qm_contacts.specs.Outside.{TouchesOutside}
use Rattle.qm_contacts.specs.Reached.{is_passable, IsReached}
use Rattle.qm_contacts.specs.Leak.{Origin, leaf_of_origin, Leaks, IsWayOut, out, on, IsNotAfter, IsTrail, IsLeak}
use Rattle.qm_contacts.specs.Filled.{IsSealed, IsToBeFilled, IsFilledRow}
use Rattle.qm_contacts.specs.NumberedLeaves.{numbered_leaves}
use Rattle.qm_contacts.specs.Portals.{portals_of}
use Rattle.qm_contacts.proofs.Trails.{reached_passable}

abbrev half : Plane
half = plane_of (pos 1) (pos 0) (pos 0) (pos 0)

abbrev of : Contents → Leaf
of contents = record { contents = contents; filled = false }

-- the tree with these contents in front of the plane, and emptiness behind it
abbrev halves : Contents → Tree
halves contents = record { planes = half ∷ []; shape = node 0 (leaf (of contents)) (leaf (of Empty)) }

abbrev point : ℤ → ℤ → ℤ → Point
point x y z = record { x = x; y = y; z = z; w = pos 1 }

-- the one meeting
abbrev meeting : Meeting
meeting = meeting_at 0 0 [] (record { leaf = 0; way = [] }) (record { leaf = 1; way = [] })

meetings_row : (contents : Contents) → meetings (halves contents) ≡ meeting ∷ []
meetings_row contents = refl

-- its contact is the whole square
abbrev contact : Winding
contact = square half wall_y wall_z

abbrev found : Touching
found = record { node = 0; front = 0; back = 1; winding = contact }

half_value : (p : Point) → value half p ≡ p.x
unfolding value
half_value p = let a = one_*ℤ p.x in let b = zero_*ℤ p.y in let c = zero_*ℤ p.z in let d = zero_*ℤ p.w in omega (arith, linear)

found_is : IsTouching (half ∷ []) meeting found
found_is = record {
  node = refl;
  front = refl;
  back = refl;
  convex = square_convex half wall_y wall_z (let e = turn_y_z half in omega (arith, ints)) (omega (arith, ints)) (omega (arith, ints));
  plane = refl;
  points = λ p. (
    (λ r.
        let s = (square_region half wall_y wall_z p).0 r in
        let v = half_value p in
        let m = product_positive extent p.w (omega (arith, ints)) s.0 in
        let x_is = s.1 in
        record {
          in_cube = record { weight = s.0; x = record { above = omega (arith, linear); below = omega (arith, linear) }; y = (between_y p).0 s.2; z = (between_z p).0 s.3 };
          on = s.1;
          above = All-nil (λ h. IsInFront h p);
          in_front = All-nil (λ h. IsInFront h p);
          behind = All-nil (λ h. IsInFront h p);
        }),
    (λ c. (square_region half wall_y wall_z p).1 (c.in_cube.weight, c.on, (between_y p).1 c.in_cube.y, (between_z p).1 c.in_cube.z)),
  );
  edges = square_all (Contains (bounds_of_contact (half ∷ []) meeting)) half wall_y wall_z (1, omega arith, refl) (2, omega arith, refl) (4, omega arith, refl) (5, omega arith, refl);
}

touchings_row : AreTouchings (half ∷ []) (meeting ∷ []) (found ∷ [])
touchings_row = touching found_is none

-- both leaves have a point
in_cube : (x : ℤ) → neg_ℤ extent <ℤ x → x <ℤ extent → IsInCube (point x (pos 0) (pos 0))
in_cube x low high = record {
  weight = omega (arith, ints);
  x = record { above = omega (arith, ints, low); below = omega (arith, ints, high) };
  y = record { above = omega (arith, ints); below = omega (arith, ints) };
  z = record { above = omega (arith, ints); below = omega (arith, ints) };
}

points_row : (contents : Contents) → HasPoints (halves contents)
unfolding value
points_row contents way listed = All-contains (λ (w : Way). (x : Point) × IsInLeaf (half ∷ []) w x) (ways (halves contents).shape) way
    (All-from_recursion (λ (w : Way). (x : Point) × IsInLeaf (half ∷ []) w x) (ways (halves contents).shape) (
      (point (pos 64) (pos 0) (pos 0), record { in_cube = in_cube (pos 64) (omega (arith, ints)) (omega (arith, ints)); in_cell = All-from_recursion (λ g. IsInFront g (point (pos 64) (pos 0) (pos 0))) (half ∷ []) (omega (arith, ints), tt) }),
      ((point (neg_ℤ (pos 64)) (pos 0) (pos 0), record { in_cube = in_cube (neg_ℤ (pos 64)) (omega (arith, ints)) (omega (arith, ints)); in_cell = All-from_recursion (λ g. IsInFront g (point (neg_ℤ (pos 64)) (pos 0) (pos 0))) (flipped half ∷ []) (omega (arith, ints), tt) }), tt),
    ))
    listed

-- both leaves touch the outside
module _ (contents : Contents) where
  front_outside : TouchesOutside (halves contents) 0
  unfolding value
  front_outside = record {
    way = record { plane = 0; front = true } ∷ [];
    way_is = refl;
    wall = mirrored wall_x;
    is_wall = (3, omega arith, refl);
    point = point extent (pos 0) (pos 0);
    on_face = record {
      weight = omega (arith, ints);
      on = refl;
      inside = All-from_recursion (λ g. (g ≡ mirrored wall_x → ⊥) → IsInFront g (point extent (pos 0) (pos 0))) cube_walls
          ((λ other. omega (arith, ints)), ((λ other. omega (arith, ints)), ((λ other. omega (arith, ints)), ((λ other. absurd (other refl)), ((λ other. omega (arith, ints)), ((λ other. omega (arith, ints)), tt))))));
    };
    in_cell = All-from_recursion (λ g. IsInFront g (point extent (pos 0) (pos 0))) (cell_of_way (half ∷ []) (record { plane = 0; front = true } ∷ [])) (omega (arith, ints), tt);
  }

  back_outside : TouchesOutside (halves contents) 1
  unfolding value
  back_outside = record {
    way = record { plane = 0; front = false } ∷ [];
    way_is = refl;
    wall = wall_x;
    is_wall = (0, omega arith, refl);
    point = point (neg_ℤ extent) (pos 0) (pos 0);
    on_face = record {
      weight = omega (arith, ints);
      on = refl;
      inside = All-from_recursion (λ g. (g ≡ wall_x → ⊥) → IsInFront g (point (neg_ℤ extent) (pos 0) (pos 0))) cube_walls
          ((λ other. absurd (other refl)), ((λ other. omega (arith, ints)), ((λ other. omega (arith, ints)), ((λ other. omega (arith, ints)), ((λ other. omega (arith, ints)), ((λ other. omega (arith, ints)), tt))))));
    };
    in_cell = All-from_recursion (λ g. IsInFront g (point (neg_ℤ extent) (pos 0) (pos 0))) (cell_of_way (half ∷ []) (record { plane = 0; front = false } ∷ [])) (omega (arith, ints), tt);
  }

  -- these are all contacts
  contacts_row : AreContacts (halves contents) (record { touchings = found ∷ []; outside = true ∷ true ∷ [] })
  contacts_row = record { points = points_row contents; touching = touchings_row; one_each = refl; outside = λ k. (there k, back k) }
    where
      there : (k : ℕ) → IsIn (true ∷ true ∷ []) k → TouchesOutside (halves contents) k
      there zero is = front_outside
      there (suc zero) is = back_outside
      there (suc (suc k)) is = absurd (let e : false ≡ true = is in cc)

      back : (k : ℕ) → TouchesOutside (halves contents) k → IsIn (true ∷ true ∷ []) k
      back zero outside = refl
      back (suc zero) outside = refl
      back (suc (suc k)) outside = absurd (let e = outside.way_is in cc)

-- ---- two empty halves: an entity anywhere leaks

abbrev origin : ℕ → ℤ → Origin
origin entity x = record { entity = entity; point = point x (pos 5) (pos 5) }

front_reached : IsReached (halves Empty) 0
front_reached = start (record { outside = front_outside Empty; passable = record { found = of Empty; leaf_is = refl; passable = refl } })

leaf_row : leaf_of_origin (halves Empty) (origin 1 (pos 64)) ≡ 0
unfolding node_value value
leaf_row = refl

leaks_row : Leaks (halves Empty) (origin 1 (pos 64))
unfolding node_value value
leaks_row = record { takes_part = λ solid. cc; reached = front_reached }

-- its trail is its own leaf
trail_row : IsTrail (halves Empty) 0 (0 ∷ [])
trail_row = record { way_out = out front_reached (front_outside Empty); least = first }
  where
    first : (other : List ℕ) → IsWayOut (halves Empty) 0 other → (1 < length other) ⊎ ((1 ≡ length other) × IsNotAfter (0 ∷ []) other)
    first other (out reached outside) = inr (refl, inr (refl, tt))
    first other (on reached touch more) = inl (omega arith)

leak_row : IsLeak (halves Empty) (origin 1 (pos 64) ∷ []) 1 (0 ∷ [])
unfolding node_value value
leak_row = record {
  origin = origin 1 (pos 64);
  first = record {
    listed = (0, omega arith, refl);
    leaks = leaks_row;
    first = λ other listed leaks. only other listed;
  };
  entity_is = refl;
  trail_is = trail_row;
}
  where
    only : (other : Origin) → Contains (origin 1 (pos 64) ∷ []) other → 1 ≤ other.entity
    only other listed = ⊎_elim (λ same. let e = ap (λ (o : Origin). o.entity) same in omega (arith, e)) (λ more. absurd (let within = more.1 in omega arith)) (Contains-cons_cases (origin 1 (pos 64)) other [] listed)

-- ---- sky in front: an entity in it takes part and does not leak, and the other leaf is filled

sky_not_reached : IsReached (halves Sky) 0 → ⊥
sky_not_reached reached =
    let can = reached_passable (halves Sky) 0 reached in
    let e : Some (of Sky) ≡ Some can.found = can.leaf_is in
    let same : of Sky ≡ can.found = cc in
    let never : is_passable Sky ≡ true = subst (λ (found : Leaf). is_passable found.contents ≡ true) (sym same) can.passable in
    absurd (let f : false ≡ true = never in cc)

back_reached : IsReached (halves Sky) 1
back_reached = start (record { outside = back_outside Sky; passable = record { found = of Empty; leaf_is = refl; passable = refl } })

sealed_row : IsSealed (halves Sky) (origin 1 (pos 64) ∷ [])
unfolding node_value value
sealed_row = record {
  inside = origin 1 (pos 64);
  listed = Contains-first (origin 1 (pos 64)) [];
  takes_part = λ solid. cc;
  tight = λ other listed leaks. ⊎_elim
      (λ same. sky_not_reached (subst (λ (o : Origin). IsReached (halves Sky) (leaf_of_origin (halves Sky) o)) (sym same) leaks.reached))
      (λ more. absurd (let within = more.1 in omega arith))
      (Contains-cons_cases (origin 1 (pos 64)) other [] listed);
}

filled_row : IsFilledRow (halves Sky) (origin 1 (pos 64) ∷ []) (false ∷ true ∷ [])
filled_row = record { one_each = refl; filled = λ k. (there k, λ fill. back k fill.reached) }
  where
    there : (k : ℕ) → IsIn (false ∷ true ∷ []) k → IsToBeFilled (halves Sky) (origin 1 (pos 64) ∷ []) k
    there zero is = absurd (let e : false ≡ true = is in cc)
    there (suc zero) is = record { sealed = sealed_row; reached = back_reached }
    there (suc (suc k)) is = absurd (let e : false ≡ true = is in cc)

    back : (k : ℕ) → IsReached (halves Sky) k → IsIn (false ∷ true ∷ []) k
    back zero reached = absurd (sky_not_reached reached)
    back (suc zero) reached = refl
    back (suc (suc k)) reached = absurd (let e = (reached_passable (halves Sky) (suc (suc k)) reached).leaf_is in cc)

-- the marked tree
marked_row : marked_tree (false ∷ true ∷ []) (halves Sky) ≡ record { planes = half ∷ []; shape = node 0 (leaf (of Sky)) (leaf filled_leaf) }
marked_row = refl

-- ---- portals

-- between two empty halves there are two: into the leaf behind, and back
portals_row : portals_of (halves Empty) (found ∷ []) ≡ record { winding = contact; into = flipped half; from = 0; to = 1 } ∷ record { winding = contact; into = half; from = 1; to = 0 } ∷ []
portals_row = refl

-- and none between sky and emptiness, or where a leaf is filled
no_portals_row : (portals_of (halves Sky) (found ∷ []) ≡ []) × (portals_of (marked_tree (false ∷ true ∷ []) (halves Empty)) (found ∷ []) ≡ [])
no_portals_row = (refl, refl)

numbered_row : numbered_leaves (marked_tree (false ∷ true ∷ []) (halves Sky)) ≡ 0 ∷ []
numbered_row = refl
