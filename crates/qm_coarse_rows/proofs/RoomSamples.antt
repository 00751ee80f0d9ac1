-- Worked rows: three empty leaves in a row, parted by the planes x = 64 and x = 0. What goes through the first portal goes
-- on through the second; nothing turns back.
use Rattle.std.proofs.Common.{◌≡◌, ◌<◌, ℕ, zero, suc, ℤ, pos, true, false, Bool, List, [], ◌∷◌, Contains, length, Some, refl, sym, ap, ◌∙◌, subst, arith, inl, inr, ⊎_elim}
use Rattle.std.specs.Prelude.{slice_get}
use Rattle.std.proofs.lemmas.Int.{ints}
use Rattle.std.proofs.lemmas.List.{get_or_past}
use Rattle.std.proofs.lemmas.List.Elements.{All-from_recursion, All-contains}
use Rattle.qm_convex.proofs.Corners.{corner_on_plane}
use Rattle.qm_lists.specs.Reach.{start, onward}
use Rattle.qm_lists.specs.WorkList.{IsIn}
use Rattle.qm_lists.proofs.Reached.{least}
use Rattle.qm_space.specs.Plane.{Plane, plane_of, value, flipped}
use Rattle.qm_space.specs.Meet.{meet}
use Rattle.qm_space.specs.Determinant.{determinant}
use Rattle.qm_space.specs.Cube.{wall_y, wall_z}
use Rattle.qm_convex.specs.Winding.{Winding, corner_at, next_place}
use Rattle.qm_convex.specs.inner.Square.{square}
use Rattle.qm_contents.specs.declared.contents.Contents.TheVariants.{Empty}
use Rattle.qm_partition.specs.declared.node.Leaf.{Leaf}
use Rattle.qm_partition.specs.Partition.{leaf, node}
use Rattle.qm_partition.specs.Tree.{Tree}
use Rattle.qm_contacts.specs.Touching.{Touching}
use Rattle.qm_contacts.specs.Portals.{Portal, portals_of}
use Rattle.qm_coarse_rows.specs.CoarseRow.{MayFollow, GoesOnFrom, IsInCoarseRow, IsCoarseRow, AreCoarseRows}
use Rattle.qm_space.specs.Turned.{turned}
use Rattle.qm_space.proofs.TurnedPlanes.{turned_on}
use Rattle.qm_convex.specs.Sides.{HasCornerInFront}
use Rattle.qm_coarse_rows.specs.LeafRow.{AreLeafRows, IsInLeafRow, IsLeafRow}

abbrev pub at : ℤ → Plane
at x = plane_of (pos 1) (pos 0) (pos 0) x

abbrev pub empty : Leaf
empty = record { contents = Empty; filled = false }

-- in front of x = 64 is leaf 0, between the planes leaf 1, behind x = 0 leaf 2
abbrev pub rooms : Tree
rooms = record { planes = at (pos 64) ∷ at (pos 0) ∷ []; shape = node 0 (leaf empty) (node 1 (leaf empty) (leaf empty)) }

abbrev pub door : ℤ → Winding
door x = square (at x) wall_y wall_z

abbrev pub touchings : List Touching
touchings =
    record { node = 0; front = 0; back = 1; winding = door (pos 64) }
    ∷ record { node = 1; front = 1; back = 2; winding = door (pos 0) }
    ∷ []

abbrev pub out : Portal
out = record { winding = door (pos 64); into = flipped (at (pos 64)); from = 0; to = 1 }

abbrev pub in_again : Portal
in_again = record { winding = door (pos 64); into = at (pos 64); from = 1; to = 0 }

abbrev pub on : Portal
on = record { winding = door (pos 0); into = flipped (at (pos 0)); from = 1; to = 2 }

abbrev pub back : Portal
back = record { winding = door (pos 0); into = at (pos 0); from = 2; to = 1 }

pub portals_row : portals_of rooms touchings ≡ out ∷ in_again ∷ on ∷ back ∷ []
portals_row = refl

abbrev pub portals : List Portal
portals = out ∷ in_again ∷ on ∷ back ∷ []

-- ---- which portal may follow which

on_follows : MayFollow out on
unfolding corner_at next_place meet determinant value
on_follows = record { in_front = (0, omega arith, omega (arith, ints)); behind = (0, omega arith, omega (arith, ints)) }

again_follows : MayFollow back in_again
unfolding corner_at next_place meet determinant value
again_follows = record { in_front = (0, omega arith, omega (arith, ints)); behind = (0, omega arith, omega (arith, ints)) }

-- no corner of a door is in front of its own plane, to whichever side that is turned
own_plane : (x : ℤ) (side : Bool) → HasCornerInFront (door x) (turned side (at x)) → ⊥
own_plane x side front =
    let corner = corner_at (door x) front.0 in
    let on_plane = (turned_on side (at x) corner).1 (corner_on_plane (door x) front.0) in
    let before = front.2 in
    absurd (omega (arith, ints, before, on_plane))

-- ---- the rows of the four portals

each_portal : (P : Portal → Type 0) → P out → P in_again → P on → P back → (q : Portal) → Contains portals q → P q
each_portal P p_out p_in p_on p_back q there = All-contains P portals q (All-from_recursion P portals (p_out, (p_in, (p_on, (p_back, tt))))) there

past : (row : List Bool) (k : ℕ) → length row ≡ 3 → IsIn row (suc (suc (suc k))) → ⊥
past row k long is = absurd (let e = get_or_past row (suc (suc (suc k))) false (omega (arith, long)) in let f : false ≡ true = sym e ∙ is in cc)

-- a row of three places that has the leaf that p enters and is closed, and has no more than it should
row_of : (p : Portal) (row : List Bool) → length row ≡ 3 → IsIn row p.to → ((q : Portal) → Contains portals q → IsIn row q.from → MayFollow p q → IsIn row q.to) →
    (IsIn row 0 → IsInCoarseRow portals p 0) → (IsIn row 1 → IsInCoarseRow portals p 1) → (IsIn row 2 → IsInCoarseRow portals p 2) → IsCoarseRow portals 3 p row
row_of p row long begun closed zeroth first second = record { one_each = long; exactly = λ n. (there n, λ reached. back_from n reached) }
  where
    there : (n : ℕ) → IsIn row n → IsInCoarseRow portals p n
    there zero is = zeroth is
    there (suc zero) is = first is
    there (suc (suc zero)) is = second is
    there (suc (suc (suc n))) is = absurd (past row n long is)

    back_from : (n : ℕ) → IsInCoarseRow portals p n → IsIn row n
    back_from n reached = least (λ m. m ≡ p.to) (GoesOnFrom portals p) (λ m. IsIn row m)
        (λ m is. subst (λ (k : ℕ). IsIn row k) (sym is) begun)
        (λ from to within goes. subst (λ (k : ℕ). IsIn row k) goes.to (closed goes.portal goes.listed (subst (λ (k : ℕ). IsIn row k) (sym goes.from) within) goes.follows))
        n reached

not_there : {P : Type 0} → false ≡ true → P
not_there is = absurd cc

-- out of leaf 0: the leaves 1 and 2
out_row : IsCoarseRow portals 3 out (false ∷ true ∷ true ∷ [])
out_row = row_of out (false ∷ true ∷ true ∷ []) refl refl
    (each_portal (λ q. IsIn (false ∷ true ∷ true ∷ []) q.from → MayFollow out q → IsIn (false ∷ true ∷ true ∷ []) q.to)
    (λ is f. not_there is) (λ is f. absurd (own_plane (pos 64) false f.in_front)) (λ is f. refl) (λ is f. refl))
    (λ is. not_there is)
    (λ is. start refl)
    (λ is. onward (start refl) (record { portal = on; listed = (2, omega arith, refl); from = refl; to = refl; follows = on_follows }))

-- back into leaf 0: that leaf alone
in_row : IsCoarseRow portals 3 in_again (true ∷ false ∷ false ∷ [])
in_row = row_of in_again (true ∷ false ∷ false ∷ []) refl refl
    (each_portal (λ q. IsIn (true ∷ false ∷ false ∷ []) q.from → MayFollow in_again q → IsIn (true ∷ false ∷ false ∷ []) q.to)
    (λ is f. absurd (own_plane (pos 64) true f.in_front)) (λ is f. not_there is) (λ is f. not_there is) (λ is f. not_there is))
    (λ is. start refl) (λ is. not_there is) (λ is. not_there is)

-- into leaf 2: that leaf alone
on_row : IsCoarseRow portals 3 on (false ∷ false ∷ true ∷ [])
on_row = row_of on (false ∷ false ∷ true ∷ []) refl refl
    (each_portal (λ q. IsIn (false ∷ false ∷ true ∷ []) q.from → MayFollow on q → IsIn (false ∷ false ∷ true ∷ []) q.to)
    (λ is f. not_there is) (λ is f. not_there is) (λ is f. not_there is) (λ is f. absurd (own_plane (pos 0) false f.in_front)))
    (λ is. not_there is) (λ is. not_there is) (λ is. start refl)

-- out of leaf 2: the leaves 1 and 0
back_row : IsCoarseRow portals 3 back (true ∷ true ∷ false ∷ [])
back_row = row_of back (true ∷ true ∷ false ∷ []) refl refl
    (each_portal (λ q. IsIn (true ∷ true ∷ false ∷ []) q.from → MayFollow back q → IsIn (true ∷ true ∷ false ∷ []) q.to)
    (λ is f. refl) (λ is f. refl) (λ is f. absurd (own_plane (pos 0) true f.in_front)) (λ is f. not_there is))
    (λ is. onward (start refl) (record { portal = in_again; listed = (1, omega arith, refl); from = refl; to = refl; follows = again_follows }))
    (λ is. start refl)
    (λ is. not_there is)

abbrev pub rows : List (List Bool)
rows = (false ∷ true ∷ true ∷ []) ∷ (true ∷ false ∷ false ∷ []) ∷ (false ∷ false ∷ true ∷ []) ∷ (true ∷ true ∷ false ∷ []) ∷ []

pub coarse_rows : AreCoarseRows portals 3 rows
coarse_rows = (out_row, (in_row, (on_row, (back_row, tt))))

-- ---- the rows of the three leaves

-- no row has a place past the leaves
no_place : (place : ℕ) (row : List Bool) (k : ℕ) → slice_get rows place ≡ Some row → IsIn row (suc (suc (suc k))) → ⊥
no_place zero row k at is = past row k (let same : (false ∷ true ∷ true ∷ []) ≡ row = cc in ap length (sym same)) is
no_place (suc zero) row k at is = past row k (let same : (true ∷ false ∷ false ∷ []) ≡ row = cc in ap length (sym same)) is
no_place (suc (suc zero)) row k at is = past row k (let same : (false ∷ false ∷ true ∷ []) ≡ row = cc in ap length (sym same)) is
no_place (suc (suc (suc zero))) row k at is = past row k (let same : (true ∷ true ∷ false ∷ []) ≡ row = cc in ap length (sym same)) is
no_place (suc (suc (suc (suc place)))) row k at is = absurd cc

-- all three leaves
abbrev whole : List Bool
whole = true ∷ true ∷ true ∷ []

leaf_row : (n : ℕ) → n < 3 → IsInLeafRow portals rows n 0 → IsInLeafRow portals rows n 1 → IsInLeafRow portals rows n 2 → IsLeafRow portals rows 3 n whole
leaf_row n less zeroth first second = record { one_each = refl; exactly = λ k. (there k, within k) }
  where
    there : (k : ℕ) → IsIn whole k → IsInLeafRow portals rows n k
    there zero is = zeroth
    there (suc zero) is = first
    there (suc (suc zero)) is = second
    there (suc (suc (suc k))) is = not_there is

    within : (k : ℕ) → IsInLeafRow portals rows n k → IsIn whole k
    within zero in_row = refl
    within (suc zero) in_row = refl
    within (suc (suc zero)) in_row = refl
    within (suc (suc (suc k))) in_row = ⊎_elim (λ same. absurd (omega (arith, same, less))) (λ seen. absurd (no_place seen.place seen.row k seen.row_is seen.seen)) in_row

-- one portal leaves leaf 0, and shows the others; two leave leaf 1, one to either side; one leaves leaf 2
first_row : IsLeafRow portals rows 3 0 whole
first_row = leaf_row 0 (omega arith) (inl refl)
    (inr (record { place = 0; portal = out; row = false ∷ true ∷ true ∷ []; portal_is = refl; row_is = refl; from = refl; seen = refl }))
    (inr (record { place = 0; portal = out; row = false ∷ true ∷ true ∷ []; portal_is = refl; row_is = refl; from = refl; seen = refl }))

middle_row : IsLeafRow portals rows 3 1 whole
middle_row = leaf_row 1 (omega arith)
    (inr (record { place = 1; portal = in_again; row = true ∷ false ∷ false ∷ []; portal_is = refl; row_is = refl; from = refl; seen = refl }))
    (inl refl)
    (inr (record { place = 2; portal = on; row = false ∷ false ∷ true ∷ []; portal_is = refl; row_is = refl; from = refl; seen = refl }))

last_row : IsLeafRow portals rows 3 2 whole
last_row = leaf_row 2 (omega arith)
    (inr (record { place = 3; portal = back; row = true ∷ true ∷ false ∷ []; portal_is = refl; row_is = refl; from = refl; seen = refl }))
    (inr (record { place = 3; portal = back; row = true ∷ true ∷ false ∷ []; portal_is = refl; row_is = refl; from = refl; seen = refl }))
    (inl refl)

abbrev pub leaf_rows : List (List Bool)
leaf_rows = (true ∷ true ∷ true ∷ []) ∷ (true ∷ true ∷ true ∷ []) ∷ (true ∷ true ∷ true ∷ []) ∷ []

pub are_leaf_rows : AreLeafRows portals rows 3 leaf_rows
are_leaf_rows = record { one_each = refl; each = each }
  where
    each : (n : ℕ) (row : List Bool) → slice_get leaf_rows n ≡ Some row → IsLeafRow portals rows 3 n row
    each zero row at = subst (IsLeafRow portals rows 3 0) (let same : whole ≡ row = cc in same) first_row
    each (suc zero) row at = subst (IsLeafRow portals rows 3 1) (let same : whole ≡ row = cc in same) middle_row
    each (suc (suc zero)) row at = subst (IsLeafRow portals rows 3 2) (let same : whole ≡ row = cc in same) last_row
    each (suc (suc (suc n))) row at = absurd cc
