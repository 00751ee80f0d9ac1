-- Rows of leaves over sound rows of portals hold both ends of each line of sight; coarse rows are sound.
use Rattle.std.proofs.Common.{◌≡◌, ◌≢◌, ℕ, zero, suc, Bool, List, [], ◌∷◌, length, get_or, Contains, Some, slice_get, refl, sym, ap, ◌∙◌, subst, arith, inl, inr}
use Rattle.std.specs.Prelude.{All}
use Rattle.std.specs.List.{AllZip}
use Rattle.std.proofs.lemmas.Option.{slice_get_within, slice_get-get_or}
use Rattle.std.proofs.lemmas.List.Elements.{All-head}
use Rattle.qm_lists.specs.WorkList.{IsIn}
use Rattle.qm_lists.proofs.Elements.{Contains-first, Contains-later}
use Rattle.qm_space.specs.Point.{Point, IsInCube}
use Rattle.qm_contents.specs.declared.contents.Contents.{Contents}
use Rattle.qm_contents.specs.declared.contents.Contents.TheVariants.{Solid}
use Rattle.qm_partition.specs.Tree.{Tree}
use Rattle.qm_partition.specs.LeafOfPoint.{leaf_at, leaf_record_at, IsOffNodePlanes}
use Rattle.qm_partition.specs.Marked.{marked_tree}
use Rattle.qm_partition.specs.Ways.{HasPoints}
use Rattle.qm_contacts.specs.Meeting.{meetings}
use Rattle.qm_contacts.specs.Touching.{Touching, AreTouchings}
use Rattle.qm_contacts.specs.NumberedLeaves.{numbered_leaves}
use Rattle.qm_contacts.specs.Portals.{Portal, portals_of}
use Rattle.qm_contacts.specs.PortalChain.{IsPortalBetween}
use Rattle.qm_contacts.specs.World.{World}
use Rattle.qm_contacts.specs.OwnPortals.{HasOwnPortals}
use Rattle.qm_coarse_rows.specs.CoarseRow.{IsCoarseRow, AreCoarseRows}
use Rattle.qm_coarse_rows.specs.LeafRow.{IsInLeafRow, AreLeafRows}
use Rattle.qm_segments.specs.Segment.{Segment, turned_round}
use Rattle.qm_segments.specs.Generic.{IsGeneric}
use Rattle.qm_segments.specs.Clear.{IsClear, LeafHas}
use Rattle.qm_segments.specs.GoesBy.{GoesBy, ends, through}
use Rattle.qm_segments.specs.Sight.{IsInSight, IsSoundRow, AreSoundRows}
use Rattle.qm_segments.specs.Ends.{HasInRow, HoldsEnds, HoldLinesOfSight}
use Rattle.qm_segments.proofs.GenericSegments.{turned_generic, turned_clear}
use Rattle.qm_segments.proofs.SegmentLaw.{segment_law}
use Rattle.qm_segments.proofs.CoarseSight.{coarse_holds_sight}
use Rattle.qm_segments.proofs.MarkedSegments.{marked_points, marked_touchings, marked_clear}

-- ---- two lists side by side

zip_at : {X Y : Type 0} (R : X → Y → Type 0) (xs : List X) (ys : List Y) (i : ℕ) (x : X) → AllZip R xs ys → slice_get xs i ≡ Some x → (y : Y) × (slice_get ys i ≡ Some y) × R x y
zip_at R [] ys i x zip at = absurd cc
zip_at R (first ∷ xs) [] i x zip at = absurd zip
zip_at R (first ∷ xs) (y ∷ ys) zero x zip at = (y, refl, subst (λ z. R z y) (let same : first ≡ x = cc in same) zip.0)
zip_at R (first ∷ xs) (y ∷ ys) (suc i) x zip at = zip_at R xs ys i x zip.1 at

zip_listed : {X Y : Type 0} (R S : X → Y → Type 0) (xs : List X) (ys : List Y) → ((x : X) (y : Y) → Contains xs x → R x y → S x y) → AllZip R xs ys → AllZip S xs ys
zip_listed R S [] [] gives zip = tt
zip_listed R S [] (y ∷ ys) gives zip = absurd zip
zip_listed R S (x ∷ xs) [] gives zip = absurd zip
zip_listed R S (x ∷ xs) (y ∷ ys) gives zip = (gives x y (Contains-first x xs) zip.0, zip_listed R S xs ys (λ z w there. gives z w (Contains-later x z xs there)) zip.1)

module _ (tree : Tree) (have : HasPoints tree) (touchings : List Touching) (are : AreTouchings tree.planes (meetings tree) touchings) where
  -- coarse rows are sound
  pub coarse_rows_sound : (leaves : ℕ) (rows : List (List Bool)) → AreCoarseRows (portals_of tree touchings) leaves rows → AreSoundRows tree (portals_of tree touchings) rows
  coarse_rows_sound leaves rows coarse =
      zip_listed (IsCoarseRow (portals_of tree touchings) leaves) (IsSoundRow tree) (portals_of tree touchings) rows
      (λ p row there is n sight. (is.exactly n).1 (coarse_holds_sight tree touchings are have p there n sight))
      coarse

  module _ (rows leaf_rows : List (List Bool)) (sound : AreSoundRows tree (portals_of tree touchings) rows) (leaf : AreLeafRows (portals_of tree touchings) rows (length (numbered_leaves tree)) leaf_rows) where
    first_sees : (s : Segment) (from to : ℕ) (chain : List Portal) → GoesBy (portals_of tree touchings) s s.from from chain to → All (λ q. IsInSight tree q to) chain → IsInLeafRow (portals_of tree touchings) rows from to
    first_sees s from to chain ends sight = inl refl
    first_sees s from to chain (through {q = q} {rest = rest} listed at between goes more) sight =
        let place = slice_get-get_or (portals_of tree touchings) listed.0 q listed.1 ∙ ap Some listed.2 in
        let found = zip_at (IsSoundRow tree) (portals_of tree touchings) rows listed.0 q sound place in
        inr (record { place = listed.0; portal = q; row = found.0; portal_is = place; row_is = found.1; from = at; seen = found.2 to (All-head (λ q. IsInSight tree q to) q rest sight) })

    -- the row of the first leaf has the last one
    pub has_end : (s : Segment) (contents : Contents) → IsGeneric tree s → contents ≢ Solid → IsClear (LeafHas tree) tree s contents → HasInRow tree leaf_rows (leaf_at tree.planes tree.shape s.from) (leaf_at tree.planes tree.shape s.to)
    has_end s contents generic not_solid clear =
        let whole = segment_law tree have touchings are s generic contents not_solid clear in
        let within = slice_get_within (numbered_leaves tree) whole.from _ whole.from_is in
        let there = slice_get-get_or leaf_rows whole.from [] (omega (arith, within, leaf.one_each)) in
        record {
          from = whole.from;
          to = whole.to;
          from_is = whole.from_is;
          to_is = whole.to_is;
          seen = ((leaf.each whole.from (get_or leaf_rows whole.from []) there).exactly whole.to).1 (first_sees s whole.from whole.to whole.chain whole.goes whole.sight);
        }

    -- and that of the last leaf the first, by the segment turned round
    pub has_both_ends : (s : Segment) (contents : Contents) → IsGeneric tree s → contents ≢ Solid → IsClear (LeafHas tree) tree s contents → HoldsEnds tree leaf_rows s
    has_both_ends s contents generic not_solid clear = record {
      there = has_end s contents generic not_solid clear;
      back = has_end (turned_round s) contents (turned_generic tree s generic) not_solid (turned_clear tree (LeafHas tree) s contents clear);
    }

-- the coarse rows of a world are sound
pub own_coarse_rows_sound : (world : World) → HasOwnPortals world → (leaves : ℕ) (rows : List (List Bool)) → AreCoarseRows world.portals leaves rows → AreSoundRows world.tree world.portals rows
own_coarse_rows_sound world own leaves rows coarse =
    subst (λ (portals : List Portal). AreSoundRows world.tree portals rows) (sym own.portals_are)
    (coarse_rows_sound world.tree own.have_points own.touchings own.are_touchings leaves rows (subst (λ (portals : List Portal). AreCoarseRows portals leaves rows) own.portals_are coarse))

-- ---- a map, whose tree is marked

module _ (row : List Bool) (tree : Tree) (have : HasPoints tree) (closed : (a b : ℕ) → IsPortalBetween tree a b → IsIn row a → IsIn row b) (has : Point → Contents → Type 0) (gives : (x : Point) → IsInCube x → IsOffNodePlanes tree.planes tree.shape x → has x (leaf_record_at tree.planes tree.shape x).contents) (single : (x : Point) (c d : Contents) → has x c → has x d → c ≡ d) (touchings : List Touching) (are : AreTouchings tree.planes (meetings tree) touchings) where
  -- rows over sound ones hold the ends of segments
  pub sound_rows_hold_ends : (rows leaf_rows : List (List Bool)) → AreSoundRows (marked_tree row tree) (portals_of (marked_tree row tree) touchings) rows → AreLeafRows (portals_of (marked_tree row tree) touchings) rows (length (numbered_leaves (marked_tree row tree))) leaf_rows → HoldLinesOfSight has (marked_tree row tree) leaf_rows
  sound_rows_hold_ends rows leaf_rows sound leaf s is =
      has_both_ends (marked_tree row tree) (marked_points row tree have) touchings (marked_touchings row tree touchings are) rows leaf_rows sound leaf s is.contents is.generic is.not_solid
      (marked_clear row tree have closed has gives single s is.contents is.not_solid is.generic is.clear is.not_filled)

  -- and so do rows over coarse ones
  pub coarse_rows_hold_ends : (rows leaf_rows : List (List Bool)) → AreCoarseRows (portals_of (marked_tree row tree) touchings) (length (numbered_leaves (marked_tree row tree))) rows → AreLeafRows (portals_of (marked_tree row tree) touchings) rows (length (numbered_leaves (marked_tree row tree))) leaf_rows → HoldLinesOfSight has (marked_tree row tree) leaf_rows
  coarse_rows_hold_ends rows leaf_rows coarse leaf =
      sound_rows_hold_ends rows leaf_rows
      (coarse_rows_sound (marked_tree row tree) (marked_points row tree have) touchings (marked_touchings row tree touchings are) (length (numbered_leaves (marked_tree row tree))) rows coarse)
      leaf
