-- Brushes that are added to a list, one after another.
use Rattle.std.proofs.Common.{◌≡◌, ℕ, ◌<◌, ◌≤◌, ◌+◌, Bool, true, false, cond, List, [], ◌∷◌, ◌++◌, length, get_or, take, drop, filter, All, Option, Some, None, refl, sym, ap, ◌∙◌, subst, arith}
use Rattle.std.specs.Prelude.{MatchOption, IsTrue, is_some, option_map, sum_by, flat_map}
use Rattle.std.specs.List.{AllZip, filter_map, cons_option}
use Rattle.std.proofs.lemmas.Grind.{flat_map-append}
use Rattle.std.proofs.lemmas.List.{take_all, take_more, take_at, drop_more, append_assoc, append-nil, map-append, take-append-drop, length-append, length-map}
use Rattle.std.proofs.lemmas.List.Sums.{sum_by-cons, sum_by-take-le}
use Rattle.std.proofs.lemmas.List.Elements.{AllZip-push, All-nil, All-push, All-head, All-tail, filter_map-append, filter-append}
use Rattle.qm_space.specs.Plane.{Plane}
use Rattle.qm_space.specs.Book.{AreBookPlanes}
use Rattle.qm_space.specs.Entered.{AreEnteredInBook, none}
use Rattle.qm_geom.proofs.EnteredPlanes.{more_entered, all_stay, length-all_entered}
use Rattle.qm_mapfile.specs.declared.entity.Brush.{Brush}
use Rattle.qm_contents.specs.declared.contents.Contents.{Contents}
use Rattle.qm_solids.specs.Solid.{Solid}
use Rattle.qm_solids.specs.Alike.{IsAlike}
use Rattle.qm_solids.specs.InBook.{BookSolid, solid_in, solids_in, IsKeptIn}
use Rattle.qm_drawn.specs.Brushes.{contents_of_brush, is_drawn}
use Rattle.qm_drawn.specs.Solids.{filled_with, solid_of_brush}
use Rattle.qm_drawn.specs.Planes.{plane_of_face, planes_of_brush}
use Rattle.qm_brush.specs.inner.Added.{IsBrushAdded, IsLeftOut, AreAdded}
use Rattle.qm_brush.specs.inner.Entered.{AreFirstEntered}
use Rattle.qm_brush.proofs.EnteredFaces.{Stay, still_numbered, same_outward}
use Rattle.qm_brush.proofs.AddedBrushes.{flag_with_planes}

-- ---- a book that has more planes

abbrev filled : Contents → List Plane → Solid
filled contents planes = record { contents = contents; outward = planes }

module _ (old new : List Plane) (stay : Stay old new) where
  still_kept : (solid : BookSolid) → IsKeptIn old solid → IsKeptIn new solid
  still_kept solid kept = record {
    numbered = still_numbered old new stay solid.faces kept.numbered;
    flag = flag_with_planes solid.full (solid_in old solid) (solid_in new solid) (sym (same_outward old new stay solid.faces kept.numbered)) kept.flag;
  }

  pub all_kept : (solids : List BookSolid) → All (IsKeptIn old) solids → All (IsKeptIn new) solids
  all_kept solids kept = λ k d within. still_kept (get_or solids k d) (kept k d within)

  pub same_solids : (solids : List BookSolid) → All (IsKeptIn old) solids → solids_in new solids ≡ solids_in old solids
  same_solids [] kept = refl
  same_solids (solid ∷ solids) kept =
      let first : solid_in new solid ≡ solid_in old solid =
      ap (λ (planes : List Plane). filled solid.contents planes) (same_outward old new stay solid.faces (All-head (IsKeptIn old) solid solids kept).numbered) in
      let rest = same_solids solids (All-tail (IsKeptIn old) solid solids kept) in
      ap (λ (s : Solid). s ∷ solids_in new solids) first ∙ ap (λ (those : List Solid). solid_in old solid ∷ those) rest

-- ---- one brush

module _ (brush : Brush) where
  its_solids : (contents : Option Contents) → contents_of_brush brush ≡ contents → filter_map solid_of_brush (brush ∷ []) ≡ cons_option (option_map (filled_with brush) contents) []
  its_solids contents is = ap (λ (o : Option Contents). cons_option (option_map (filled_with brush) o) []) is

  its_planes : (contents : Option Contents) → contents_of_brush brush ≡ contents → flat_map planes_of_brush (filter is_drawn (brush ∷ [])) ≡ flat_map planes_of_brush (cond (is_some contents) (brush ∷ []) [])
  its_planes contents is = ap (λ (o : Option Contents). flat_map planes_of_brush (cond (is_some o) (brush ∷ []) [])) is

module _ (brushes : List Brush) (brush : Brush) (list after : List BookSolid) (old mid new : List Plane) (those : AreAdded brushes list old mid) where
  solids_more : (contents : Option Contents) → contents_of_brush brush ≡ contents → filter_map solid_of_brush (brushes ++ brush ∷ []) ≡ filter_map solid_of_brush brushes ++ cons_option (option_map (filled_with brush) contents) []
  solids_more contents is = filter_map-append solid_of_brush brushes (brush ∷ []) ∙ ap (λ (s : List Solid). filter_map solid_of_brush brushes ++ s) (its_solids brush contents is)

  planes_more : (contents : Option Contents) → contents_of_brush brush ≡ contents → flat_map planes_of_brush (filter is_drawn (brushes ++ brush ∷ [])) ≡ flat_map planes_of_brush (filter is_drawn brushes) ++ flat_map planes_of_brush (cond (is_some contents) (brush ∷ []) [])
  planes_more contents is =
      ap (flat_map planes_of_brush) (filter-append is_drawn brushes (brush ∷ []))
      ∙ flat_map-append planes_of_brush (filter is_drawn brushes) (filter is_drawn (brush ∷ []))
      ∙ ap (λ (p : List Plane). flat_map planes_of_brush (filter is_drawn brushes) ++ p) (its_planes brush contents is)

  one_more_added : (contents : Option Contents) → contents_of_brush brush ≡ contents → MatchOption contents (IsLeftOut list after mid new) (λ c. IsBrushAdded brush c list after mid new) → AreAdded (brushes ++ brush ∷ []) after old new
  one_more_added None is left =
      let solids = solids_more None is ∙ append-nil (filter_map solid_of_brush brushes) in
      let planes = planes_more None is ∙ append-nil (flat_map planes_of_brush (filter is_drawn brushes)) in
      rw (left.same_brushes, left.same_book) (record {
        solids = subst (λ (s : List Solid). AllZip IsAlike s (solids_in mid list)) (sym solids) those.solids;
        kept = those.kept;
        planes = those.planes;
        entered = subst (λ (p : List Plane). AreEnteredInBook old p mid) (sym planes) those.entered;
      })
  one_more_added (Some contents) is added =
      let stay : Stay mid new = all_stay mid new (planes_of_brush brush) added.entered in
      let list_solids : solids_in new after ≡ solids_in mid list ++ solid_in new added.its ∷ [] =
      ap (solids_in new) added.added ∙ map-append (solid_in new) list (added.its ∷ []) ∙ ap (λ (s : List Solid). s ++ solid_in new added.its ∷ []) (same_solids mid new stay list those.kept) in
      let its_planes_all : flat_map planes_of_brush (brush ∷ []) ≡ planes_of_brush brush = append-nil (planes_of_brush brush) in
      record {
        solids =
            subst (λ (s : List Solid). AllZip IsAlike s (solids_in new after)) (sym (solids_more (Some contents) is))
            (subst (λ (s : List Solid). AllZip IsAlike (filter_map solid_of_brush brushes ++ filled_with brush contents ∷ []) s) (sym list_solids)
            (AllZip-push IsAlike (filter_map solid_of_brush brushes) (solids_in mid list) (filled_with brush contents) (solid_in new added.its) those.solids added.alike));
        kept = subst (All (IsKeptIn new)) (sym added.added) (All-push (IsKeptIn new) list added.its (all_kept mid new stay list those.kept) added.kept);
        planes = added.planes;
        entered =
            subst (λ (p : List Plane). AreEnteredInBook old p new) (sym (planes_more (Some contents) is ∙ ap (λ (p : List Plane). flat_map planes_of_brush (filter is_drawn brushes) ++ p) its_planes_all))
            (more_entered old mid new (flat_map planes_of_brush (filter is_drawn brushes)) (planes_of_brush brush) those.entered added.entered);
      }

-- ---- along a list of brushes

pub none_added : (brushes : List Brush) (book : List Plane) → AreBookPlanes book → AreAdded (take 0 brushes) [] book book
none_added brushes book planes = record { solids = tt; kept = All-nil (IsKeptIn book); planes = planes; entered = none }

-- no more planes than faces
planes_few : (brushes : List Brush) → length (flat_map planes_of_brush (filter is_drawn brushes)) ≤ sum_by (λ brush. length brush.faces) brushes
planes_few [] = omega arith
planes_few (brush ∷ brushes) = by_drawn (is_drawn brush) (planes_few brushes)
  where
    by_drawn : (drawn : Bool) → length (flat_map planes_of_brush (filter is_drawn brushes)) ≤ sum_by (λ brush. length brush.faces) brushes → length (flat_map planes_of_brush (cond drawn (brush ∷ filter is_drawn brushes) (filter is_drawn brushes))) ≤ sum_by (λ brush. length brush.faces) (brush ∷ brushes)
    by_drawn true rest =
        let n = length-append (planes_of_brush brush) (flat_map planes_of_brush (filter is_drawn brushes)) in
        let m = length-map brush.faces plane_of_face in
        omega (arith, n, m, rest, sum_by-cons (λ (b : Brush). length b.faces) brush brushes)
    by_drawn false rest = omega (arith, rest, sum_by-cons (λ (b : Brush). length b.faces) brush brushes)

module _ (brushes : List Brush) (i : ℕ) (list : List BookSolid) (old mid : List Plane) (those : AreAdded (take i brushes) list old mid) where
  pub next_added : (brush : Brush) (after : List BookSolid) (new : List Plane) → i < length brushes → brush ≡ get_or brushes i brush → MatchOption (contents_of_brush brush) (IsLeftOut list after mid new) (λ c. IsBrushAdded brush c list after mid new) → AreAdded (take (i + 1) brushes) after old new
  next_added brush after new within is this =
      subst (λ (bs : List Brush). AreAdded bs after old new) (sym (take_more brushes i brush within ∙ ap (λ (b : Brush). take i brushes ++ b ∷ []) (sym is)))
      (one_more_added (take i brushes) brush list after old mid new those (contents_of_brush brush) refl this)

  pub all_added : length brushes ≤ i → AreAdded brushes list old mid
  all_added past = subst (λ (bs : List Brush). AreAdded bs list old mid) (take_all i brushes past) those

  -- the book has room for the faces of another brush
  pub length-added : length mid ≤ length old + sum_by (λ brush. length brush.faces) brushes
  length-added =
      let n = length-all_entered old mid (flat_map planes_of_brush (filter is_drawn (take i brushes))) those.entered in
      let few = planes_few (take i brushes) in
      let part = sum_by-take-le (λ (brush : Brush). length brush.faces) brushes i in
      omega (arith, n, few, part)

  -- want of memory at a brush
  pub part_entered : (brush : Brush) (new : List Plane) → i < length brushes → brush ≡ get_or brushes i brush → IsTrue (is_drawn brush) → AreFirstEntered mid (planes_of_brush brush) new → (k : ℕ) × AreEnteredInBook old (take k (flat_map planes_of_brush (filter is_drawn brushes))) new
  part_entered brush new within is drawn part =
      let before : List Plane = flat_map planes_of_brush (filter is_drawn (take i brushes)) in
      let behind : List Plane = flat_map planes_of_brush (filter is_drawn (drop (i + 1) brushes)) in
      let parts : brushes ≡ take i brushes ++ brush ∷ drop (i + 1) brushes =
      sym (take-append-drop i brushes) ∙ ap (λ (bs : List Brush). take i brushes ++ bs) (drop_more brushes i brush within ∙ ap (λ (b : Brush). b ∷ drop (i + 1) brushes) (sym is)) in
      let kept : filter is_drawn (brush ∷ drop (i + 1) brushes) ≡ brush ∷ filter is_drawn (drop (i + 1) brushes) =
      ap (λ (b : Bool). cond b (brush ∷ filter is_drawn (drop (i + 1) brushes)) (filter is_drawn (drop (i + 1) brushes))) drawn in
      let whole : flat_map planes_of_brush (filter is_drawn brushes) ≡ (before ++ part.first) ++ (part.rest ++ behind) =
      ap (λ (bs : List Brush). flat_map planes_of_brush (filter is_drawn bs)) parts
      ∙ ap (flat_map planes_of_brush) (filter-append is_drawn (take i brushes) (brush ∷ drop (i + 1) brushes) ∙ ap (λ (bs : List Brush). filter is_drawn (take i brushes) ++ bs) kept)
      ∙ flat_map-append planes_of_brush (filter is_drawn (take i brushes)) (brush ∷ filter is_drawn (drop (i + 1) brushes))
      ∙ ap (λ (p : List Plane). before ++ (p ++ behind)) part.parts
      ∙ ap (λ (p : List Plane). before ++ p) (append_assoc part.first part.rest behind)
      ∙ sym (append_assoc before part.first (part.rest ++ behind)) in
      let front : take (length (before ++ part.first)) (flat_map planes_of_brush (filter is_drawn brushes)) ≡ before ++ part.first =
      ap (take (length (before ++ part.first))) whole ∙ take_at (before ++ part.first) (part.rest ++ behind) (length (before ++ part.first)) refl in
      (length (before ++ part.first), subst (λ (p : List Plane). AreEnteredInBook old p new) (sym front) (more_entered old mid new before part.first those.entered part.entered))
