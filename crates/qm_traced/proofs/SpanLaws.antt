-- What the spans of a trace say of solids: points strictly within a span have the contents of its leaf, and where the segment
-- has a point strictly inside a solid of solid contents, some span is solid.
use Rattle.std.proofs.Common.{◌≡◌, ℕ, zero, suc, ◌+◌, ◌*◌, ◌<◌, pos, IsTrue, List, [], ◌∷◌, All, Contains, inl, inr, ⊎_elim, ap, sym, subst, ◌∙◌, arith}
use Rattle.std.specs.Prelude.{slice_get}
use Rattle.std.proofs.lemmas.Int.{ints}
use Rattle.qm_lists.proofs.Elements.{Contains-first, Contains-later}
use Rattle.qm_contents.specs.declared.contents.Contents.TheVariants.{Solid}
use Rattle.qm_space.specs.Point.{Point, IsInCube}
use Rattle.qm_space.specs.Reduced.{leads_positive, HasSmallNormal}
use Rattle.qm_space.proofs.Openness.{reach, moved_in_cell}
use Rattle.qm_solids.specs.Solid.{Solid as SolidRecord, inward}
use Rattle.qm_solids.specs.Holding.{IsInside, IsFull}
use Rattle.qm_partition.specs.Tree.{Tree}
use Rattle.qm_partition.specs.Counting.{leaves_of}
use Rattle.qm_partition.specs.LeafOfPoint.{leaf_record_at, leaf_at, IsOffNodePlanes}
use Rattle.qm_partition.proofs.LeafNumbers.{leaf_of_number}
use Rattle.qm_solid_tree.specs.GivesContents.{GivesContents, GivesContentsOrIsFilled}
use Rattle.qm_spans.specs.declared.span.Span.{Span}
use Rattle.qm_spans.specs.Place.{PlaceOnSegment, start_place, end_place, place_by_parts, IsEarlierPlace, point_on}
use Rattle.qm_spans.specs.Spans.{AreSpans}
use Rattle.qm_spans.specs.SegmentTrace.{IsSegmentTrace}
use Rattle.qm_spans.proofs.OneTrace.{IsNotLaterPlace, earlier_or_not, not_later_then_earlier, earlier_then_not_later}
use Rattle.qm_traced.specs.Within.{IsWithinSpan}
use Rattle.qm_traced.specs.SpanLeaves.{TellsContents, HasSolidSpan}
use Rattle.qm_traced.proofs.SegmentPoints.{segment_in_cube, parts_after, moved_on, moved_back, further_is_before, further_is_after, back_is_after, back_is_before}
use Rattle.qm_traced.proofs.PointsInSolids.{solid_at}

-- ---- contents within spans

module _ (leaf_of : Point → ℕ) (a b : Point) where
  -- a point strictly within a span has its leaf, and is a point of the segment
  pub leaf_within : (from to : PlaceOnSegment) (spans : List Span) (x : Point) (span : Span) → AreSpans leaf_of a b from to spans → IsWithinSpan a b from spans x span → (leaf_of x ≡ span.leaf) × ((i : ℕ) × (j : ℕ) × (0 < i + j) × (x ≡ point_on a b i j))
  leaf_within from to [] x span are within = absurd within
  leaf_within from to (first ∷ rest) x span are (inl here) =
      let at = here.0 in (
        ap leaf_of at.point_is ∙ are.0.leaf_is at.i at.j at.after at.before ∙ ap (λ (s : Span). s.leaf) here.1,
        (at.i, at.j, parts_after from at.i at.j at.after, at.point_is),
      )
  leaf_within from to (first ∷ rest) x span are (inr later) = leaf_within first.to to rest x span are.2 later

pub contents_within : (tree : Tree) (solids : List SolidRecord) (a b : Point) (spans : List Span) (x : Point) (span : Span) → GivesContentsOrIsFilled tree solids → IsInCube a → IsInCube b → IsSegmentTrace tree a b spans → IsWithinSpan a b start_place spans x span → IsOffNodePlanes tree.planes tree.shape x → TellsContents tree solids span x
contents_within tree solids a b spans x span gives in_a in_b trace within off =
    let is = leaf_within (leaf_at tree.planes tree.shape) a b start_place end_place spans x span trace within in
    let on = is.1 in
    let in_cube = subst IsInCube (sym on.3) (segment_in_cube a b on.0 on.1 on.2 in_a in_b) in
    record {
      found = leaf_record_at tree.planes tree.shape x;
      leaf_is = ap (slice_get (leaves_of tree.shape)) (sym is.0) ∙ leaf_of_number tree.planes tree.shape x;
      contents = gives.gives x in_cube off;
    }

-- ---- solid spans

module _ (tree : Tree) (solids : List SolidRecord) (a b : Point) (gives : GivesContents tree solids) (leads : All (λ h. IsTrue (leads_positive h)) tree.planes) (small : All HasSmallNormal tree.planes) (in_a : IsInCube a) (in_b : IsInCube b) (solid : SolidRecord) (listed : Contains solids solid) (full : IsFull solid) (is_solid : solid.contents ≡ Solid) where
  abbrev leaf_of : Point → ℕ
  leaf_of x = leaf_at tree.planes tree.shape x

  -- the span of a point inside the solid is solid
  solid_span : (spans : List Span) (span : Span) (i j : ℕ) → Contains spans span → 0 < i + j → IsInside solid (point_on a b i j) → leaf_at tree.planes tree.shape (point_on a b i j) ≡ span.leaf → HasSolidSpan tree spans
  solid_span spans span i j among some inside leaf_is =
      let x = point_on a b i j in
      record {
        span = span;
        listed = among;
        found = leaf_record_at tree.planes tree.shape x;
        leaf_is = ap (slice_get (leaves_of tree.shape)) (sym leaf_is) ∙ leaf_of_number tree.planes tree.shape x;
        solid = solid_at tree solids gives leads small solid x listed full is_solid (segment_in_cube a b i j some in_a in_b) inside;
      }

  one_more : (first : Span) (rest : List Span) → HasSolidSpan tree rest → HasSolidSpan tree (first ∷ rest)
  one_more first rest has = record { span = has.span; listed = Contains-later first has.span rest has.listed; found = has.found; leaf_is = has.leaf_is; solid = has.solid }

  -- where the point lies before the end, a point of its span a little further on is inside too
  before_end : (from to : PlaceOnSegment) (spans : List Span) (i j : ℕ) → 0 < i → 0 < from.1 → IsInside solid (point_on a b i j) → IsNotLaterPlace from (place_by_parts i j) → IsEarlierPlace (place_by_parts i j) to → AreSpans leaf_of a b from to spans → HasSolidSpan tree spans
  before_end from to [] i j some positive inside after before are =
      absurd (omega (arith, after, subst (λ (p : PlaceOnSegment). IsEarlierPlace (place_by_parts i j) p) (sym are) before))
  before_end from to (span ∷ rest) i j some positive inside after before are = ⊎_elim
      (λ within.
      let k : ℕ = suc (reach (inward solid) b + span.to.1) in
      let near = further_is_before i j k span.to (omega arith) within in
      let past = not_later_then_earlier from (place_by_parts i j) (place_by_parts (k * i) (k * j + 1)) positive after (further_is_after i j k some) in
      let x = subst (IsInside solid) (moved_on a b k i j) (moved_in_cell (inward solid) (point_on a b i j) b (pos k) (omega (arith, ints)) inside) in
      solid_span (span ∷ rest) span (k * i) (k * j + 1) (Contains-first span rest) (omega arith) x (are.0.leaf_is (k * i) (k * j + 1) past near))
      (λ not. one_more span rest (before_end span.to to rest i j some are.0.place.some inside not before are.2))
      (earlier_or_not (place_by_parts i j) span.to)

  -- where it lies after the start, one a little back is
  after_start : (from to : PlaceOnSegment) (spans : List Span) (i j : ℕ) → 0 < j → 0 < from.1 → IsInside solid (point_on a b i j) → IsEarlierPlace from (place_by_parts i j) → IsNotLaterPlace (place_by_parts i j) to → AreSpans leaf_of a b from to spans → HasSolidSpan tree spans
  after_start from to [] i j some positive inside after before are =
      absurd (omega (arith, before, subst (λ (p : PlaceOnSegment). IsEarlierPlace p (place_by_parts i j)) are after))
  after_start from to (span ∷ rest) i j some positive inside after before are = ⊎_elim
      (λ later. one_more span rest (after_start span.to to rest i j some are.0.place.some inside later before are.2))
      (λ not.
      let k : ℕ = suc (reach (inward solid) a + from.0) in
      let near = back_is_after i j k from (omega arith) after in
      let past = earlier_then_not_later (place_by_parts (k * i + 1) (k * j)) (place_by_parts i j) span.to are.0.place.some (back_is_before i j k some) not in
      let x = subst (IsInside solid) (moved_back a b k i j) (moved_in_cell (inward solid) (point_on a b i j) a (pos k) (omega (arith, ints)) inside) in
      solid_span (span ∷ rest) span (k * i + 1) (k * j) (Contains-first span rest) (omega arith) x (are.0.leaf_is (k * i + 1) (k * j) near past))
      (earlier_or_not span.to (place_by_parts i j))

  pub meets_solid : (spans : List Span) (i j : ℕ) → IsSegmentTrace tree a b spans → 0 < i + j → IsInside solid (point_on a b i j) → HasSolidSpan tree spans
  meets_solid spans (suc i) j trace some inside = before_end start_place end_place spans (suc i) j (omega arith) (omega arith) inside (omega arith) (omega arith) trace
  meets_solid spans zero (suc j) trace some inside = after_start start_place end_place spans zero (suc j) (omega arith) (omega arith) inside (omega arith) (omega arith) trace
  meets_solid spans zero zero trace some inside = absurd (omega (arith, some))
