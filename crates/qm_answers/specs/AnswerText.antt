use Rattle.std.specs.Prelude.{ℕ, ℤ, ◌+◌, Bool, List, [], ◌∷◌, ◌++◌, slice_get, slice_index_or, Option, Some, None, codes, if◌then◌else◌}
use Rattle.std.specs.Fmt.{decimal, signed_decimal}
use Rattle.qm_contents.specs.declared.contents.Contents.{Contents}
use Rattle.qm_contents.specs.declared.contents.Contents.TheVariants.{Empty, Solid, Water, Slime, Lava, Sky}
use Rattle.qm_space.specs.Cuboid.{Cuboid}
use Rattle.qm_space.specs.Plane.{Plane}
use Rattle.qm_space.specs.Point.{Point}
use Rattle.qm_partition.specs.declared.node.Leaf.{Leaf}
use Rattle.qm_partition.specs.Tree.{Tree}
use Rattle.qm_partition.specs.Counting.{leaves_of}
use Rattle.qm_spans.specs.declared.span.Span.{Span}
use Rattle.qm_spans.specs.SegmentTrace.{IsSegmentTrace}
use Rattle.qm_spans.proofs.ComputedSpans.{some_trace}
use Rattle.qm_formats.specs.TreeFile.{Section, TreeFile}
use Rattle.qm_model_layout.specs.BrushModel.{BrushModel}
use Rattle.qm_face_layout.specs.declared.face_record.FaceRecord.{FaceRecord}
use Rattle.qm_commands.specs.declared.millionths.Millionths.{Millionths}
use Rattle.qm_answers.specs.declared.answer.Answer.{Answer}
use Rattle.qm_answers.specs.declared.answer.Answer.TheVariants.{Count, Place, Hull, Trace, HullTrace, Model, ModelAt, Faces, Face, Row, Sees, Parts}
use Rattle.qm_answers.specs.declared.query_fault.QueryFault.{QueryFault}
use Rattle.qm_answers.specs.declared.query_fault.QueryFault.TheVariants.{OutsideCube, NoSuchLeaf, NoRows, NoPart, BadPart, NoSuchModel, NoSuchFace, TooWide}
use Rattle.qm_answers.specs.declared.decoded_section.DecodedSection.{DecodedSection}
use Rattle.qm_answers.specs.declared.decoded_section.DecodedSection.TheVariants.{Missing, Bad, Known}
use Rattle.qm_answers.specs.Answers.{point_of, model_of_entity}
use Rattle.qm_answers.specs.CornerText.{spaced_corners}
use Rattle.qm_answers.specs.DecodedSections.{decoded_hull, decoded_models, decoded_faces}

-- How answers and refusals are printed.

-- the names of contents
abbrev pub name_of_contents : Contents → List ℕ
name_of_contents Empty = codes "empty"
name_of_contents Solid = codes "solid"
name_of_contents Water = codes "water"
name_of_contents Slime = codes "slime"
name_of_contents Lava = codes "lava"
name_of_contents Sky = codes "sky"

-- the number of a leaf, where it has one
abbrev pub number_words : Option ℕ → List ℕ
number_words None = []
number_words (Some number) = codes " number " ++ decimal number

-- said where a leaf is filled
abbrev pub filled_words : Bool → List ℕ
filled_words filled = if filled then codes " filled" else []

abbrev pub yes_or_no : Bool → List ℕ
yes_or_no holds = if holds then codes "yes" else codes "no"

-- the numbers of the places that are set, each after a space; the first place has the number k
abbrev pub set_places : ℕ → List Bool → List ℕ
set_places k [] = []
set_places k (set ∷ row) = (if set then 32 ∷ decimal k else []) ++ set_places (k + 1) row

-- the row of a numbered leaf; one that is not there has no places
abbrev pub printed_row : TreeFile → ℕ → List Bool
printed_row file n = row_in file.rows
  where
    row_in : Option (List (List Bool)) → List Bool
    row_in None = []
    row_in (Some rows) = slice_index_or rows n []

-- numbers of what a list has, each after a space
abbrev pub spaced_numbers : {X : Type 0} → (X → ℕ) → List X → List ℕ
spaced_numbers number [] = []
spaced_numbers number (x ∷ rest) = 32 ∷ (decimal (number x) ++ spaced_numbers number rest)

-- the kinds of sections
abbrev pub section_kinds : List Section → List ℕ
section_kinds sections = spaced_numbers (λ (section : Section). section.kind) sections

-- the words of how much there is
unfoldable pub words_of_count : (planes nodes leaves numbered : ℕ) → Bool → List ℕ
words_of_count planes nodes leaves numbered rows =
    codes "planes " ++ (decimal planes ++ (codes " nodes " ++ (decimal nodes ++ (codes " leaves " ++ (decimal leaves
    ++ (codes " numbered " ++ (decimal numbered ++ (codes " rows " ++ yes_or_no rows))))))))

-- the words of the leaf at a point
unfoldable pub words_of_place : ℕ → Contents → Bool → Option ℕ → List ℕ
words_of_place leaf contents filled number =
    codes "leaf " ++ (decimal leaf ++ (32 ∷ (name_of_contents contents ++ (number_words number ++ filled_words filled))))

-- the words of what a hull is at a point
abbrev pub words_of_hull : Bool → List ℕ
words_of_hull solid = if solid then codes "hull solid" else codes "hull empty"

-- the words of a span of a leaf: where it ends is a fraction of the segment's length
unfoldable pub words_of_span : Leaf → Span → List ℕ
words_of_span found span =
    codes "leaf " ++ (decimal span.leaf ++ (32 ∷ (name_of_contents found.contents
    ++ (filled_words found.filled ++ (codes " to " ++ (decimal span.to.0 ++ (47 ∷ decimal span.to.1)))))))

-- those of a span of the leaf at a place; one that is not there has no words
abbrev pub words_of_span_of : Option Leaf → Span → List ℕ
words_of_span_of None span = []
words_of_span_of (Some found) span = words_of_span found span

abbrev pub span_words : Tree → Span → List ℕ
span_words tree span = words_of_span_of (slice_get (leaves_of tree.shape) span.leaf) span

-- spans, each on a line of its own after the line before
unfoldable pub words_of_later_spans : Tree → List Span → List ℕ
words_of_later_spans tree [] = []
words_of_later_spans tree (span ∷ spans) = 10 ∷ (span_words tree span ++ words_of_later_spans tree spans)

-- spans, each on a line of its own
unfoldable pub words_of_spans : Tree → List Span → List ℕ
words_of_spans tree [] = []
words_of_spans tree (span ∷ spans) = span_words tree span ++ words_of_later_spans tree spans

-- the trace of a segment; each has just one, and it does not matter how it is found
unfoldable pub trace_between : (tree : Tree) (a b : Point) → (spans : List Span) × IsSegmentTrace tree a b spans
trace_between tree a b = some_trace tree a b

-- the words of the trace of a segment
abbrev pub words_of_trace : Tree → (from to : Millionths) → List ℕ
words_of_trace tree from to = words_of_spans tree (trace_between tree (point_of from) (point_of to)).0

-- those of the trace through a hull; a hull that is not known has none
abbrev pub words_of_hull_trace : DecodedSection TreeFile → (from to : Millionths) → List ℕ
words_of_hull_trace Missing from to = []
words_of_hull_trace Bad from to = []
words_of_hull_trace (Known hull) from to = words_of_trace hull.tree from to

-- the words of a corner with whole coordinates
unfoldable pub words_of_corner : (x y z : ℤ) → List ℕ
words_of_corner x y z = signed_decimal x ++ (32 ∷ (signed_decimal y ++ (32 ∷ signed_decimal z)))

-- the low corner of a box, and then its high one
unfoldable pub words_of_box : Cuboid → List ℕ
words_of_box box = words_of_corner box.x.low box.y.low box.z.low ++ (32 ∷ words_of_corner box.x.high box.y.high box.z.high)

-- numbers of leaves
abbrev pub leaf_numbers : List ℕ → List ℕ
leaf_numbers leaves = spaced_numbers (λ (leaf : ℕ). leaf) leaves

-- the words of a model: its entity, its box and the leaves that it touches
unfoldable pub words_of_model : BrushModel → List ℕ
words_of_model model =
    codes "model " ++ (decimal model.entity ++ (codes " box " ++ (words_of_box model.box ++ (codes " leaves" ++ leaf_numbers model.leaves))))

-- those of the model of an entity; one that is not there has no words
abbrev pub words_of_found_model : Option BrushModel → List ℕ
words_of_found_model None = []
words_of_found_model (Some model) = words_of_model model

abbrev pub words_of_known_model : DecodedSection (List BrushModel) → ℕ → List ℕ
words_of_known_model Missing entity = []
words_of_known_model Bad entity = []
words_of_known_model (Known models) entity = words_of_found_model (model_of_entity models entity)

-- the words of what a model is at a point
unfoldable pub words_of_model_at : ℕ → Contents → List ℕ
words_of_model_at entity contents = codes "model " ++ (decimal entity ++ (32 ∷ name_of_contents contents))

-- the words of how many faces there are
unfoldable pub words_of_faces : ℕ → List ℕ
words_of_faces count = codes "faces " ++ decimal count

-- the words of the face of a number: its leaf, its brush, its place among the faces of the brush, and its corners
unfoldable pub words_of_face : List Plane → ℕ → ℕ → FaceRecord → List ℕ
words_of_face planes bound n face =
    codes "face " ++ (decimal n ++ (codes " leaf " ++ (decimal face.leaf ++ (codes " brush " ++ (decimal face.brush
    ++ (codes " face " ++ (decimal face.face ++ spaced_corners planes bound face.corners)))))))

-- those of the face of a number; one that is not there has no words
abbrev pub words_of_found_face : List Plane → ℕ → ℕ → Option FaceRecord → List ℕ
words_of_found_face planes bound n None = []
words_of_found_face planes bound n (Some face) = words_of_face planes bound n face

abbrev pub words_of_known_face : List Plane → ℕ → DecodedSection (List FaceRecord) → ℕ → List ℕ
words_of_known_face planes bound Missing n = []
words_of_known_face planes bound Bad n = []
words_of_known_face planes bound (Known faces) n = words_of_found_face planes bound n (slice_get faces n)

-- the words of the row of a numbered leaf
unfoldable pub words_of_row : TreeFile → ℕ → List ℕ
words_of_row file n = codes "row " ++ (decimal n ++ (58 ∷ set_places 0 (printed_row file n)))

-- the words of what a file says of itself
unfoldable pub words_of_parts : TreeFile → List ℕ
words_of_parts file =
    codes "version " ++ (decimal file.version ++ (codes " bound " ++ (decimal file.bound ++ (codes " parts" ++ section_kinds file.sections))))

-- the words of an answer
unfoldable pub answer_words : TreeFile → Answer → List ℕ
answer_words file (Count planes nodes leaves numbered rows) = words_of_count planes nodes leaves numbered rows
answer_words file (Place leaf contents filled number) = words_of_place leaf contents filled number
answer_words file (Hull solid) = words_of_hull solid
answer_words file (Trace from to) = words_of_trace file.tree from to
answer_words file (HullTrace hull from to) = words_of_hull_trace (decoded_hull file hull) from to
answer_words file (Model entity) = words_of_known_model (decoded_models file) entity
answer_words file (ModelAt entity contents) = words_of_model_at entity contents
answer_words file (Faces count) = words_of_faces count
answer_words file (Face n) = words_of_known_face file.tree.planes file.bound (decoded_faces file) n
answer_words file (Row n) = words_of_row file n
answer_words file (Sees sees) = yes_or_no sees
answer_words file Parts = words_of_parts file

-- the line of an answer, or its lines
abbrev pub answer_line : TreeFile → Answer → List ℕ
answer_line file answer = answer_words file answer ++ (10 ∷ [])

-- what is said of a refusal
abbrev pub words_of_refusal : QueryFault → List ℕ
words_of_refusal OutsideCube = codes "outside the cube"
words_of_refusal NoSuchLeaf = codes "no such leaf"
words_of_refusal NoRows = codes "no rows"
words_of_refusal NoPart = codes "no part"
words_of_refusal BadPart = codes "bad part"
words_of_refusal NoSuchModel = codes "no such model"
words_of_refusal NoSuchFace = codes "no such face"
words_of_refusal TooWide = codes "plane too wide"
