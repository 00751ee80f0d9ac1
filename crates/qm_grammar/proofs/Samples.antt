-- Worked rows: what some short texts mean.
use Rattle.std.proofs.Common.{◌≡◌, ℕ, pos, neg_ℤ, List, [], ◌∷◌, codes, Ok, Err, refl, subst}
use Rattle.qm_tokens.specs.inner.Modes.{read}
use Rattle.qm_numbers.specs.Gcd.{gcd, gcd_within}
use Rattle.qm_numbers.proofs.Divisors.{divisor_of_four}
use Rattle.qm_space.specs.ThreePoints.{outward_plane, in_space, factor_of, common_factor, reduced, plane_through}
use Rattle.qm_numerals.specs.Computed.{answer_of_parts, unsigned_at, read_at}
use Rattle.qm_mapfile.specs.declared.face.Face.{Face}
use Rattle.qm_mapfile.specs.declared.face.Mapping.TheVariants.{Standard, Valve}
use Rattle.qm_mapfile.specs.declared.entity.MapFile.{MapFile}
use Rattle.qm_grammar.specs.declared.fault.MapFault.TheVariants as fault
use Rattle.qm_grammar.specs.Symbol.{mark_of_byte, sort_of}
use Rattle.qm_grammar.specs.Origin.{origin_key}
use Rattle.qm_grammar.specs.Meaning.{IsMapText, Means}
use Rattle.qm_grammar.specs.inner.Machine.{coordinate_of, millionths_of, origin_of, span_plane, give_plane, plane_refusal, step_outside, step_entity, is_bad_origin, step_value, step_brush, step_mark, step_slot, step, meaning_of}
use Rattle.qm_grammar.proofs.Meanings.{means_meaning}

-- one entity with one pair and one brush, which has one face
pub sample_text : List ℕ
sample_text = codes "{ \"a\" \"b\" { ( 0 0 0 ) ( 0 1 0 ) ( 1 0 0 ) x 0 0 0 1 1 } }"

pub sample_face : Face
sample_face = record {
  points = (pos 0 ∷ pos 0 ∷ pos 0 ∷ []) ∷ (pos 0 ∷ pos 1000 ∷ pos 0 ∷ []) ∷ (pos 1000 ∷ pos 0 ∷ pos 0 ∷ []) ∷ [];
  texture = codes "x";
  mapping = Standard (codes "0" ∷ codes "0" ∷ codes "0" ∷ codes "1" ∷ codes "1" ∷ []);
}

pub sample_map : MapFile
sample_map = record {
  entities = (record {
    pairs = (record { key = codes "a"; value = codes "b" }) ∷ [];
    brushes = (record { faces = sample_face ∷ [] }) ∷ [];
  }) ∷ [];
}

sample_read : meaning_of sample_text ≡ Ok sample_map
unfolding sample_text sample_face sample_map meaning_of step step_outside step_entity step_value step_brush step_slot step_mark is_bad_origin give_plane plane_refusal span_plane plane_through reduced common_factor factor_of divisor_of_four gcd gcd_within in_space outward_plane coordinate_of read_at unsigned_at answer_of_parts sort_of mark_of_byte origin_key read
sample_read = refl

-- so texts of maps there are
pub sample_means : IsMapText sample_text sample_map
sample_means = subst (Means sample_text) sample_read (means_meaning sample_text)

-- the mapping with two axes, a quoted texture, a comment, and numbers as an editor writes them
pub axes_text : List ℕ
axes_text = codes "// a room\n{ { ( 64.000 0 0 ) ( +64 .5 0 ) ( 64 0 -0.125 ) \"a b\" [ 1 0 0 .5 ] [ 0 -1 0 0 ] 30 1 x{ } }"

pub axes_face : Face
axes_face = record {
  points = (pos 64000 ∷ pos 0 ∷ pos 0 ∷ []) ∷ (pos 64000 ∷ pos 500 ∷ pos 0 ∷ []) ∷ (pos 64000 ∷ pos 0 ∷ neg_ℤ (pos 125) ∷ []) ∷ [];
  texture = codes "a b";
  mapping = Valve (codes "1" ∷ codes "0" ∷ codes "0" ∷ codes ".5" ∷ codes "0" ∷ codes "-1" ∷ codes "0" ∷ codes "0" ∷ codes "30" ∷ codes "1" ∷ codes "x{" ∷ []);
}

pub axes_map : MapFile
axes_map = record {
  entities = (record { pairs = []; brushes = (record { faces = axes_face ∷ [] }) ∷ [] }) ∷ [];
}

axes_read : meaning_of axes_text ≡ Ok axes_map
unfolding axes_map meaning_of step step_outside step_entity step_value step_brush step_slot step_mark is_bad_origin origin_of millionths_of give_plane plane_refusal span_plane plane_through reduced common_factor factor_of divisor_of_four gcd gcd_within in_space outward_plane coordinate_of read_at unsigned_at answer_of_parts sort_of mark_of_byte origin_key read axes_text axes_face
axes_read = refl

-- ---- faults, each with its line

-- no token
no_token_row : meaning_of (codes "") ≡ Err (fault.NoEntity 1)
unfolding meaning_of step step_outside step_entity step_value step_brush step_slot step_mark is_bad_origin origin_of millionths_of give_plane plane_refusal span_plane plane_through reduced common_factor factor_of divisor_of_four gcd gcd_within in_space outward_plane coordinate_of read_at unsigned_at answer_of_parts sort_of mark_of_byte origin_key read
no_token_row = refl

-- no token of this sort
sort_row : meaning_of (codes "{ { x") ≡ Err (fault.Unexpected 1)
unfolding meaning_of step step_outside step_entity step_value step_brush step_slot step_mark is_bad_origin origin_of millionths_of give_plane plane_refusal span_plane plane_through reduced common_factor factor_of divisor_of_four gcd gcd_within in_space outward_plane coordinate_of read_at unsigned_at answer_of_parts sort_of mark_of_byte origin_key read
sort_row = refl

-- a text that ends inside a brush
inside_row : meaning_of (codes "{ {\n") ≡ Err (fault.EndInside 2)
unfolding meaning_of step step_outside step_entity step_value step_brush step_slot step_mark is_bad_origin origin_of millionths_of give_plane plane_refusal span_plane plane_through reduced common_factor factor_of divisor_of_four gcd gcd_within in_space outward_plane coordinate_of read_at unsigned_at answer_of_parts sort_of mark_of_byte origin_key read
inside_row = refl

-- a quote that is not closed, on the line of the quote
quote_row : meaning_of (codes "{\n\"a\n") ≡ Err (fault.UnclosedQuote 2)
unfolding meaning_of step step_outside step_entity step_value step_brush step_slot step_mark is_bad_origin origin_of millionths_of give_plane plane_refusal span_plane plane_through reduced common_factor factor_of divisor_of_four gcd gcd_within in_space outward_plane coordinate_of read_at unsigned_at answer_of_parts sort_of mark_of_byte origin_key read
quote_row = refl

-- a brush without a face, though no other sort of token but `(` may stand there
no_faces_row : meaning_of (codes "{ { }") ≡ Err (fault.NoFaces 1)
unfolding meaning_of step step_outside step_entity step_value step_brush step_slot step_mark is_bad_origin origin_of millionths_of give_plane plane_refusal span_plane plane_through reduced common_factor factor_of divisor_of_four gcd gcd_within in_space outward_plane coordinate_of read_at unsigned_at answer_of_parts sort_of mark_of_byte origin_key read
no_faces_row = refl

-- three points on one line, at the third `)`
normal_row : meaning_of (codes "{\n{\n( 0 0 0 ) ( 1 1 1 )\n( 2 2 2 ) x") ≡ Err (fault.NoNormal 4)
unfolding meaning_of step step_outside step_entity step_value step_brush step_slot step_mark is_bad_origin origin_of millionths_of give_plane plane_refusal span_plane plane_through reduced common_factor factor_of divisor_of_four gcd gcd_within in_space outward_plane coordinate_of read_at unsigned_at answer_of_parts sort_of mark_of_byte origin_key read
normal_row = refl

-- three points that give a plane, which is too fine, at the third `)`
fine_row : meaning_of (codes "{\n{\n( 4000 0.001 0 ) ( 0 0 0 )\n( 0 4000 0.001 ) x") ≡ Err (fault.PlaneTooFine 4)
unfolding meaning_of step step_outside step_entity step_value step_brush step_slot step_mark is_bad_origin origin_of millionths_of give_plane plane_refusal span_plane plane_through reduced common_factor factor_of divisor_of_four gcd gcd_within in_space outward_plane coordinate_of read_at unsigned_at answer_of_parts sort_of mark_of_byte origin_key read
fine_row = refl

-- points as far apart whose plane is not
coarse_row : meaning_of (codes "{\n{\n( 4000 0.5 0 ) ( 0 0 0 )\n( 0 4000 0.5 ) {") ≡ Err (fault.Unexpected 4)
unfolding meaning_of step step_outside step_entity step_value step_brush step_slot step_mark is_bad_origin origin_of millionths_of give_plane plane_refusal span_plane plane_through reduced common_factor factor_of divisor_of_four gcd gcd_within in_space outward_plane coordinate_of read_at unsigned_at answer_of_parts sort_of mark_of_byte origin_key read
coarse_row = refl

-- a coordinate outside the cube, with three decimals and with one too many
range_row : meaning_of (codes "{ { ( 32768.000 -32768 32768.001") ≡ Err (fault.CoordinateRange 1)
unfolding meaning_of step step_outside step_entity step_value step_brush step_slot step_mark is_bad_origin origin_of millionths_of give_plane plane_refusal span_plane plane_through reduced common_factor factor_of divisor_of_four gcd gcd_within in_space outward_plane coordinate_of read_at unsigned_at answer_of_parts sort_of mark_of_byte origin_key read
range_row = refl

beyond_row : meaning_of (codes "{ { ( 32768.0001") ≡ Err (fault.Fraction 1)
unfolding meaning_of step step_outside step_entity step_value step_brush step_slot step_mark is_bad_origin origin_of millionths_of give_plane plane_refusal span_plane plane_through reduced common_factor factor_of divisor_of_four gcd gcd_within in_space outward_plane coordinate_of read_at unsigned_at answer_of_parts sort_of mark_of_byte origin_key read
beyond_row = refl

-- a coordinate with a fourth decimal
fraction_row : meaning_of (codes "{ { ( 64.0000 +0.125 0.0005") ≡ Err (fault.Fraction 1)
unfolding meaning_of step step_outside step_entity step_value step_brush step_slot step_mark is_bad_origin origin_of millionths_of give_plane plane_refusal span_plane plane_through reduced common_factor factor_of divisor_of_four gcd gcd_within in_space outward_plane coordinate_of read_at unsigned_at answer_of_parts sort_of mark_of_byte origin_key read
fraction_row = refl

-- a word that is no number
number_row : meaning_of (codes "{ { ( 1e3") ≡ Err (fault.BadNumber 1)
unfolding meaning_of step step_outside step_entity step_value step_brush step_slot step_mark is_bad_origin origin_of millionths_of give_plane plane_refusal span_plane plane_through reduced common_factor factor_of divisor_of_four gcd gcd_within in_space outward_plane coordinate_of read_at unsigned_at answer_of_parts sort_of mark_of_byte origin_key read
number_row = refl

-- a quoted token in the place of a number
quoted_number_row : meaning_of (codes "{ { ( \"1\"") ≡ Err (fault.Unexpected 1)
unfolding meaning_of step step_outside step_entity step_value step_brush step_slot step_mark is_bad_origin origin_of millionths_of give_plane plane_refusal span_plane plane_through reduced common_factor factor_of divisor_of_four gcd gcd_within in_space outward_plane coordinate_of read_at unsigned_at answer_of_parts sort_of mark_of_byte origin_key read
quoted_number_row = refl

-- the first entity may have any origin, and another one has to be a point
origin_row : meaning_of (codes "{ \"origin\" \"1 2\" }\n{ \"origin\" \"1 2\" }") ≡ Err (fault.BadOrigin 2)
unfolding meaning_of step step_outside step_entity step_value step_brush step_slot step_mark is_bad_origin origin_of millionths_of give_plane plane_refusal span_plane plane_through reduced common_factor factor_of divisor_of_four gcd gcd_within in_space outward_plane coordinate_of read_at unsigned_at answer_of_parts sort_of mark_of_byte origin_key read
origin_row = refl

-- only the first origin of an entity counts
second_origin_row : meaning_of (codes "{ } { \"origin\" \" 1 -2.5 .25 \" \"origin\" \"1 2\"") ≡ Err (fault.EndInside 1)
unfolding meaning_of step step_outside step_entity step_value step_brush step_slot step_mark is_bad_origin origin_of millionths_of give_plane plane_refusal span_plane plane_through reduced common_factor factor_of divisor_of_four gcd gcd_within in_space outward_plane coordinate_of read_at unsigned_at answer_of_parts sort_of mark_of_byte origin_key read
second_origin_row = refl
