-- What a file answers can be printed.
use Rattle.std.proofs.Common.{◌≡◌, inl, inr, ℕ, Bool, true, false, List, [], length, Option, Some, None, Result, Ok, Err, refl, sym, subst}
use Rattle.std.specs.Prelude.{IfOk, ◌&&◌, nat_lt, slice_index_or, if◌then◌else◌}
use Rattle.qm_space.specs.Point.{Point}
use Rattle.qm_space.specs.InsideBound.{IsInsideBound}
use Rattle.qm_partition.specs.Tree.{Tree}
use Rattle.qm_spans.specs.SegmentTrace.{FitsTraces}
use Rattle.qm_formats.specs.TreeFile.{TreeFile}
use Rattle.qm_commands.specs.declared.millionths.Millionths.{Millionths}
use Rattle.qm_commands.specs.declared.query.Query.{Query}
use Rattle.qm_commands.specs.declared.query.Query.TheVariants as queries
use Rattle.qm_answers.specs.declared.answer.Answer.{Answer}
use Rattle.qm_answers.specs.declared.answer.Answer.TheVariants.{Hull, Trace, HullTrace, Model, ModelAt, Faces, Face, Row, Sees, Parts}
use Rattle.qm_answers.specs.declared.decoded_section.DecodedSection.{DecodedSection}
use Rattle.qm_answers.specs.declared.decoded_section.DecodedSection.TheVariants.{Missing, Bad, Known}
use Rattle.qm_answers.specs.declared.query_fault.QueryFault.{QueryFault}
use Rattle.qm_answers.specs.declared.query_fault.QueryFault.TheVariants.{OutsideCube, NoSuchLeaf, NoSuchFace, TooWide}
use Rattle.qm_model_layout.specs.BrushModel.{BrushModel}
use Rattle.qm_face_layout.specs.declared.face_record.FaceRecord.{FaceRecord}
use Rattle.qm_answers.specs.DecodedSections.{numbered_count, decoded_hull, decoded_models, decoded_faces}
use Rattle.qm_answers.specs.Answers.{answer_to_count, is_solid_at, answer_of_rows, AnswersWhere, AnswersBySection, AnswersByTree, AnswersHull, AnswersTrace, AnswersHullTrace, model_of_entity, answer_of_model, leaf_contents_at, AnswersModel, AnswersModelAt, AnswersFaceCount, answer_to_face, AnswersFace, AnswersQuery, HasEndsInside}
use Rattle.qm_answers.specs.Printable.{IsKnownTo, IsTraceable, IsPrintable}

-- ---- parts of answers

-- what is answered where something holds, holds
where_answered : (Holds : Type 0) (fault : QueryFault) (Answers : Result Answer QueryFault → Type 0) (answer : Answer) → AnswersWhere Holds fault Answers (Ok answer) → Holds × Answers (Ok answer)
where_answered Holds fault Answers answer (inl is) = is
where_answered Holds fault Answers answer (inr not_so) = let e = not_so.1 in absurd cc

module _ (file : TreeFile) where
  printed_as : (answer printed : Answer) → ◌≡◌ {A = Result Answer QueryFault} (Ok answer) (Ok printed) → IsPrintable file printed → IsPrintable file answer
  printed_as answer printed is printable = let same : answer ≡ printed = cc in subst (IsPrintable file) (sym same) printable

  -- ---- rows

  by_rows : (rows : Option (List (List Bool))) (of_rows : List (List Bool) → Answer) (answer : Answer) → ((rows : List (List Bool)) → IsPrintable file (of_rows rows)) → Ok answer ≡ answer_of_rows rows of_rows → IsPrintable file answer
  by_rows None of_rows answer each is = absurd cc
  by_rows (Some rows) of_rows answer each is = printed_as answer (of_rows rows) is (each rows)

  by_test : (test : Bool) (given : Result Answer QueryFault) (answer : Answer) → (Ok answer ≡ given → IsPrintable file answer) → Ok answer ≡ (if test then given else Err NoSuchLeaf) → IsPrintable file answer
  by_test true given answer then_printable is = then_printable is
  by_test false given answer then_printable is = absurd cc

  -- ---- traces

  by_tree : (tree : Tree) (trace answer : Answer) → AnswersByTree tree trace (Ok answer) → (FitsTraces tree → IsPrintable file trace) → IsPrintable file answer
  by_tree tree trace answer is printable =
      let both = where_answered (FitsTraces tree) TooWide (λ given. given ≡ Ok trace) answer is in
      printed_as answer trace both.1 (printable both.0)

  trace_printable : (from to : Millionths) (answer : Answer) → AnswersTrace file from to (Ok answer) → IsPrintable file answer
  unfolding AnswersTrace
  trace_printable from to answer is =
      let both = where_answered (HasEndsInside file.bound from to) OutsideCube (AnswersByTree file.tree (Trace from to)) answer is in
      by_tree file.tree (Trace from to) answer both.1 (λ fits. (both.0, fits))

  by_section : (section : DecodedSection TreeFile) (hull : ℕ) (from to : Millionths) (answer : Answer) → section ≡ decoded_hull file hull → HasEndsInside file.bound from to →
      AnswersBySection section (λ found. AnswersByTree found.tree (HullTrace hull from to)) (Ok answer) → IsPrintable file answer
  by_section Missing hull from to answer section_is inside is = absurd cc
  by_section Bad hull from to answer section_is inside is = absurd cc
  by_section (Known found) hull from to answer section_is inside is =
      by_tree found.tree (HullTrace hull from to) answer is
      (λ fits. subst (λ (section : DecodedSection TreeFile). IsKnownTo section (λ hull. IsTraceable file.bound hull.tree from to)) section_is (inside, fits))

  hull_trace_printable : (hull : ℕ) (from to : Millionths) (answer : Answer) → AnswersHullTrace file hull from to (Ok answer) → IsPrintable file answer
  unfolding AnswersHullTrace
  hull_trace_printable hull from to answer is =
      let both =
      where_answered (HasEndsInside file.bound from to) OutsideCube
      (AnswersBySection (decoded_hull file hull) (λ found. AnswersByTree found.tree (HullTrace hull from to))) answer is in
      by_section (decoded_hull file hull) hull from to answer refl both.0 both.1

  -- ---- hulls at a point

  by_hull : (section : DecodedSection TreeFile) (solid : TreeFile → Bool) (answer : Answer) → AnswersBySection section (λ found given. given ≡ Ok (Hull (solid found))) (Ok answer) → IsPrintable file answer
  by_hull Missing solid answer is = absurd cc
  by_hull Bad solid answer is = absurd cc
  by_hull (Known found) solid answer is = printed_as answer (Hull (solid found)) is tt

  hull_printable : (hull : ℕ) (point : Point) (answer : Answer) → AnswersHull file hull point (Ok answer) → IsPrintable file answer
  unfolding AnswersHull
  hull_printable hull point answer is =
      by_hull (decoded_hull file hull) (λ found. is_solid_at found.tree point) answer
      (where_answered (IsInsideBound file.bound point) OutsideCube
      (AnswersBySection (decoded_hull file hull) (λ found given. given ≡ Ok (Hull (is_solid_at found.tree point)))) answer is).1

  -- ---- models

  by_model : (found : Option BrushModel) (of_model : BrushModel → Answer) (answer : Answer) → ((model : BrushModel) → IsPrintable file (of_model model)) → Ok answer ≡ answer_of_model found of_model → IsPrintable file answer
  by_model None of_model answer each is = absurd cc
  by_model (Some model) of_model answer each is = printed_as answer (of_model model) is (each model)

  by_models : (section : DecodedSection (List BrushModel)) (entity : ℕ) (of_model : BrushModel → Answer) (answer : Answer) → ((model : BrushModel) → IsPrintable file (of_model model)) →
      AnswersBySection section (λ models given. given ≡ answer_of_model (model_of_entity models entity) of_model) (Ok answer) → IsPrintable file answer
  by_models Missing entity of_model answer each is = absurd cc
  by_models Bad entity of_model answer each is = absurd cc
  by_models (Known models) entity of_model answer each is = by_model (model_of_entity models entity) of_model answer each is

  model_printable : (entity : ℕ) (answer : Answer) → AnswersModel file entity (Ok answer) → IsPrintable file answer
  unfolding AnswersModel
  model_printable entity answer is = by_models (decoded_models file) entity (λ _. Model entity) answer (λ model. tt) is

  model_at_printable : (entity : ℕ) (point : Point) (answer : Answer) → AnswersModelAt file entity point (Ok answer) → IsPrintable file answer
  unfolding AnswersModelAt
  model_at_printable entity point answer is =
      let of_model : BrushModel → Answer = λ model. ModelAt entity (leaf_contents_at model.file.tree point) in
      by_models (decoded_models file) entity of_model answer (λ model. tt)
      (where_answered (IsInsideBound file.bound point) OutsideCube
      (AnswersBySection (decoded_models file) (λ models given. given ≡ answer_of_model (model_of_entity models entity) of_model)) answer is).1

  -- ---- faces

  by_faces : (section : DecodedSection (List FaceRecord)) (answer : Answer) → AnswersBySection section (λ faces given. given ≡ Ok (Faces (length faces))) (Ok answer) → IsPrintable file answer
  by_faces Missing answer is = absurd cc
  by_faces Bad answer is = absurd cc
  by_faces (Known faces) answer is = printed_as answer (Faces (length faces)) is tt

  face_count_printable : (answer : Answer) → AnswersFaceCount file (Ok answer) → IsPrintable file answer
  unfolding AnswersFaceCount
  face_count_printable answer is = by_faces (decoded_faces file) answer is

  by_face_test : (test : Bool) (n : ℕ) (answer : Answer) → ◌≡◌ {A = Result Answer QueryFault} (Ok answer) (if test then Ok (Face n) else Err NoSuchFace) → IsPrintable file answer
  by_face_test true n answer is = printed_as answer (Face n) is tt
  by_face_test false n answer is = absurd cc

  by_face : (section : DecodedSection (List FaceRecord)) (n : ℕ) (answer : Answer) → AnswersBySection section (λ faces given. given ≡ answer_to_face faces n) (Ok answer) → IsPrintable file answer
  by_face Missing n answer is = absurd cc
  by_face Bad n answer is = absurd cc
  by_face (Known faces) n answer is = by_face_test (nat_lt n (length faces)) n answer is

  face_printable : (n : ℕ) (answer : Answer) → AnswersFace file n (Ok answer) → IsPrintable file answer
  unfolding AnswersFace
  face_printable n answer is = by_face (decoded_faces file) n answer is

  -- ---- queries

  pub answers_are_printable : (query : Query) (answer : Answer) → AnswersQuery file query (Ok answer) → IsPrintable file answer
  unfolding AnswersQuery
  answers_are_printable queries.Count answer is = printed_as answer (answer_to_count file) is tt
  answers_are_printable (queries.At x y z) answer is = subst (IsPrintable file) (sym is.1.answer_is) tt
  answers_are_printable (queries.Hull hull x y z) answer is = hull_printable hull _ answer is
  answers_are_printable (queries.Trace from to) answer is = trace_printable from to answer is
  answers_are_printable (queries.HullTrace hull from to) answer is = hull_trace_printable hull from to answer is
  answers_are_printable (queries.Model entity) answer is = model_printable entity answer is
  answers_are_printable (queries.ModelAt entity x y z) answer is = model_at_printable entity _ answer is
  answers_are_printable queries.Faces answer is = face_count_printable answer is
  answers_are_printable (queries.Face n) answer is = face_printable n answer is
  answers_are_printable (queries.Row n) answer is =
      by_test (nat_lt n (numbered_count file)) (answer_of_rows file.rows (λ _. Row n)) answer (by_rows file.rows (λ _. Row n) answer (λ rows. tt)) is
  answers_are_printable (queries.Sees n m) answer is =
      by_test (nat_lt n (numbered_count file) && nat_lt m (numbered_count file)) (answer_of_rows file.rows (λ rows. Sees (slice_index_or (slice_index_or rows n []) m false))) answer
      (by_rows file.rows (λ rows. Sees (slice_index_or (slice_index_or rows n []) m false)) answer (λ rows. tt)) is
  answers_are_printable queries.Parts answer is = printed_as answer Parts is tt

  pub printable_if_answered : (query : Query) (given : Result Answer QueryFault) → AnswersQuery file query given → IfOk given (IsPrintable file)
  printable_if_answered query (Ok answer) is = answers_are_printable query answer is
  printable_if_answered query (Err fault) is = tt
