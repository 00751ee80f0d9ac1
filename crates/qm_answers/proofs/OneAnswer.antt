-- A query has one answer, and a leaf one number.
use Rattle.std.proofs.Common.{◌≡◌, inl, inr, ℕ, true, false, length, Option, Some, None, slice_get, Result, Ok, Err, refl, sym, ap, ◌∙◌}
use Rattle.qm_space.specs.Point.{Point}
use Rattle.qm_partition.specs.declared.node.Leaf.{Leaf}
use Rattle.qm_partition.specs.Tree.{Tree}
use Rattle.qm_partition.specs.Counting.{leaves_of}
use Rattle.qm_partition.specs.LeafOfPoint.{leaf_at, leaf_record_at}
use Rattle.qm_contacts.specs.NumberedLeaves.{is_numbered}
use Rattle.qm_contacts.specs.Portals.{leaf_number}
use Rattle.qm_contacts.proofs.Numbers.{leaf_at_number, number_at_leaf}
use Rattle.qm_formats.specs.TreeFile.{TreeFile}
use Rattle.qm_commands.specs.declared.millionths.Millionths.{Millionths}
use Rattle.qm_commands.specs.declared.query.Query.{Query}
use Rattle.qm_commands.specs.declared.query.Query.TheVariants as queries
use Rattle.qm_answers.specs.declared.answer.Answer.{Answer}
use Rattle.qm_answers.specs.declared.answer.Answer.TheVariants.{Place, Hull, Trace, HullTrace, Model, ModelAt, Faces}
use Rattle.qm_answers.specs.declared.query_fault.QueryFault.{QueryFault}
use Rattle.qm_answers.specs.declared.decoded_section.DecodedSection.{DecodedSection}
use Rattle.qm_answers.specs.declared.decoded_section.DecodedSection.TheVariants.{Missing, Bad, Known}
use Rattle.qm_answers.specs.DecodedSections.{decoded_hull, decoded_models, decoded_faces}
use Rattle.qm_answers.specs.Answers.{IsNumberOfLeaf, IsPlaceAnswer, AnswersPlace, AnswersWhere, AnswersBySection, is_solid_at, AnswersHull, AnswersByTree, AnswersTrace, AnswersHullTrace, model_of_entity, answer_of_model, leaf_contents_at, AnswersModel, AnswersModelAt, AnswersFaceCount, answer_to_face, AnswersFace, AnswersQuery}

-- ---- numbers of leaves

-- a numbered leaf has as many numbered ones before it as its number says
pub numbered : (tree : Tree) (k : ℕ) (found : Leaf) → slice_get (leaves_of tree.shape) k ≡ Some found → is_numbered found ≡ true → IsNumberOfLeaf tree k (Some (leaf_number tree k))
numbered tree k found at test = leaf_at_number tree k found at test

-- a solid one has no number
pub not_numbered : (tree : Tree) (k : ℕ) (found : Leaf) → slice_get (leaves_of tree.shape) k ≡ Some found → is_numbered found ≡ false → IsNumberOfLeaf tree k None
not_numbered tree k found at test = λ number there.
    let is = number_at_leaf tree number k there in
    let e : Some found ≡ Some is.0 = sym at ∙ is.1 in
    let same : found ≡ is.0 = cc in
    let both : false ≡ true = sym test ∙ ap is_numbered same ∙ is.2 in
    absurd cc

one_number : (tree : Tree) (k : ℕ) (a b : Option ℕ) → IsNumberOfLeaf tree k a → IsNumberOfLeaf tree k b → b ≡ a
one_number tree k (Some a) (Some b) at_a at_b = ap Some (sym (number_at_leaf tree b k at_b).3 ∙ (number_at_leaf tree a k at_a).3)
one_number tree k (Some a) None at_a none = absurd (none a at_a)
one_number tree k None (Some b) none at_b = absurd (none b at_b)
one_number tree k None None none same = refl

-- ---- places

one_place : (tree : Tree) (point : Point) (a b : Answer) → IsPlaceAnswer tree point a → IsPlaceAnswer tree point b → b ≡ a
one_place tree point a b is_a is_b =
    let found = leaf_record_at tree.planes tree.shape point in
    let same = one_number tree (leaf_at tree.planes tree.shape point) is_a.number is_b.number is_a.is_number is_b.is_number in
    is_b.answer_is ∙ ap (λ (number : Option ℕ). Place (leaf_at tree.planes tree.shape point) found.contents found.filled number) same ∙ sym is_a.answer_is

one_place_answer : (file : TreeFile) (point : Point) (a b : Result Answer QueryFault) → AnswersPlace file point a → AnswersPlace file point b → b ≡ a
one_place_answer file point (Ok a) (Ok b) is_a is_b = ap Ok (one_place file.tree point a b is_a.1 is_b.1)
one_place_answer file point (Ok a) (Err b) is_a is_b = absurd (is_b.1 is_a.0)
one_place_answer file point (Err a) (Ok b) is_a is_b = absurd (is_a.1 is_b.0)
one_place_answer file point (Err a) (Err b) is_a is_b = ap Err (is_b.0 ∙ sym is_a.0)

-- ---- conditions and sections

-- one answer, of those that satisfy this
abbrev HasOne : (Result Answer QueryFault → Type 0) → Type 0
HasOne Answers = (a b : Result Answer QueryFault) → Answers a → Answers b → b ≡ a

one_where : (Holds : Type 0) (fault : QueryFault) (Answers : Result Answer QueryFault → Type 0) → HasOne Answers → HasOne (AnswersWhere Holds fault Answers)
one_where Holds fault Answers one a b (inl is_a) (inl is_b) = one a b is_a.1 is_b.1
one_where Holds fault Answers one a b (inl is_a) (inr not_b) = absurd (not_b.0 is_a.0)
one_where Holds fault Answers one a b (inr not_a) (inl is_b) = absurd (not_a.0 is_b.0)
one_where Holds fault Answers one a b (inr not_a) (inr not_b) = not_b.1 ∙ sym not_a.1

one_by_section : {X : Type 0} (section : DecodedSection X) (Answers : X → Result Answer QueryFault → Type 0) → ((content : X) → HasOne (Answers content)) → HasOne (AnswersBySection section Answers)
one_by_section Missing Answers one a b is_a is_b = is_b ∙ sym is_a
one_by_section Bad Answers one a b is_a is_b = is_b ∙ sym is_a
one_by_section (Known content) Answers one a b is_a is_b = one content a b is_a is_b

-- ---- hulls

one_hull_answer : (file : TreeFile) (hull : ℕ) (point : Point) → HasOne (AnswersHull file hull point)
unfolding AnswersHull
one_hull_answer file hull point =
    one_where _ _ _ (one_by_section (decoded_hull file hull) (λ found answer. answer ≡ Ok (Hull (is_solid_at found.tree point))) (λ found a b is_a is_b. is_b ∙ sym is_a))

-- ---- models

one_model_answer : (file : TreeFile) (entity : ℕ) → HasOne (AnswersModel file entity)
unfolding AnswersModel
one_model_answer file entity =
    one_by_section (decoded_models file) (λ models answer. answer ≡ answer_of_model (model_of_entity models entity) (λ _. Model entity)) (λ models a b is_a is_b. is_b ∙ sym is_a)

one_model_answer_at : (file : TreeFile) (entity : ℕ) (point : Point) → HasOne (AnswersModelAt file entity point)
unfolding AnswersModelAt
one_model_answer_at file entity point =
    one_where _ _ _
    (one_by_section (decoded_models file) (λ models answer. answer ≡ answer_of_model (model_of_entity models entity) (λ model. ModelAt entity (leaf_contents_at model.file.tree point)))
    (λ models a b is_a is_b. is_b ∙ sym is_a))

-- ---- faces

one_face_count : (file : TreeFile) → HasOne (AnswersFaceCount file)
unfolding AnswersFaceCount
one_face_count file = one_by_section (decoded_faces file) (λ faces answer. answer ≡ Ok (Faces (length faces))) (λ faces a b is_a is_b. is_b ∙ sym is_a)

one_face_answer : (file : TreeFile) (n : ℕ) → HasOne (AnswersFace file n)
unfolding AnswersFace
one_face_answer file n = one_by_section (decoded_faces file) (λ faces answer. answer ≡ answer_to_face faces n) (λ faces a b is_a is_b. is_b ∙ sym is_a)

-- ---- traces

one_by_tree : (tree : Tree) (trace : Answer) → HasOne (AnswersByTree tree trace)
one_by_tree tree trace = one_where _ _ _ (λ a b is_a is_b. is_b ∙ sym is_a)

one_trace_answer : (file : TreeFile) (from to : Millionths) → HasOne (AnswersTrace file from to)
unfolding AnswersTrace
one_trace_answer file from to = one_where _ _ _ (one_by_tree file.tree (Trace from to))

one_hull_trace_answer : (file : TreeFile) (hull : ℕ) (from to : Millionths) → HasOne (AnswersHullTrace file hull from to)
unfolding AnswersHullTrace
one_hull_trace_answer file hull from to =
    one_where _ _ _ (one_by_section (decoded_hull file hull) (λ found. AnswersByTree found.tree (HullTrace hull from to)) (λ found. one_by_tree found.tree (HullTrace hull from to)))

-- ---- queries

pub one_answer : (file : TreeFile) (query : Query) (a b : Result Answer QueryFault) → AnswersQuery file query a → AnswersQuery file query b → b ≡ a
unfolding AnswersQuery
one_answer file queries.Count a b is_a is_b = is_b ∙ sym is_a
one_answer file (queries.At x y z) a b is_a is_b = one_place_answer file _ a b is_a is_b
one_answer file (queries.Hull hull x y z) a b is_a is_b = one_hull_answer file hull _ a b is_a is_b
one_answer file (queries.Trace from to) a b is_a is_b = one_trace_answer file from to a b is_a is_b
one_answer file (queries.HullTrace hull from to) a b is_a is_b = one_hull_trace_answer file hull from to a b is_a is_b
one_answer file (queries.Model entity) a b is_a is_b = one_model_answer file entity a b is_a is_b
one_answer file (queries.ModelAt entity x y z) a b is_a is_b = one_model_answer_at file entity _ a b is_a is_b
one_answer file queries.Faces a b is_a is_b = one_face_count file a b is_a is_b
one_answer file (queries.Face n) a b is_a is_b = one_face_answer file n a b is_a is_b
one_answer file (queries.Row n) a b is_a is_b = is_b ∙ sym is_a
one_answer file (queries.Sees n m) a b is_a is_b = is_b ∙ sym is_a
one_answer file queries.Parts a b is_a is_b = is_b ∙ sym is_a
