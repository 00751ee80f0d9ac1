-- What is answered to several queries: one more, and that it is one text or one refusal.
use Rattle.std.proofs.Common.{◌≡◌, ℕ, zero, suc, ◌+◌, take, slice_get, Some, List, [], ◌∷◌, ◌++◌, length, Ok, Err, refl, sym, ap, subst, ◌∙◌, append_assoc, append-nil, arith}
use Rattle.qm_lists.proofs.Places.{take_next, length-take_at}
use Rattle.qm_formats.specs.TreeFile.{TreeFile}
use Rattle.qm_commands.specs.declared.query.Query.{Query}
use Rattle.qm_answers.specs.declared.answer.Answer.{Answer}
use Rattle.qm_answers.specs.declared.query_fault.QueryFault.{QueryFault}
use Rattle.qm_answers.specs.Answers.{AnswersQuery}
use Rattle.qm_answers.specs.AnswerText.{answer_line}
use Rattle.qm_answers.specs.AllAnswers.{AreAnswered, no_more, one_more, IsFirstRefused, here, later}
use Rattle.qm_answers.proofs.OneAnswer.{one_answer}

-- what comes before a place, what stands there, and what comes behind
split_at : (queries : List Query) (k : ℕ) (query : Query) → slice_get queries k ≡ Some query → (rest : List Query) × (take k queries ++ query ∷ rest ≡ queries)
split_at [] k query at = absurd cc
split_at (first ∷ queries) zero query at = (queries, cc)
split_at (first ∷ queries) (suc k) query at = let parts = split_at queries k query at in (parts.0, ap (λ (rest : List Query). first ∷ rest) parts.1)

module _ (file : TreeFile) where
  -- ---- one more

  pub answered_next : (done : List Query) (lines : List ℕ) (query : Query) (answer : Answer) → AreAnswered file done lines → AnswersQuery file query (Ok answer) → AreAnswered file (done ++ query ∷ []) (lines ++ answer_line file answer)
  answered_next [] [] query answer no_more is =
      subst (AreAnswered file (query ∷ [])) (append-nil (answer_line file answer)) (one_more answer is no_more)
  answered_next [] (_ ∷ _) query answer are is = elim are [ ]
  answered_next (first ∷ done) lines query answer (one_more {lines = rest} before first_is are) is =
      subst (AreAnswered file (first ∷ (done ++ query ∷ []))) (sym (append_assoc (answer_line file before) rest (answer_line file answer)))
      (one_more before first_is (answered_next done rest query answer are is))

  -- the first that is refused, behind some that are answered
  pub refused_next : (done rest : List Query) (lines : List ℕ) (query : Query) (fault : QueryFault) (k : ℕ) → AreAnswered file done lines → AnswersQuery file query (Err fault) → IsFirstRefused file k (done ++ query ∷ rest) (k + length done) fault
  refused_next [] rest lines query fault k are is =
      subst (λ (n : ℕ). IsFirstRefused file k (query ∷ rest) n fault) {x = k} {y = k + 0} (omega arith) (here is)
  refused_next (first ∷ done) rest lines query fault k (one_more {lines = later_lines} before first_is are) is =
      subst (λ (n : ℕ). IsFirstRefused file k (first ∷ (done ++ query ∷ rest)) n fault) {x = (k + 1) + length done} {y = k + suc (length done)} (omega arith)
      (later before first_is (refused_next done rest later_lines query fault (k + 1) are is))

  -- ---- the query at a place, behind those before it

  pub answered_at : (queries : List Query) (k : ℕ) (query : Query) (lines : List ℕ) (answer : Answer) → slice_get queries k ≡ Some query → AreAnswered file (take k queries) lines → AnswersQuery file query (Ok answer) → AreAnswered file (take (k + 1) queries) (lines ++ answer_line file answer)
  answered_at queries k query lines answer at are is =
      subst (λ (done : List Query). AreAnswered file done (lines ++ answer_line file answer)) (sym (take_next queries k query at) ∙ ap (λ (n : ℕ). take n queries) {x = suc k} {y = k + 1} (omega arith))
      (answered_next (take k queries) lines query answer are is)

  pub refused_at : (queries : List Query) (k : ℕ) (query : Query) (lines : List ℕ) (fault : QueryFault) → slice_get queries k ≡ Some query → AreAnswered file (take k queries) lines → AnswersQuery file query (Err fault) → IsFirstRefused file 1 queries (k + 1) fault
  refused_at queries k query lines fault at are is =
      let count = length-take_at queries k query at in
      let parts = split_at queries k query at in
      subst (λ (n : ℕ). IsFirstRefused file 1 queries n fault) {x = 1 + length (take k queries)} {y = k + 1} (omega (arith, count))
      (subst (λ (all : List Query). IsFirstRefused file 1 all (1 + length (take k queries)) fault) parts.1
      (refused_next (take k queries) parts.0 lines query fault 1 are is))

  -- ---- one text, or one refusal

  same_answer : (query : Query) (a b : Answer) → AnswersQuery file query (Ok a) → AnswersQuery file query (Ok b) → a ≡ b
  same_answer query a b is_a is_b = let e = one_answer file query (Ok a) (Ok b) is_a is_b in cc

  refused_otherwise : (query : Query) (a : Answer) (fault : QueryFault) → AnswersQuery file query (Ok a) → AnswersQuery file query (Err fault) → ⊥
  refused_otherwise query a fault is_a is = let e = one_answer file query (Ok a) (Err fault) is_a is in cc

  pub one_text : (queries : List Query) (a b : List ℕ) → AreAnswered file queries a → AreAnswered file queries b → a ≡ b
  one_text [] [] [] no_more no_more = refl
  one_text [] [] (_ ∷ _) is_a is_b = elim is_b [ ]
  one_text [] (_ ∷ _) b is_a is_b = elim is_a [ ]
  one_text (first ∷ queries) a b (one_more {lines = rest_a} one is_one rest_is_a) (one_more {lines = rest_b} other is_other rest_is_b) =
      ap (λ (answer : Answer). answer_line file answer ++ rest_a) (same_answer first one other is_one is_other)
      ∙ ap (λ (rest : List ℕ). answer_line file other ++ rest) (one_text queries rest_a rest_b rest_is_a rest_is_b)

  -- whatever number the first query has
  pub not_both : (queries : List Query) (lines : List ℕ) (k number : ℕ) (fault : QueryFault) → AreAnswered file queries lines → IsFirstRefused file k queries number fault → ⊥
  not_both [] lines k number fault are refused = elim refused [ ]
  not_both (first ∷ queries) lines k number fault (one_more answer is are) (here refused) = refused_otherwise first answer fault is refused
  not_both (first ∷ queries) lines k number fault (one_more {lines = rest} answer is are) (later other is_other refused) = not_both queries rest (k + 1) number fault are refused

  pub one_refusal : (queries : List Query) (k m n : ℕ) (a b : QueryFault) → IsFirstRefused file k queries m a → IsFirstRefused file k queries n b → (m ≡ n) × (a ≡ b)
  one_refusal [] k m n a b refused_a refused_b = elim refused_a [ ]
  one_refusal (first ∷ queries) k m n a b (here is_a) (here is_b) = let e = one_answer file first (Err a) (Err b) is_a is_b in (refl, cc)
  one_refusal (first ∷ queries) k m n a b (here is_a) (later answer is refused) = absurd (refused_otherwise first answer a is is_a)
  one_refusal (first ∷ queries) k m n a b (later answer is refused) (here is_b) = absurd (refused_otherwise first answer b is is_b)
  one_refusal (first ∷ queries) k m n a b (later one is_one refused_a) (later other is_other refused_b) = one_refusal queries (k + 1) m n a b refused_a refused_b
