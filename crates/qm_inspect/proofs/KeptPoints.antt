-- Points as the code keeps their numbers, what is answered at them, and whether they are inside a cube.
use Rattle.std.proofs.Common.{◌≡◌, ◌∙◌, ◌<◌, ◌*◌, inl, inr, ℕ, ℤ, List, pos, unsigned_abs, FitsSigned, w64, refl, sym, subst, arith, Result, Ok, Err}
use Rattle.std.specs.Prelude.{◌↔◌, max}
use Rattle.std.proofs.lemmas.Int.{ints, to_z-of_z}
use Rattle.qm_numbers.proofs.Kept.{kept}
use Rattle.qm_space.specs.Point.{Point}
use Rattle.qm_partition.specs.Tree.{Tree}
use Rattle.qm_formats.specs.TreeFile.{TreeFile}
use Rattle.qm_model_layout.specs.BrushModel.{BrushModel}
use Rattle.qm_answers.specs.declared.answer.Answer.{Answer}
use Rattle.qm_answers.specs.declared.answer.Answer.TheVariants.{Hull, ModelAt}
use Rattle.qm_answers.specs.declared.decoded_section.DecodedSection.{DecodedSection}
use Rattle.qm_answers.specs.declared.query_fault.QueryFault.{QueryFault}
use Rattle.qm_answers.specs.declared.query_fault.QueryFault.TheVariants.{OutsideCube}
use Rattle.qm_answers.specs.Answers.{point_in_millionths, IsPlaceAnswer, AnswersPlace, AnswersBySection, is_solid_at, AnswersHull, leaf_contents_at, model_of_entity, answer_of_model, AnswersModelAt}
use Rattle.qm_inspect.specs.declared.parts.Parts.{Parts}
use Rattle.qm_inspect.specs.Parts.{ArePartsOf, hull_in}
use Rattle.qm_inspect.proofs.HullsOfFiles.{hull_of_file}
use Rattle.qm_space.specs.InsideBound.{IsInsideBound, IsWithinBound}

-- what the model of an entity is at a point
abbrev pub IsAtModel : ℕ → Point → List BrushModel → Result Answer QueryFault → Type 0
IsAtModel entity at models given = given ≡ answer_of_model (model_of_entity models entity) (λ model. ModelAt entity (leaf_contents_at model.file.tree at))

module _ (x y z : ℤ) (fx : FitsSigned w64 x) (fy : FitsSigned w64 y) (fz : FitsSigned w64 z) where
  abbrev kept_point : Point
  kept_point = point_in_millionths (kept w64 x) (kept w64 y) (kept w64 z)

  same_point : kept_point ≡ point_in_millionths x y z
  same_point = λ i. point_in_millionths (to_z-of_z w64 x fx i) (to_z-of_z w64 y fy i) (to_z-of_z w64 z fz i)

  -- a file of this bound has the point that is kept, and so the point, in its cube
  inside : (file : TreeFile) (bound : ℕ) → bound ≡ file.bound → IsInsideBound bound (point_in_millionths (kept w64 x) (kept w64 y) (kept w64 z)) → IsInsideBound file.bound (point_in_millionths x y z)
  inside file bound bound_is is = subst (λ (b : ℕ). IsInsideBound b (point_in_millionths x y z)) bound_is (subst (IsInsideBound bound) same_point is)

  module _ (file : TreeFile) (bound : ℕ) (point : Point) (bound_is : bound ≡ file.bound) (point_is : point ≡ point_in_millionths (kept w64 x) (kept w64 y) (kept w64 z)) (is_inside : IsInsideBound bound (point_in_millionths (kept w64 x) (kept w64 y) (kept w64 z))) where
    -- the answer at the point that is kept is one to the point, in a file of this tree
    pub kept_place : (tree : Tree) (answer : Answer) → tree ≡ file.tree → IsPlaceAnswer tree point answer → AnswersPlace file (point_in_millionths x y z) (Ok answer)
    kept_place tree answer tree_is is = (
      inside file bound bound_is is_inside,
      subst (λ (t : Tree). IsPlaceAnswer t (point_in_millionths x y z) answer) tree_is (subst (λ (at : Point). IsPlaceAnswer tree at answer) (point_is ∙ same_point) is),
    )

    -- and so in one of these parts
    pub kept_hull :
        (parts : Parts) (hull : ℕ) (section : DecodedSection TreeFile) (answer : Result Answer QueryFault) → ArePartsOf file parts → section ≡ hull_in parts hull →
        AnswersBySection section (λ found given. given ≡ Ok (Hull (is_solid_at found.tree point))) answer → AnswersHull file hull (point_in_millionths x y z) answer
    unfolding AnswersHull
    kept_hull parts hull section answer are section_is is = inl (
      inside file bound bound_is is_inside,
      subst (λ (of_file : DecodedSection TreeFile). AnswersBySection of_file (λ found given. given ≡ Ok (Hull (is_solid_at found.tree (point_in_millionths x y z)))) answer)
          (section_is ∙ hull_of_file file parts hull are)
          (subst (λ (at : Point). AnswersBySection section (λ found given. given ≡ Ok (Hull (is_solid_at found.tree at))) answer) (point_is ∙ same_point) is),
    )

    pub kept_model :
        (parts : Parts) (entity : ℕ) (answer : Result Answer QueryFault) → ArePartsOf file parts → AnswersBySection parts.models (IsAtModel entity point) answer →
        AnswersModelAt file entity (point_in_millionths x y z) answer
    unfolding AnswersModelAt
    kept_model parts entity answer are is = inl (
      inside file bound bound_is is_inside,
      subst (λ (section : DecodedSection (List BrushModel)). AnswersBySection section (IsAtModel entity (point_in_millionths x y z)) answer) are.models
          (subst (λ (at : Point). AnswersBySection parts.models (IsAtModel entity at) answer) (point_is ∙ same_point) is),
    )

  -- a point that is not inside when it is kept is not inside
  outside : (file : TreeFile) (bound : ℕ) → bound ≡ file.bound → (IsInsideBound bound (point_in_millionths (kept w64 x) (kept w64 y) (kept w64 z)) → ⊥) → IsInsideBound file.bound (point_in_millionths x y z) → ⊥
  outside file bound bound_is not_kept is =
      not_kept (subst (λ (b : ℕ). IsInsideBound b (point_in_millionths (kept w64 x) (kept w64 y) (kept w64 z))) (sym bound_is) (subst (IsInsideBound file.bound) (sym same_point) is))

  pub hull_outside :
      (file : TreeFile) (bound hull : ℕ) → bound ≡ file.bound → (IsInsideBound bound (point_in_millionths (kept w64 x) (kept w64 y) (kept w64 z)) → ⊥) → AnswersHull file hull (point_in_millionths x y z) (Err OutsideCube)
  unfolding AnswersHull
  hull_outside file bound hull bound_is not_kept = inr (outside file bound bound_is not_kept, refl)

  pub model_outside :
      (file : TreeFile) (bound entity : ℕ) → bound ≡ file.bound → (IsInsideBound bound (point_in_millionths (kept w64 x) (kept w64 y) (kept w64 z)) → ⊥) → AnswersModelAt file entity (point_in_millionths x y z) (Err OutsideCube)
  unfolding AnswersModelAt
  model_outside file bound entity bound_is not_kept = inr (outside file bound bound_is not_kept, refl)

-- ---- a coordinate in millionths

within : (bound : ℕ) (x : ℤ) → unsigned_abs x < bound * 1000000 → IsWithinBound bound x (pos 1000000)
within bound x near = record { above = omega (arith, ints, near); below = omega (arith, ints, near) }

near : (bound : ℕ) (x : ℤ) → IsWithinBound bound x (pos 1000000) → unsigned_abs x < bound * 1000000
near bound x is =
    let above = is.above in
    let below = is.below in
    omega (arith, ints, above, below)

-- a point is inside where the coordinate that is farthest from 0 is
pub inside_bound :
    (bound : ℕ) (x y z : ℤ) → (max (max (unsigned_abs x) (unsigned_abs y)) (unsigned_abs z) < bound * 1000000) ↔ IsInsideBound bound (point_in_millionths x y z)
inside_bound bound x y z = (
  λ farthest. record {
    weight = omega (arith, ints);
    x = within bound x (omega (arith, farthest));
    y = within bound y (omega (arith, farthest));
    z = within bound z (omega (arith, farthest));
  },
  λ is.
      let near_x = near bound x is.x in
      let near_y = near bound y is.y in
      let near_z = near bound z is.z in
      omega (arith, near_x, near_y, near_z),
)
