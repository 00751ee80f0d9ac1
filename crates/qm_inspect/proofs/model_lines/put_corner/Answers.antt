use Rattle.std.proofs.Common.{◌≡◌, ◌++◌, ℕ, List, get_or, pos, rules, subst, w32, string_bytes}
use Rattle.std.specs.Prelude.{FitsSigned, OnOk}
use Rattle.std.proofs.lemmas.Int.{to_z-of_z}
use Rattle.qm_answers.specs.AnswerText.{words_of_corner}
use Rattle.qm_inspect.proofs.model_lines.put_corner.Goals as goal

pub returns : goal.returns
returns c =
    let x : FitsSigned w32 (get_or c.args.corner.now 0 (pos 0)) = search rules in
    let y : FitsSigned w32 (get_or c.args.corner.now 1 (pos 0)) = search rules in
    let z : FitsSigned w32 (get_or c.args.corner.now 2 (pos 0)) = search rules in
    subst (λ (words : List ℕ). OnOk c.put_coordinates.result (string_bytes c.put_coordinates.new.text ≡ string_bytes c.args.text.now ++ words))
    (λ i. words_of_corner (to_z-of_z w32 (get_or c.args.corner.now 0 (pos 0)) x i) (to_z-of_z w32 (get_or c.args.corner.now 1 (pos 0)) y i) (to_z-of_z w32 (get_or c.args.corner.now 2 (pos 0)) z i))
    c.put_coordinates.ensures
