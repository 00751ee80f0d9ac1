use Rattle.std.proofs.Common.{◌≡◌, ◌∙◌, ◌++◌, ℕ, List, ap, subst, string_bytes, rules, to_z, of_z}
use Rattle.std.specs.Int.{w128}
use Rattle.std.specs.Prelude.{FitsSigned, OnOk}
use Rattle.qm_inspect.proofs.PrintedCorners.{word_of, three_more, taken_is}
use Rattle.qm_inspect.proofs.face_lines.put_coordinates.Goals as goal

pub returns : goal.returns
returns c =
    let p = c.args.point.now in
    let fits_x : FitsSigned w128 c.fraction-x.result.0 = search rules in
    let fits_y : FitsSigned w128 c.fraction-y.result.0 = search rules in
    let fits_z : FitsSigned w128 c.fraction-z.result.0 = search rules in
    let fits_w : FitsSigned w128 c.fraction-x.result.1 = search rules in
    let x : to_z w128 (of_z w128 c.fraction-x.result.0) ≡ p.x = taken_is c.fraction-x.result.0 p.x fits_x c.fraction-x.ensures.numerator in
    let y : to_z w128 (of_z w128 c.fraction-y.result.0) ≡ p.y = taken_is c.fraction-y.result.0 p.y fits_y c.fraction-y.ensures.numerator in
    let z : to_z w128 (of_z w128 c.fraction-z.result.0) ≡ p.z = taken_is c.fraction-z.result.0 p.z fits_z c.fraction-z.ensures.numerator in
    let w : to_z w128 (of_z w128 c.fraction-x.result.1) ≡ p.w = taken_is c.fraction-x.result.1 p.w fits_w c.fraction-x.ensures.denominator in
    let old = string_bytes c.args.text.now in
    let one = string_bytes c.put_coordinate.new.text in
    let two = string_bytes c.put_coordinate-2.new.text in
    let new = string_bytes c.put_coordinate-3.new.text in
    three_more old one two new (word_of p.x p.w) (word_of p.y p.w) (word_of p.z p.w) c.put_coordinate-3.result
    (c.in_ok-put_coordinate.ensures ∙ ap (λ (text : List ℕ). old ++ text) (λ i. word_of (x i) (w i)))
    (c.in_ok-put_coordinate-2.ensures ∙ ap (λ (text : List ℕ). one ++ text) (λ i. word_of (y i) (w i)))
    (subst (λ (text : List ℕ). OnOk c.put_coordinate-3.result (new ≡ two ++ text)) (λ i. word_of (z i) (w i)) c.put_coordinate-3.ensures)
