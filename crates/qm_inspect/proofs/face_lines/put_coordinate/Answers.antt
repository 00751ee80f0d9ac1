use Rattle.std.proofs.Common.{◌≡◌, ◌∙◌, ◌++◌, ◌∷◌, [], ℕ, ℤ, pos, List, refl, sym, ap, subst, string_bytes, rules, arith}
use Rattle.std.specs.Int.{w128}
use Rattle.std.specs.Prelude.{FitsSigned, OnOk, int_lt, unsigned_abs}
use Rattle.std.proofs.lemmas.Int.{ints}
use Rattle.qm_numerals.specs.Printed.{printed_fraction}
use Rattle.qm_listing.proofs.RoundedCoordinates.{coordinate_printed}
use Rattle.qm_inspect.proofs.PrintedCorners.{taken_is}
use Rattle.qm_inspect.proofs.face_lines.put_coordinate.Goals as goal

abbrev fraction : ℤ → ℤ → List ℕ
fraction over under = printed_fraction (int_lt over (pos 0)) (unsigned_abs over) (unsigned_abs under) ++ (32 ∷ [])

pub returns : goal.returns
returns c =
    let over : FitsSigned w128 c.args.over = search rules in
    let under : FitsSigned w128 c.args.under = search rules in
    let printed = coordinate_printed c.args.over c.args.under (omega (arith, ints, c.requires.above_zero)) in
    subst (λ (words : List ℕ). OnOk c.put_spaced_fraction.result (string_bytes c.put_spaced_fraction.new.text ≡ string_bytes c.args.text.now ++ words))
    ((λ i. fraction (taken_is c.args.over c.args.over over refl i) (taken_is c.args.under c.args.under under refl i)) ∙ ap (λ (text : List ℕ). text ++ (32 ∷ [])) (sym printed))
    c.put_spaced_fraction.ensures
