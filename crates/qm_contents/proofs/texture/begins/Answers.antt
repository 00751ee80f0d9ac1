use Rattle.std.proofs.Common.{◌≡◌, List, ℕ, length, take, map, sym, ◌∙◌, ap, arith}
use Rattle.std.specs.Char.{to_ascii_lowercase}
use Rattle.std.specs.Prelude.{slice_range}
use Rattle.std.specs.Str.{str_to_ascii_lowercase}
use Rattle.std.proofs.lemmas.List.{take-map}
use Rattle.std.proofs.lemmas.Slice.Eq.{bytes_eq-Decides}
use Rattle.std.proofs.lemmas.Bool.Decides.{same_from_decides}
use Rattle.qm_contents.proofs.texture.begins.Goals as goal

first_small : (name first : List ℕ) (n : ℕ) → first ≡ slice_range name 0 n → map to_ascii_lowercase first ≡ take n (str_to_ascii_lowercase name)
first_small name first n is =
    let taken : first ≡ take n name = grind (arith, is) in
    ap (λ (bytes : List ℕ). map to_ascii_lowercase bytes) taken ∙ sym (take-map to_ascii_lowercase n name)

pub returns-in-Some : goal.returns-in-Some
returns-in-Some c =
    let name = c.args.name.now in
    let prefix = c.args.prefix.now in
    let small = first_small name c.in-Some.first.now (length prefix) c.in-Some.ensures.lookup.0.2 in
    let test = c.eq_ignore_ascii_case.ensures.test in
    same_from_decides _ _ (λ t. sym small ∙ test.0 t ∙ c.requires, λ e. test.1 (small ∙ e ∙ sym c.requires)) (bytes_eq-Decides (take (length prefix) (str_to_ascii_lowercase name)) prefix)
