use Rattle.std.proofs.Common.{◌≡◌, ℕ, true, false, arith, ℤ, pos, ◌<ℤ◌, ◌≤ℤ◌, unsigned_abs, List, [], ◌∷◌, ◌++◌, Result, Ok, Err, w32, refl, sym, ap, ◌∙◌, append_assoc}
use Rattle.std.specs.Prelude.{OnOk, int_lt}
use Rattle.std.proofs.lemmas.Int.{ints, to_z-of_z}
use Rattle.qm_numerals.specs.Printed.{thousandths_text, signed_thousandths}
use Rattle.qm_numerals.proofs.Thousandths.{below_zero, not_below_zero}
use Rattle.qm_mapout.proofs.line.put_coordinate.Goals.{then-coordinate-lt0+in_ok-push, else-coordinate-lt0}
use Rattle.qm_mapout.proofs.line.put_coordinate.Goals as goal

below : (n : ℤ) → int_lt n (pos 0) ≡ true → n <ℤ pos 0
below n test = omega (arith, ints)

not_below : (n : ℤ) → int_lt n (pos 0) ≡ false → pos 0 ≤ℤ n
not_below n test = omega (arith, ints)

-- behind `-` where the number is below 0
put_below : {T E : Type 0} (result : Result T E) (new mid old : List ℕ) (n : ℤ) (m : ℕ) → OnOk result (new ≡ mid ++ thousandths_text m) → m ≡ unsigned_abs n → mid ≡ old ++ 45 ∷ [] → n <ℤ pos 0 → OnOk result (new ≡ old ++ signed_thousandths n)
put_below (Ok x) new mid old n m put size signed low =
    put
    ∙ ap (λ (t : List ℕ). t ++ thousandths_text m) signed
    ∙ append_assoc old (45 ∷ []) (thousandths_text m)
    ∙ ap (λ (k : ℕ). old ++ 45 ∷ thousandths_text k) size
    ∙ ap (λ (t : List ℕ). old ++ t) (sym (below_zero n low))
put_below (Err e) new mid old n m put size signed low = tt

put_plain : {T E : Type 0} (result : Result T E) (new mid old : List ℕ) (n : ℤ) (m : ℕ) → OnOk result (new ≡ mid ++ thousandths_text m) → m ≡ unsigned_abs n → mid ≡ old → pos 0 ≤ℤ n → OnOk result (new ≡ old ++ signed_thousandths n)
put_plain (Ok x) new mid old n m put size same high =
    put
    ∙ ap (λ (t : List ℕ). t ++ thousandths_text m) same
    ∙ ap (λ (k : ℕ). old ++ thousandths_text k) size
    ∙ ap (λ (t : List ℕ). old ++ t) (sym (not_below_zero n high))
put_plain (Err e) new mid old n m put size same high = tt

pub returns : goal.returns
returns c =
    let size = c.unsigned_abs.ensures.value ∙ ap unsigned_abs (to_z-of_z w32 c.args.coordinate c.ranges.coordinate) in
    elim c.if-coordinate-lt0.branch [
      | then-coordinate-lt0+in_ok-push w ↦
          put_below c.put_thousandths.result c.put_thousandths.new.out.items c.if-coordinate-lt0.out.items c.args.out.now.items c.args.coordinate c.unsigned_abs.result
          c.put_thousandths.ensures size (rw w.out-is w.in_ok-push.ensures.items)
          (below c.args.coordinate (rw (to_z-of_z w32 c.args.coordinate c.ranges.coordinate) at w.if-coordinate-lt0.true))
      | else-coordinate-lt0 w ↦
          put_plain c.put_thousandths.result c.put_thousandths.new.out.items c.if-coordinate-lt0.out.items c.args.out.now.items c.args.coordinate c.unsigned_abs.result
          c.put_thousandths.ensures size (rw w.out-is refl)
          (not_below c.args.coordinate (rw (to_z-of_z w32 c.args.coordinate c.ranges.coordinate) at w.if-coordinate-lt0.false))
    ]
