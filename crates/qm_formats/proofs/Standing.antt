-- Parts of a file that stand one behind the other.
use Rattle.std.proofs.Common.{◌≡◌, ◌≤◌, ℕ, ◌+◌, List, [], ◌++◌, length, drop, refl, sym, ap, ◌∙◌, arith, append_assoc}
use Rattle.std.proofs.lemmas.List.{length-append, drop-drop, drop_at}
use Rattle.qm_formats.specs.Exact.{StandsAt}

pub stands_nothing : (file : List ℕ) (at : ℕ) → at ≤ length file → StandsAt file at [] at
stands_nothing file at within = record { stands = refl; ends = omega arith; within = within }

pub stands_both : (file : List ℕ) (at : ℕ) (p : List ℕ) (mid : ℕ) (q : List ℕ) (next : ℕ) → StandsAt file at p mid → StandsAt file mid q next → StandsAt file at (p ++ q) next
stands_both file at p mid q next first second =
    record {
      stands = first.stands ∙ ap (λ (xs : List ℕ). p ++ xs) second.stands ∙ sym (append_assoc p q (drop next file));
      ends = omega (arith, first.ends, second.ends, length-append p q);
      within = second.within;
    }

-- what stands behind a part
pub behind_part : (file : List ℕ) (at : ℕ) (p rest : List ℕ) → drop at file ≡ p ++ rest → drop (at + length p) file ≡ rest
behind_part file at p rest stand = sym (drop-drop (length p) at file) ∙ ap (drop (length p)) stand ∙ drop_at p rest (length p) refl

pub stands_first : (file : List ℕ) (at : ℕ) (p q : List ℕ) (next : ℕ) → StandsAt file at (p ++ q) next → StandsAt file at p (at + length p)
stands_first file at p q next both =
    let behind : drop at file ≡ p ++ (q ++ drop next file) = both.stands ∙ append_assoc p q (drop next file) in
    record {
      stands = behind ∙ ap (λ (xs : List ℕ). p ++ xs) (sym (behind_part file at p (q ++ drop next file) behind));
      ends = refl;
      within = omega (arith, both.ends, both.within, length-append p q);
    }

pub stands_second : (file : List ℕ) (at : ℕ) (p q : List ℕ) (next : ℕ) → StandsAt file at (p ++ q) next → StandsAt file (at + length p) q next
stands_second file at p q next both =
    record {
      stands = behind_part file at p (q ++ drop next file) (both.stands ∙ append_assoc p q (drop next file));
      ends = omega (arith, both.ends, length-append p q);
      within = both.within;
    }
