-- A value with nothing behind it is read exactly where it can stand and its bytes are the whole file.
use Rattle.std.proofs.Common.{◌≡◌, ◌≤◌, ℕ, Bool, cond, ltb, List, [], ◌++◌, length, drop, sym, ap, subst, ◌∙◌, append-nil, arith, inl, inr}
use Rattle.std.specs.Prelude.{IsTrue}
use Rattle.std.proofs.lemmas.Bool.{cases_lt, lt-ltb, le-ltb}
use Rattle.std.proofs.lemmas.List.{drop_all}
use Rattle.qm_formats.specs.Layout.{Decoded, got, bad, Layout, decoded_then, read_to_end}
use Rattle.qm_formats.specs.Fields.{AreBytes}
use Rattle.qm_formats.specs.Exact.{StandsAt, IsExact}
use Rattle.qm_formats.proofs.ExactParts.{then_got}

module _ {F X : Type 0} (layout : Layout F X) (exact : IsExact layout) (file : List ℕ) where
  -- the bytes of a value are read whole
  pub read_own : (x : X) → IsTrue (layout.right x) → file ≡ layout.bytes_of x → layout.read file 0 ≡ got x (length file)
  read_own x right bytes =
      let all : drop (length file) file ≡ [] = drop_all (length file) file (omega arith) in
      let stands : StandsAt file 0 (layout.bytes_of x) (length file) = record {
        stands = bytes ∙ sym (append-nil (layout.bytes_of x)) ∙ ap (λ (xs : List ℕ). layout.bytes_of x ++ xs) (sym all);
        ends = ap length bytes ∙ omega arith;
        within = omega arith;
      } in
      exact.again file 0 x (length file) (record { right = right; stands = stands })

module _ {F X : Type 0} (layout : Layout F X) (exact : IsExact layout) (trailing : F) (file : List ℕ) where
  pub record IsAll (x : X) (next : ℕ) : Type 0 where
    pub right : IsTrue (layout.right x)
    pub bytes : file ≡ layout.bytes_of x
    pub ends : next ≡ length file

  pub all_found : (x : X) (next : ℕ) → AreBytes file → read_to_end layout trailing file ≡ got x next → IsAll x next
  all_found x next are is =
      let value = then_got (layout.read file 0) (λ x next. cond (ltb next (length file)) (bad trailing next) (got x next)) x next is in
      elim (cases_lt value.1 (length file)) [
        | inl less ↦ absurd (let e = sym (ap (λ (b : Bool). cond b (bad trailing value.1) (got value.0 value.1)) (lt-ltb value.1 (length file) less)) ∙ value.3 in cc)
        | inr past ↦
            let e = sym (ap (λ (b : Bool). cond b (bad trailing value.1) (got value.0 value.1)) (le-ltb value.1 (length file) past)) ∙ value.3 in
            let same : value.0 ≡ x = cc in
            let place : value.1 ≡ next = cc in
            let found = exact.found file 0 value.0 value.1 are (omega arith) value.2 in
            let nothing : drop value.1 file ≡ [] = drop_all value.1 file past in
            let bytes : file ≡ layout.bytes_of value.0 = found.stands.stands ∙ ap (λ (xs : List ℕ). layout.bytes_of value.0 ++ xs) nothing ∙ append-nil (layout.bytes_of value.0) in
            let all : IsAll value.0 value.1 = record { right = found.right; bytes = bytes; ends = omega (arith, past, found.stands.within) } in
            subst (λ (n : ℕ). IsAll x n) place (subst (λ (v : X). IsAll v value.1) same all)
      ]

  pub all_again : (x : X) → IsTrue (layout.right x) → file ≡ layout.bytes_of x → read_to_end layout trailing file ≡ got x (length file)
  all_again x right bytes =
      ap (λ (answer : Decoded F X). decoded_then answer (λ x next. cond (ltb next (length file)) (bad trailing next) (got x next))) (read_own layout exact file x right bytes)
      ∙ ap (λ (b : Bool). cond b (bad trailing (length file)) (got x (length file))) (le-ltb (length file) (length file) (omega arith))

  pub read_ends : (x : X) (next : ℕ) → AreBytes file → layout.read file 0 ≡ got x next → length file ≤ next → read_to_end layout trailing file ≡ got x (length file)
  read_ends x next are is past =
      let found = exact.found file 0 x next are (omega arith) is in
      let ends : next ≡ length file = omega (arith, past, found.stands.within) in
      ap (λ (answer : Decoded F X). decoded_then answer (λ x next. cond (ltb next (length file)) (bad trailing next) (got x next))) is
      ∙ ap (λ (b : Bool). cond b (bad trailing next) (got x next)) (le-ltb next (length file) past)
      ∙ ap (got x) ends
