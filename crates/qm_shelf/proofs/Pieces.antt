use Rattle.std.proofs.Common.{◌≡◌, ℕ, ◌+◌, ◌≤◌, List, ◌++◌, length, take, drop, Option, Some, None, inl, inr, sym, ap, ◌∙◌, arith}
use Rattle.std.proofs.lemmas.List.{take-take, take_all, length-take}
use Rattle.std.proofs.lemmas.Bool.{cases_lt}
use Rattle.qm_surroundings.specs.HeldFile.{bytes_of_file}
use Rattle.qm_shelf.specs.Writes.{IsAdded, IsPrefixAdded}
use Rattle.std.proofs.Math.Seq.{take-add}

-- A text that is read or written in pieces.

-- the first so many items, and then some of the first of a piece of those that follow, are the first of the items
pub prefix_with_piece : (items : List ℕ) (done part piece : ℕ) → (count : ℕ) × (take done items ++ take part (take piece (drop done items)) ≡ take count items)
prefix_with_piece items done part piece = elim (cases_lt part piece) [
  | inl less ↦ (done + part, ap (λ (next : List ℕ). take done items ++ next) (take-take part piece (drop done items) (omega arith)) ∙ sym (take-add done part items))
  | inr more ↦ (
    done + piece,
    ap (λ (next : List ℕ). take done items ++ next) (take_all part (take piece (drop done items)) (omega (arith, length-take piece (drop done items))))
        ∙ sym (take-add done piece items),
  )
]

-- a file that has the first so many items, and grew by a piece of those that follow
pub grown_by_all : (before after : Option (List ℕ)) (items : List ℕ) (done piece : ℕ) → before ≡ Some (take done items) → IsAdded before (take piece (drop done items)) after → after ≡ Some (take (done + piece) items)
grown_by_all before after items done piece had added =
    added ∙ ap (λ (file : Option (List ℕ)). Some (bytes_of_file file ++ take piece (drop done items))) had ∙ ap (λ (file : List ℕ). Some file) (sym (take-add done piece items))

-- the same, where it grew by some of the first of the piece
pub grown_by_part : (before after : Option (List ℕ)) (items : List ℕ) (done piece : ℕ) → before ≡ Some (take done items) → IsPrefixAdded before (take piece (drop done items)) after → (count : ℕ) × (after ≡ Some (take count items))
grown_by_part before None items done piece had grown = absurd grown
grown_by_part before (Some file) items done piece had grown =
    let all = prefix_with_piece items done grown.0 piece in
    (all.0, ap (λ (bytes : List ℕ). Some bytes) (grown.1 ∙ ap (λ (old : Option (List ℕ)). bytes_of_file old ++ take grown.0 (take piece (drop done items))) had ∙ all.1))

-- a text that grew by so many of the bytes that follow it
pub read_further : (bytes text longer : List ℕ) (done count : ℕ) → text ≡ take done bytes → longer ≡ text ++ take count (drop done bytes) → longer ≡ take (done + count) bytes
read_further bytes text longer done count so_far grew =
    grew ∙ ap (λ (old : List ℕ). old ++ take count (drop done bytes)) so_far ∙ sym (take-add done count bytes)

-- a text that has all bytes has the first so many of them
pub read_all : (bytes text : List ℕ) (done limit : ℕ) → text ≡ take done bytes → length bytes ≤ done → done ≤ limit → text ≡ take limit bytes
read_all bytes text done limit so_far end within =
    so_far ∙ take_all done bytes end ∙ sym (take_all limit bytes (omega arith))
