-- A whole file is read exactly where it is the file of a valid tree and its rows, and not too long.
use Rattle.std.proofs.Common.{◌≡◌, ◌≤◌, ℕ, Bool, cond, List, length, sym, ap, ◌∙◌, inl, inr}
use Rattle.std.specs.Prelude.{IsTrue}
use Rattle.std.proofs.lemmas.Bool.{cases_lt, lt-ltb, le-ltb}
use Rattle.qm_formats.specs.Layout.{got, bad, Layout, read_to_end, read_whole_file}
use Rattle.qm_formats.specs.Fields.{AreBytes}
use Rattle.qm_formats.specs.Exact.{IsExact}
use Rattle.qm_formats.specs.FileParts.{trailing, too_long}
use Rattle.qm_formats.specs.TreeFile.{TreeFile}
use Rattle.qm_formats.specs.FileLayout.{file_layout, file_bytes, file_limit, read_file, IsFileOf}
use Rattle.qm_formats.proofs.ReadToEnd.{IsAll, all_found, all_again, read_ends}
use Rattle.qm_formats.proofs.ExactFile.{file_exact}
use Rattle.qm_formats.proofs.ValidFiles.{right_valid, valid_right}

module _ {F X : Type 0} (layout : Layout F X) (exact : IsExact layout) (limit : ℕ) (long behind : F) (file : List ℕ) where
  read_small : length file ≤ limit → read_whole_file layout limit long behind file ≡ read_to_end layout behind file
  read_small fits = ap (λ (b : Bool). cond b (bad long limit) (read_to_end layout behind file)) (le-ltb limit (length file) fits)

  whole_found : (x : X) (next : ℕ) → AreBytes file → read_whole_file layout limit long behind file ≡ got x next → (length file ≤ limit) × IsAll layout exact behind file x next
  whole_found x next are is =
      elim (cases_lt limit (length file)) [
        | inl more ↦ absurd (let e = sym (ap (λ (b : Bool). cond b (bad long limit) (read_to_end layout behind file)) (lt-ltb limit (length file) more)) ∙ is in cc)
        | inr fits ↦ (fits, all_found layout exact behind file x next are (sym (read_small fits) ∙ is))
      ]

  whole_again : (x : X) → IsTrue (layout.right x) → file ≡ layout.bytes_of x → length file ≤ limit → read_whole_file layout limit long behind file ≡ got x (length file)
  whole_again x right bytes fits = read_small fits ∙ all_again layout exact behind file x right bytes

  whole_ends : (x : X) (next : ℕ) → AreBytes file → layout.read file 0 ≡ got x next → length file ≤ limit → length file ≤ next → read_whole_file layout limit long behind file ≡ got x (length file)
  whole_ends x next are is fits past = read_small fits ∙ read_ends layout exact behind file x next are is past

pub read_file_found : (file : List ℕ) (content : TreeFile) (next : ℕ) → AreBytes file → read_file file ≡ got content next → IsFileOf file content
unfolding read_file file_bytes
read_file_found file content next are is =
    let whole = whole_found file_layout file_exact file_limit too_long trailing file content next are is in
    record { valid = right_valid content whole.1.right; bytes_are = whole.1.bytes; fits = whole.0 }

pub read_file_again : (file : List ℕ) (content : TreeFile) → IsFileOf file content → read_file file ≡ got content (length file)
unfolding read_file file_bytes
read_file_again file content is =
    whole_again file_layout file_exact file_limit too_long trailing file content (valid_right content is.valid) is.bytes_are is.fits

-- bytes are those of one file at most
pub one_file_of : (bytes : List ℕ) (file other : TreeFile) → IsFileOf bytes file → IsFileOf bytes other → file ≡ other
one_file_of bytes file other is other_is =
    let e = sym (read_file_again bytes file is) ∙ read_file_again bytes other other_is in
    cc

-- a file is read, where what stands at its start is read and ends where it does
pub read_file_ends : (file : List ℕ) (content : TreeFile) (next : ℕ) → AreBytes file → file_layout.read file 0 ≡ got content next → length file ≤ file_limit → length file ≤ next → read_file file ≡ got content (length file)
unfolding read_file
read_file_ends file content next are is fits past = whole_ends file_layout file_exact file_limit too_long trailing file content next are is fits past
