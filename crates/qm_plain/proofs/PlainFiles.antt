-- A plain file is read in bytes exactly where they are its bytes.
use Rattle.std.proofs.Common.{◌≡◌, ℕ, Bool, true, false, cond, eqb, ◌&&◌, List, [], ◌∷◌, length, Option, Some, None, refl, sym, ap, ◌∙◌, subst, arith}
use Rattle.std.specs.Prelude.{is_none, MatchOption}
use Rattle.std.proofs.lemmas.Bool.{and_parts, and_from, eq-eqb, eqb-true}
use Rattle.qm_formats.specs.Layout.{Decoded, got, bad}
use Rattle.qm_formats.specs.Fields.{AreBytes, are_bytes}
use Rattle.qm_formats.specs.FileParts.{FileFaultKind}
use Rattle.qm_formats.specs.TreeFile.{Section, TreeFile}
use Rattle.qm_formats.specs.FileLayout.{read_file, IsFileOf}
use Rattle.qm_formats.proofs.ExactFields.{are_bytes-from, bytes-are}
use Rattle.qm_formats.proofs.FileBytes.{bytes_of_file}
use Rattle.qm_formats.proofs.WholeFile.{read_file_found, read_file_again}
use Rattle.qm_plain.specs.PlainFile.{IsPlainFile, ArePlainBytes, is_plain, plain_of, read_plain}

no_rows_from : (rows : Option (List (List Bool))) → is_none rows ≡ true → rows ≡ None
no_rows_from None is = refl
no_rows_from (Some rows) is = absurd cc

no_sections_from : (sections : List Section) → eqb (length sections) 0 ≡ true → sections ≡ []
no_sections_from [] is = refl
no_sections_from (section ∷ sections) is = absurd (let e = eqb-true (length (section ∷ sections)) 0 is in omega (arith, e))

-- a file passes the test where it is plain
plain_from_test : (bound : ℕ) (file : TreeFile) → is_plain bound file ≡ true → IsPlainFile bound file
plain_from_test bound file is =
    let alone = is_none file.rows && eqb (length file.sections) 0 in
    let version = and_parts (eqb file.version 2) (eqb file.bound bound && alone) is in
    let its_bound = and_parts (eqb file.bound bound) alone version.1 in
    let parts = and_parts (is_none file.rows) (eqb (length file.sections) 0) its_bound.1 in
    record {
      version = eqb-true file.version 2 version.0;
      bound_is = eqb-true file.bound bound its_bound.0;
      no_rows = no_rows_from file.rows parts.0;
      no_sections = no_sections_from file.sections parts.1;
    }

test_from_plain : (bound : ℕ) (file : TreeFile) → IsPlainFile bound file → is_plain bound file ≡ true
test_from_plain bound file is =
    let alone = is_none file.rows && eqb (length file.sections) 0 in
    and_from (eqb file.version 2) (eqb file.bound bound && alone) (eq-eqb file.version 2 is.version)
    (and_from (eqb file.bound bound) alone (eq-eqb file.bound bound is.bound_is)
    (and_from (is_none file.rows) (eqb (length file.sections) 0) (ap is_none is.no_rows) (ap (λ (sections : List Section). eqb (length sections) 0) is.no_sections)))

-- what is kept of a file that was read
kept_plain : (plain : Bool) (read file : TreeFile) → ◌≡◌ {A = Option TreeFile} (cond plain (Some read) None) (Some file) → (plain ≡ true) × (read ≡ file)
kept_plain true read file is = (refl, cc)
kept_plain false read file is = absurd cc

module _ (bound : ℕ) (bytes : List ℕ) (file : TreeFile) where
  by_reading : (read : Decoded FileFaultKind TreeFile) → AreBytes bytes → read_file bytes ≡ read → plain_of bound read ≡ Some file → ArePlainBytes bound bytes file
  by_reading (got found next) are is kept =
      let both = kept_plain (is_plain bound found) found file kept in
      let content = subst (IsFileOf bytes) both.1 (read_file_found bytes found next are is) in
      record {
        is_plain = subst (IsPlainFile bound) both.1 (plain_from_test bound found both.0);
        is_valid = content.valid;
        bytes_are = content.bytes_are;
        fits = content.fits;
      }
  by_reading (bad fault place) are is kept = absurd cc

  -- what is read is a plain file, whose bytes they are
  pub plain_found : AreBytes bytes → read_plain bound bytes ≡ Some file → ArePlainBytes bound bytes file
  unfolding read_plain
  plain_found are is = by_reading (read_file bytes) are refl is

  -- and each plain file is read in its bytes
  pub plain_again : ArePlainBytes bound bytes file → read_plain bound bytes ≡ Some file
  unfolding read_plain
  plain_again is =
      ap (plain_of bound) (read_file_again bytes file (record { valid = is.is_valid; bytes_are = is.bytes_are; fits = is.fits }))
      ∙ ap (λ (plain : Bool). cond plain (Some file) None) (test_from_plain bound file is.is_plain)

-- so the answer says which plain file they are the bytes of, if any
pub plain_means : (bound : ℕ) (bytes : List ℕ) (answer : Option TreeFile) → AreBytes bytes → answer ≡ read_plain bound bytes → MatchOption answer ((file : TreeFile) → ArePlainBytes bound bytes file → ⊥) (ArePlainBytes bound bytes)
plain_means bound bytes None are is = λ file plain. absurd (let e : ◌≡◌ {A = Option TreeFile} None (Some file) = is ∙ plain_again bound bytes file plain in cc)
plain_means bound bytes (Some file) are is = plain_found bound bytes file are (sym is)

-- ---- of every list it can be told of which plain file it has the bytes, if of any

by_bytes : (bound : ℕ) (bytes : List ℕ) (test : Bool) → are_bytes bytes ≡ test → (found : Option TreeFile) × MatchOption found ((file : TreeFile) → ArePlainBytes bound bytes file → ⊥) (ArePlainBytes bound bytes)
by_bytes bound bytes true are = (read_plain bound bytes, plain_means bound bytes (read_plain bound bytes) (bytes-are bytes are) refl)
by_bytes bound bytes false not = (
  None,
  λ file plain.
      let are = bytes_of_file bytes file (record { valid = plain.is_valid; bytes_are = plain.bytes_are; fits = plain.fits }) in
      let both : false ≡ true = sym not ∙ are_bytes-from bytes are in
      absurd cc,
)

pub plain_or_not : (bound : ℕ) (bytes : List ℕ) → (found : Option TreeFile) × MatchOption found ((file : TreeFile) → ArePlainBytes bound bytes file → ⊥) (ArePlainBytes bound bytes)
plain_or_not bound bytes = by_bytes bound bytes (are_bytes bytes) refl
