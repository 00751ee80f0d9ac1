-- What a section is decoded to as a plain file.
use Rattle.std.proofs.Common.{◌≡◌, ℕ, List, Option, Some, sym, ap, ◌∙◌}
use Rattle.qm_formats.specs.TreeFile.{TreeFile}
use Rattle.qm_plain.specs.PlainFile.{ArePlainBytes}
use Rattle.qm_answers.specs.DecodedSections.{IsOnlyOne, known_if_found, decoded_by, plain_answer}
use Rattle.qm_answers.proofs.OnlyContents.{is_plain_answer}

-- a section that is there, and the plain file of its bytes, if they are those of one
pub plain_there : (bound : ℕ) (section : Option (List ℕ)) (bytes : List ℕ) (found : Option TreeFile) → section ≡ Some bytes → IsOnlyOne (ArePlainBytes bound bytes) found →
    known_if_found found ≡ decoded_by (λ b. (plain_answer bound b).0) section
plain_there bound section bytes found is_there is =
    let content_of : List ℕ → Option TreeFile = λ b. (plain_answer bound b).0 in
    ap known_if_found (is_plain_answer bound bytes found is) ∙ ap (decoded_by content_of) {x = Some bytes} {y = section} (sym is_there)
