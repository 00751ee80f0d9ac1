use Rattle.std.proofs.Common.{◌≡◌, ℕ, List, Some, ap, ◌∙◌, subst}
use Rattle.qm_formats.specs.TreeFile.{Section, TreeFile}
use Rattle.qm_plain.specs.PlainFile.{ArePlainBytes}
use Rattle.qm_answers.specs.DecodedSections.{IsOnlyOne, section_bytes}
use Rattle.qm_inspect.proofs.DecodedParts.{plain_there}
use Rattle.qm_inspect.proofs.parts.decoded_tree.Goals as goal

pub returns-in-Some-2 : goal.returns-in-Some-2
returns-in-Some-2 c =
    let file = c.args.file.now in
    let bytes = c.in-Some.bytes.now in
    let found = Some c.in-Some-2.tree in
    let sections_are = c.as_slice.ensures ∙ ap (λ (f : TreeFile). f.sections) c.file.view_is in
    let there = subst (λ (sections : List Section). section_bytes sections c.args.kind ≡ Some bytes) sections_are c.in-Some.ensures in
    let plain = subst (IsOnlyOne (ArePlainBytes c.file.inside.bound bytes)) c.in-Some-2.is c.in_ok-tree.ensures.plain in
    plain_there file.bound (section_bytes file.sections c.args.kind) bytes found there
    (subst (λ (bound : ℕ). IsOnlyOne (ArePlainBytes bound bytes) found) (ap (λ (f : TreeFile). f.bound) c.file.view_is) plain)
