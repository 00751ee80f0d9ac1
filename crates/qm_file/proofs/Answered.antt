-- What an answer says of the bytes, where it is the one that reading gives.
use Rattle.std.proofs.Common.{◌≡◌, ◌≤◌, ℕ, List, length, Result, Ok, Err, refl, sym, ◌∙◌, arith}
use Rattle.std.specs.Prelude.{IfOk, MatchResult}
use Rattle.qm_space.specs.Plane.{Plane}
use Rattle.qm_partition.specs.declared.node.Node.{Node}
use Rattle.qm_partition.specs.declared.node.Leaf.{Leaf}
use Rattle.qm_partition.specs.Arrays.{tree_of}
use Rattle.qm_partition.specs.WellMade.{IsMadeOf}
use Rattle.qm_formats.specs.Layout.{Decoded, got}
use Rattle.qm_formats.specs.Fields.{AreBytes}
use Rattle.qm_formats.specs.FileParts.{FileFaultKind}
use Rattle.qm_formats.specs.TreeFile.{TreeFile, IsValidFile}
use Rattle.qm_formats.specs.FileLayout.{Header, file_header_layout, planes_layout, nodes_layout, leaves_layout, file_bytes, file_limit, read_file}
use Rattle.qm_formats.proofs.ExactFile.{header_exact, planes_exact, nodes_exact, leaves_exact}
use Rattle.qm_formats.proofs.ValidFiles.{made_of_right}
use Rattle.qm_formats.proofs.WholeFile.{read_file_found, read_file_again}
use Rattle.qm_file.specs.declared.file_fault.FileFault.{FileFault}
use Rattle.qm_file.specs.declared.file_fault.FileFault.TheVariants as faults
use Rattle.qm_file.specs.Answers.{IsFaultOfFile, AnswersTreeFile}

-- planes, nodes and leaves that are read behind a header are those of a tree
pub made_of_read :
    (file : List ℕ) (header : Header) {at of_nodes of_leaves next : ℕ} {planes : List Plane} {nodes : List Node} {leaves : List Leaf} →
    AreBytes file →
    file_header_layout.read file 0 ≡ got header at →
    (planes_layout header).read file at ≡ got planes of_nodes →
    (nodes_layout header).read file of_nodes ≡ got nodes of_leaves →
    (leaves_layout header).read file of_leaves ≡ got leaves next →
    IsMadeOf (tree_of planes nodes leaves) planes nodes leaves
made_of_read file header {at} {of_nodes} {of_leaves} {next} {planes} {nodes} {leaves} are read_header read_planes read_nodes read_leaves =
    let front = header_exact.found file 0 header at are (omega arith) read_header in
    let first = (planes_exact header).found file at planes of_nodes are front.stands.within read_planes in
    let second = (nodes_exact header).found file of_nodes nodes of_leaves are first.stands.within read_nodes in
    let third = (leaves_exact header).found file of_leaves leaves next are second.stands.within read_leaves in
    made_of_right header planes nodes leaves (record { of_header = front.right; of_planes = first.right; of_nodes = second.right; of_leaves = third.right })

-- a fault but want of memory is none where a file is read
no_fault : (fault : FileFault) (answer : Decoded FileFaultKind TreeFile) (file : TreeFile) (next : ℕ) → answer ≡ got file next → IsFaultOfFile fault answer → fault ≡ faults.Memory
no_fault (faults.Short offset) answer file next is fault = absurd (let e = sym is ∙ fault in cc)
no_fault (faults.Magic offset) answer file next is fault = absurd (let e = sym is ∙ fault in cc)
no_fault (faults.Counts offset) answer file next is fault = absurd (let e = sym is ∙ fault in cc)
no_fault (faults.HeaderForm offset) answer file next is fault = absurd (let e = sym is ∙ fault in cc)
no_fault (faults.PlaneForm offset) answer file next is fault = absurd (let e = sym is ∙ fault in cc)
no_fault (faults.NodeOrder offset) answer file next is fault = absurd (let e = sym is ∙ fault in cc)
no_fault (faults.LeafForm offset) answer file next is fault = absurd (let e = sym is ∙ fault in cc)
no_fault (faults.RowForm offset) answer file next is fault = absurd (let e = sym is ∙ fault in cc)
no_fault (faults.SectionForm offset) answer file next is fault = absurd (let e = sym is ∙ fault in cc)
no_fault (faults.Trailing offset) answer file next is fault = absurd (let e = sym is ∙ fault in cc)
no_fault (faults.TooLong offset) answer file next is fault = absurd (let e = sym is ∙ fault in cc)
no_fault faults.Memory answer file next is fault = refl

module _ (bytes : List ℕ) where
  pub answer_found : (answer : Result TreeFile FileFault) → AreBytes bytes → AnswersTreeFile (λ found. found) (λ _. length bytes) answer (read_file bytes) → IfOk answer (λ found. IsValidFile found × (bytes ≡ file_bytes found) × (length bytes ≤ file_limit))
  answer_found (Ok found) are is =
      let read = read_file_found bytes found (length bytes) are is in
      (read.valid, read.bytes_are, read.fits)
  answer_found (Err fault) are is = tt

  pub answer_only : (answer : Result TreeFile FileFault) → AnswersTreeFile (λ found. found) (λ _. length bytes) answer (read_file bytes) → (file : TreeFile) → IsValidFile file → bytes ≡ file_bytes file → length bytes ≤ file_limit → MatchResult answer (λ found. found ≡ file) (λ fault. fault ≡ faults.Memory)
  answer_only (Ok found) is file valid written fits =
      let again = read_file_again bytes file (record { valid = valid; bytes_are = written; fits = fits }) in
      let e = sym is ∙ again in
      cc
  answer_only (Err fault) is file valid written fits =
      no_fault fault (read_file bytes) file (length bytes) (read_file_again bytes file (record { valid = valid; bytes_are = written; fits = fits })) is
