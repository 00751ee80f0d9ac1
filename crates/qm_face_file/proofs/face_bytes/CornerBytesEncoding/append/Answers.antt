use Rattle.std.proofs.Common.{pos, get_or, w64, rules}
use Rattle.std.specs.Prelude.{FitsSigned}
use Rattle.std.proofs.lemmas.List.{append_assoc}
use Rattle.std.proofs.lemmas.Int.{to_z-of_z}
use Rattle.qm_face_layout.proofs.WrittenFaces.{corner_bytes-parts}
use Rattle.qm_face_file.proofs.face_bytes.CornerBytesEncoding.append.Goals as goal

pub returns : goal.returns
returns c =
    let corner = c.args.corner.now in
    let own : FitsSigned w64 (get_or corner 0 (pos 0)) = search rules in
    let before : FitsSigned w64 (get_or corner 1 (pos 0)) = search rules in
    let next : FitsSigned w64 (get_or corner 2 (pos 0)) = search rules in
    rw (c.in_ok-put_i64-3.ensures, c.in_ok-put_i64-2.ensures, c.in_ok-put_i64.ensures, corner_bytes-parts corner c.told-corner) (simp (append_assoc, to_z-of_z))
