use Rattle.std.proofs.lemmas.List.{append_assoc}
use Rattle.qm_face_layout.proofs.WrittenFaces.{face_bytes-parts}
use Rattle.qm_face_file.proofs.face_bytes.FaceBytesEncoding.append.Goals as goal

pub returns : goal.returns
returns c =
    rw (c.in_ok-append_all.ensures.ok, c.as_slice.ensures, c.in_ok-put_small_count.ensures, c.len.ensures, c.in_ok-put_u32.ensures, c.in_ok-put_u64-2.ensures, c.in_ok-put_u64.ensures, face_bytes-parts c.args.face.now)
    (simp append_assoc)
