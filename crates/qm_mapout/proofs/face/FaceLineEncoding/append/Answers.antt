use Rattle.qm_mapout.proofs.Parts.{face_put}
use Rattle.qm_mapout.proofs.face.FaceLineEncoding.append.Goals as goal

pub returns : goal.returns
returns c =
    rw (face_put c.args.face.now c.args.out.now.items c.put_point.new.out.items c.put_point-2.new.out.items c.put_point-3.new.out.items c.put_texture.new.out.items c.requires.three
    c.in_ok-put_point.ensures c.in_ok-put_point-2.ensures c.in_ok-put_point-3.ensures (rw (← c.as_slice.ensures) c.in_ok-put_texture.ensures)) c.put_mapping.ensures
