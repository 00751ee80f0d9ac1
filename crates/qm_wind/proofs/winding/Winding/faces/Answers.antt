use Rattle.qm_convex.proofs.CubeSquares.{near_x, near_y, near_z, far_x, far_y, far_z, face_of_same}
use Rattle.qm_wind.proofs.SixFaces.{far_from, are_faces}
use Rattle.qm_wind.proofs.winding.Winding.faces.Goals as goal

pub add_face-requires : goal.add_face-requires
add_face-requires c = face_of_same _ _ _ _ _ _ c.wall_x-x.ensures c.wall_y-y.ensures c.wall_z-z.ensures near_x

pub add_face-requires-2 : goal.add_face-requires-2
add_face-requires-2 c = face_of_same _ _ _ _ _ _ c.wall_y-y.ensures c.wall_z-z.ensures c.wall_x-x.ensures near_y

pub add_face-requires-3 : goal.add_face-requires-3
add_face-requires-3 c = face_of_same _ _ _ _ _ _ c.wall_z-z.ensures c.wall_x-x.ensures c.wall_y-y.ensures near_z

pub add_face-requires-4 : goal.add_face-requires-4
add_face-requires-4 c = face_of_same _ _ _ _ _ _ (far_from _ _ _ c.mirrored.ensures c.wall_x-x.ensures) c.wall_z-z.ensures c.wall_y-y.ensures far_x

pub add_face-requires-5 : goal.add_face-requires-5
add_face-requires-5 c = face_of_same _ _ _ _ _ _ (far_from _ _ _ c.mirrored-2.ensures c.wall_y-y.ensures) c.wall_x-x.ensures c.wall_z-z.ensures far_y

pub add_face-requires-6 : goal.add_face-requires-6
add_face-requires-6 c = face_of_same _ _ _ _ _ _ (far_from _ _ _ c.mirrored-3.ensures c.wall_z-z.ensures) c.wall_y-y.ensures c.wall_x-x.ensures far_z

pub returns : goal.returns
returns c =
    are_faces _ _ _ _ _ _ c.wall_x-x.ensures c.wall_y-y.ensures c.wall_z-z.ensures
    (far_from _ _ _ c.mirrored.ensures c.wall_x-x.ensures) (far_from _ _ _ c.mirrored-2.ensures c.wall_y-y.ensures) (far_from _ _ _ c.mirrored-3.ensures c.wall_z-z.ensures)
    _ _ _ _ _ _ _ c.new-faces.ensures.items c.in_ok-add_face.ensures c.in_ok-add_face-2.ensures c.in_ok-add_face-3.ensures c.in_ok-add_face-4.ensures c.in_ok-add_face-5.ensures c.in_ok-add_face-6.ensures
