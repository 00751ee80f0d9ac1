-- The six faces of the cube, as they are added one by one.
use Rattle.std.proofs.Common.{◌≡◌, List, [], ◌∷◌, ◌++◌, sym, ◌∙◌, ap, subst}
use Rattle.std.specs.List.{AllZip}
use Rattle.qm_space.specs.Plane.{Plane}
use Rattle.qm_space.specs.Cube.{mirrored, wall_x, wall_y, wall_z, cube_walls}
use Rattle.qm_convex.specs.Winding.{Winding}
use Rattle.qm_convex.specs.World.{IsCubeFace}
use Rattle.qm_convex.specs.inner.Square.{square}
use Rattle.qm_convex.proofs.CubeSquares.{are_cube_faces}

-- a list with one winding more, as the windings before it are others
added : (list before known : List Winding) (winding same : Winding) → list ≡ before ++ winding ∷ [] → before ≡ known → winding ≡ same → list ≡ known ++ same ∷ []
added list before known winding same e f g = e ∙ (λ i. f i ++ g i ∷ [])

squares : (h a b wall first second : Plane) → h ≡ wall → a ≡ first → b ≡ second → square h a b ≡ square wall first second
squares h a b wall first second eh ea eb = λ i. square (eh i) (ea i) (eb i)

-- the face opposite to a wall
pub far_from : (far near wall : Plane) → far ≡ mirrored near → near ≡ wall → far ≡ mirrored wall
far_from far near wall e f = e ∙ ap mirrored f

module _ (x y z u v w : Plane) (is_x : x ≡ wall_x) (is_y : y ≡ wall_y) (is_z : z ≡ wall_z) (is_u : u ≡ mirrored wall_x) (is_v : v ≡ mirrored wall_y) (is_w : w ≡ mirrored wall_z) where
  pub are_faces : (none one two three four five six : List Winding) → none ≡ [] →
      one ≡ none ++ square x y z ∷ [] → two ≡ one ++ square y z x ∷ [] → three ≡ two ++ square z x y ∷ [] →
      four ≡ three ++ square u z y ∷ [] → five ≡ four ++ square v x z ∷ [] → six ≡ five ++ square w y x ∷ [] → AllZip IsCubeFace six cube_walls
  are_faces none one two three four five six e e1 e2 e3 e4 e5 e6 =
      subst (λ (faces : List Winding). AllZip IsCubeFace faces cube_walls)
      (sym (added six five _ _ _ e6
      (added five four _ _ _ e5
      (added four three _ _ _ e4
      (added three two _ _ _ e3
      (added two one _ _ _ e2
      (added one none _ _ _ e1 e (squares x y z _ _ _ is_x is_y is_z))
      (squares y z x _ _ _ is_y is_z is_x))
      (squares z x y _ _ _ is_z is_x is_y))
      (squares u z y _ _ _ is_u is_z is_y))
      (squares v x z _ _ _ is_v is_x is_z))
      (squares w y x _ _ _ is_w is_y is_x)))
      are_cube_faces
