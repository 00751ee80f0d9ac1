-- Bounds across the axes, and the planes among which they are.
use Rattle.std.proofs.Common.{List, [], ◌∷◌, ◌++◌, All, Contains, ◌∙◌, subst, arith, ⊎_elim}
use Rattle.std.specs.List.{AllZip}
use Rattle.std.proofs.lemmas.Int.{ints}
use Rattle.std.proofs.lemmas.List.Elements.{All-nil, All-cons, All-weaker, Contains-append_right}
use Rattle.qm_lists.proofs.Elements.{Contains-first, Contains-later, Contains-cons_cases}
use Rattle.qm_space.specs.Plane.{Plane}
use Rattle.qm_convex.specs.Section.{IsAxialBound}
use Rattle.qm_half_spaces.specs.inner.AxialPlanes.{IsFarther, IsBoundAmong}

module _ (planes : List Plane) where
  -- a plane that lies farther in is a bound as well
  pub farther_bound : (h bound wall : Plane) → Contains planes h → IsFarther h bound → IsBoundAmong planes bound wall → IsBoundAmong planes h wall
  farther_bound h bound wall has farther is = record {
    axial = record {
      normal = record { nx = farther.normal.nx ∙ is.axial.normal.nx; ny = farther.normal.ny ∙ is.axial.normal.ny; nz = farther.normal.nz ∙ is.axial.normal.nz };
      inside = let a = farther.inside in let b = is.axial.inside in omega (arith, ints);
    };
    among = Contains-later wall h planes has;
  }

  pub are_axial : (bounds walls : List Plane) → AllZip (IsBoundAmong planes) bounds walls → AllZip IsAxialBound bounds walls
  are_axial [] [] are = tt
  are_axial [] (wall ∷ walls) are = absurd are
  are_axial (bound ∷ bounds) [] are = absurd are
  are_axial (bound ∷ bounds) (wall ∷ walls) are = (are.0.axial, are_axial bounds walls are.1)

  pub are_among : (bounds walls : List Plane) → AllZip (IsBoundAmong planes) bounds walls → All (Contains (walls ++ planes)) bounds
  are_among [] walls are = All-nil (Contains (walls ++ planes))
  are_among (bound ∷ bounds) [] are = absurd are
  are_among (bound ∷ bounds) (wall ∷ walls) are =
      All-cons (Contains (wall ∷ walls ++ planes)) bound bounds
      (⊎_elim
      (λ same. subst (Contains (wall ∷ walls ++ planes)) same (Contains-first wall (walls ++ planes)))
      (λ later. Contains-later wall bound (walls ++ planes) (Contains-append_right walls planes bound later))
      (Contains-cons_cases wall bound planes are.0.among))
      (All-weaker (Contains (walls ++ planes)) (Contains (wall ∷ walls ++ planes)) (λ h has. Contains-later wall h (walls ++ planes) has) bounds (are_among bounds walls are.1))
