-- Numbers of planes: a plane lies on one wall at most, and one that is named has a number.
use Rattle.std.proofs.Common.{◌≡◌, ◌<◌, ℕ, zero, suc, pos, negsuc, ◌*ℤ◌, Bool, true, false, cond, eqb, List, Some, refl, sym, ap, subst, ◌∙◌, arith}
use Rattle.std.specs.Prelude.{slice_get, unsigned_abs, int_lt}
use Rattle.std.proofs.lemmas.Option.{slice_get_within}
use Rattle.qm_space.specs.Bounds.{world_extent}
use Rattle.qm_space.specs.Plane.{Plane, flipped}
use Rattle.qm_space.specs.Turned.{turned}
use Rattle.qm_space.proofs.ReducedPlanes.{flipped_twice}
use Rattle.qm_face_layout.specs.PlaneNumbers.{walls_at, NamesPlane, IsNamedPlane, IsPlaneNumber}

-- ---- the place of a wall, from its numbers

wall_code : Plane → ℕ
wall_code h =
    cond (eqb (unsigned_abs h.nx) 0)
    (cond (eqb (unsigned_abs h.ny) 0)
    (cond (int_lt (h.nz *ℤ h.d) (pos 0)) 4 5)
    (cond (int_lt (h.ny *ℤ h.d) (pos 0)) 2 3))
    (cond (int_lt (h.nx *ℤ h.d) (pos 0)) 0 1)

-- one wall, turned to either side
one_wall : (here wall : Plane) (k : ℕ) → wall_code here ≡ k → wall_code (flipped here) ≡ k → (side : Bool) → Some here ≡ Some wall → wall_code (turned side wall) ≡ k
one_wall here wall k own other true is = let e : here ≡ wall = cc in subst (λ (h : Plane). wall_code h ≡ k) e own
one_wall here wall k own other false is = let e : here ≡ wall = cc in subst (λ (h : Plane). wall_code (flipped h) ≡ k) e other

-- of two walls across an axis
code_of_wall : (k : ℕ) (wall : Plane) (side : Bool) → slice_get (walls_at world_extent) k ≡ Some wall → wall_code (turned side wall) ≡ k
unfolding wall_code
code_of_wall zero wall side is = one_wall _ wall 0 refl refl side is
code_of_wall (suc zero) wall side is = one_wall _ wall 1 refl refl side is
code_of_wall (suc (suc zero)) wall side is = one_wall _ wall 2 refl refl side is
code_of_wall (suc (suc (suc zero))) wall side is = one_wall _ wall 3 refl refl side is
code_of_wall (suc (suc (suc (suc zero)))) wall side is = one_wall _ wall 4 refl refl side is
code_of_wall (suc (suc (suc (suc (suc zero))))) wall side is = one_wall _ wall 5 refl refl side is
code_of_wall (suc (suc (suc (suc (suc (suc k)))))) wall side is = absurd (let within = slice_get_within (walls_at world_extent) (suc (suc (suc (suc (suc (suc k)))))) wall is in omega (arith, within))

module _ (planes : List Plane) (plane : Plane) where
  wall_of_number : (k : ℕ) → NamesPlane planes world_extent (negsuc k) plane → wall_code plane ≡ k
  wall_of_number k names = ap wall_code names.turned_is ∙ code_of_wall k names.named names.side names.named_is

  -- a wall is named whatever the book
  pub same_wall : (others : List Plane) (k : ℕ) → NamesPlane planes world_extent (negsuc k) plane → NamesPlane others world_extent (negsuc k) plane
  same_wall others k names = record { named = names.named; named_is = names.named_is; side = names.side; turned_is = names.turned_is }

  pub no_more_walls : (k : ℕ) → NamesPlane planes world_extent (negsuc k) plane → k < 6
  no_more_walls k names = slice_get_within (walls_at world_extent) k names.named names.named_is

  -- ---- the number of a plane

  pub wall_number : (k : ℕ) → NamesPlane planes world_extent (negsuc k) plane → IsPlaneNumber planes world_extent plane (negsuc k)
  wall_number k names = record { names = names; wall_first = λ other its. ap negsuc (sym (wall_of_number k names) ∙ wall_of_number other its) }

  module _ (no_wall : (k : ℕ) → NamesPlane planes world_extent (negsuc k) plane → ⊥) where
    of_book : (n : ℕ) (side : Bool) (named : Plane) → slice_get planes n ≡ Some named → plane ≡ turned side named → IsPlaneNumber planes world_extent plane (pos n)
    of_book n side named there is = record {
      names = record { named = named; named_is = there; side = side; turned_is = is };
      wall_first = λ k names. absurd (no_wall k names);
    }

    pub book_number : (n : ℕ) → slice_get planes n ≡ Some plane → IsPlaneNumber planes world_extent plane (pos n)
    book_number n there = of_book n true plane there refl

    pub flipped_number : (n : ℕ) → slice_get planes n ≡ Some (flipped plane) → IsPlaneNumber planes world_extent plane (pos n)
    flipped_number n there = of_book n false (flipped plane) there (sym (flipped_twice plane))

    named_there : (side : Bool) (named : Plane) (n : ℕ) → slice_get planes n ≡ Some named → plane ≡ turned side named → (slice_get planes n ≡ Some plane → ⊥) → (slice_get planes n ≡ Some (flipped plane) → ⊥) → ⊥
    named_there true named n there is own other = own (there ∙ ap (λ (h : Plane). Some h) (sym is))
    named_there false named n there is own other = other (there ∙ ap (λ (h : Plane). Some h) (sym (ap flipped is ∙ flipped_twice named)))

    -- a plane that is named and lies on no wall is one of the book, turned or not
    pub some_number : IsNamedPlane planes world_extent plane → ((n : ℕ) → slice_get planes n ≡ Some plane → ⊥) → ((n : ℕ) → slice_get planes n ≡ Some (flipped plane) → ⊥) → ⊥
    some_number (pos n, names) own other = named_there names.side names.named n names.named_is names.turned_is (own n) (other n)
    some_number (negsuc k, names) own other = no_wall k names
