-- Planes of a book that are turned to sides, as faces of solids name them: what they have in common shows in their numbers
-- and sides.
use Rattle.std.proofs.Common.{◌≡◌, ℕ, ◌<◌, Bool, true, false, not, List, length, refl, ap, sym, ◌∙◌, subst, arith, map, All, Contains, get_or}
use Rattle.std.proofs.lemmas.List.Elements.{All-map, All-contains, All-contains_itself, Contains-get_or}
use Rattle.qm_lists.proofs.Elements.{All-from_map}
use Rattle.qm_space.specs.Point.{Point, IsInCube}
use Rattle.qm_space.specs.Cell.{IsInCell}
use Rattle.qm_solids.specs.declared.face.FaceRef.{FaceRef}
use Rattle.qm_solids.specs.Solid.{Solid}
use Rattle.qm_solids.specs.Outward.{outward_of}
use Rattle.qm_space.specs.Plane.{Plane, flipped, IsOn, IsBehind}
use Rattle.qm_space.specs.Reduced.{HasNormal}
use Rattle.qm_space.specs.Turned.{turned}
use Rattle.qm_space.specs.Multiple.{HasSameSides}
use Rattle.qm_space.specs.Book.{plane_at, AreBookPlanes}
use Rattle.qm_numbers.proofs.IntegerProducts.{linear}
use Rattle.qm_space.proofs.Planes.{flipped_behind}
pub use Rattle.qm_space.proofs.Books.{stands_at}
use Rattle.qm_space.proofs.TurnedPlanes.{turned_other}
use Rattle.qm_space.proofs.Openness.{ahead, ahead_in_front}
use Rattle.qm_solids.specs.Candidates.{IsSamePlane, IsOnFace}
use Rattle.qm_solids.proofs.FlatSolids.{AreOpposed}
use Rattle.qm_solids.proofs.PlanesInCommon.{turned_lies_on, lies_on_from_turned, one_number, same_sides_lies_on}
use Rattle.qm_space.proofs.SameSides.{same_sides_itself, same_behind}

-- no plane with a normal has its own sides exchanged
not_both_sides : (h : Plane) → HasNormal h → HasSameSides h (flipped h) → ⊥
not_both_sides h normal same =
    let front = ahead_in_front h normal in
    let behind = same_behind h (flipped h) (ahead h) same ((flipped_behind h (ahead h)).1 front) in
    absurd (omega (arith, linear))

-- the sides of a plane's turned forms tell these apart
same_side : (h : Plane) (s t : Bool) → HasNormal h → HasSameSides (turned s h) (turned t h) → s ≡ t
same_side h true true normal same = refl
same_side h true false normal same = absurd (not_both_sides h normal same)
same_side h false true normal same = absurd (not_both_sides h normal (record { times = same.factor; factor = same.times; some_times = same.some_factor; some_factor = same.some_times; multiple = sym same.multiple }))
same_side h false false normal same = refl

opposite : (s t : Bool) → s ≡ not t → s ≡ t → ⊥
opposite true true e f = absurd cc
opposite true false e f = absurd cc
opposite false true e f = absurd cc
opposite false false e f = absurd cc

other_side : (s t : Bool) → (s ≡ t → ⊥) → s ≡ not t
other_side true true apart = absurd (apart refl)
other_side true false apart = refl
other_side false true apart = refl
other_side false false apart = absurd (apart refl)

module _ (book : List Plane) (are : AreBookPlanes book) (m n : ℕ) (m_within : m < length book) (n_within : n < length book) (s t : Bool) where
  abbrev one : Plane
  one = turned s (plane_at book m)

  abbrev other : Plane
  other = turned t (plane_at book n)

  -- faces that lie on one another have one number
  pub same_number : IsSamePlane one other → m ≡ n
  same_number lies =
      one_number book m n (plane_at book m) (plane_at book n) are (stands_at book m m_within) (stands_at book n n_within)
      (lies_on_from_turned s t (plane_at book m) (plane_at book n) lies)

  -- faces with the same sides have one number and are turned to one side
  pub same_number_and_side : HasSameSides one other → (m ≡ n) × (s ≡ t)
  same_number_and_side same =
      let number = same_number (same_sides_lies_on one other same) in
      let normal = (are.reduced m (plane_at book m) (stands_at book m m_within)).normal in
      (number, same_side (plane_at book m) s t normal (subst (λ (k : ℕ). HasSameSides one (turned t (plane_at book k))) (sym number) same))

-- opposed faces have one number and are turned to different sides
pub opposed_numbers : (book : List Plane) → AreBookPlanes book → (m n : ℕ) → m < length book → n < length book → (s t : Bool) →
    AreOpposed (turned s (plane_at book m)) (turned t (plane_at book n)) → (m ≡ n) × (s ≡ t → ⊥)
opposed_numbers book are m n m_within n_within s t opposed =
    let same : HasSameSides (turned s (plane_at book m)) (flipped (turned t (plane_at book n))) =
    record { times = opposed.times; factor = opposed.multiple.factor; some_times = opposed.some; some_factor = opposed.multiple.positive; multiple = opposed.multiple.multiple } in
    let both = same_number_and_side book are m n m_within n_within s (not t) (subst (λ (h : Plane). HasSameSides (turned s (plane_at book m)) h) (sym (turned_other t (plane_at book n))) same) in
    (both.0, opposite s t both.1)

-- and those are opposed
pub opposed_by_sides_of_one : (h : Plane) (s t : Bool) → (s ≡ t → ⊥) → AreOpposed (turned s h) (turned t h)
opposed_by_sides_of_one h s t apart =
    let same = subst (λ (g : Plane). HasSameSides (turned s h) g) (ap (λ (side : Bool). turned side h) (other_side s t apart) ∙ turned_other t h) (same_sides_itself (turned s h)) in
    record { times = same.times; some = same.some_times; multiple = record { factor = same.factor; positive = same.some_factor; multiple = same.multiple } }

-- ---- the points on a face of a solid whose faces are those of a book

module _ (book : List Plane) (are : AreBookPlanes book) (solid : Solid) (faces : List FaceRef) (is : solid.outward ≡ map (outward_of book) faces) (numbered : All (λ face. face.plane < length book) faces) (n : ℕ) (n_within : n < length book) (cell : List Plane) (x : Point) where
  -- strictly behind the faces of other numbers
  abbrev pub IsBehindOthers : Type 0
  IsBehindOthers = (face : FaceRef) → Contains faces face → (face.plane ≡ n → ⊥) → IsBehind (outward_of book face) x

  has_number : (face : FaceRef) → Contains faces face → face.plane < length book
  has_number face among = All-contains (λ f. f.plane < length book) faces face numbered among

  lies_by_number : (face : FaceRef) → face.plane ≡ n → IsSamePlane (outward_of book face) (plane_at book n)
  lies_by_number face same = subst (λ (k : ℕ). IsSamePlane (outward_of book face) (plane_at book k)) same (turned_lies_on face.out_is_front (plane_at book face.plane))

  number_by_lies : (face : FaceRef) → Contains faces face → IsSamePlane (outward_of book face) (plane_at book n) → face.plane ≡ n
  number_by_lies face among lies = same_number book are face.plane n (has_number face among) n_within face.out_is_front true lies

  -- a face of the list is an outward plane
  pub outward_listed : (face : FaceRef) → Contains faces face → Contains solid.outward (outward_of book face)
  outward_listed face among =
      let planes = map (outward_of book) faces in
      let each = All-from_map (λ h. Contains planes h) (outward_of book) faces (All-contains_itself planes) in
      subst (λ (hs : List Plane). Contains hs (outward_of book face)) (sym is) (All-contains (λ f. Contains planes (outward_of book f)) faces face each among)

  pub on_face_by_numbers : IsInCube x → IsInCell cell x → IsOn (plane_at book n) x → IsBehindOthers → IsOnFace solid cell (plane_at book n) x
  on_face_by_numbers in_cube in_cell on behind = record {
    in_cube = in_cube;
    in_cell = in_cell;
    on = on;
    behind_others = λ other among. All-contains Unless solid.outward other (subst (λ (hs : List Plane). All Unless hs) (sym is) (All-map Unless (outward_of book) faces (λ k d there. one (get_or faces k d) (Contains-get_or faces k d there)))) among;
  }
    where
      Unless : Plane → Type 0
      Unless other = (IsSamePlane other (plane_at book n) → ⊥) → IsBehind other x

      one : (face : FaceRef) → Contains faces face → Unless (outward_of book face)
      one face among apart = behind face among (λ same. apart (lies_by_number face same))

  pub behind_other_numbers : IsOnFace solid cell (plane_at book n) x → IsBehindOthers
  behind_other_numbers on_face face among other_number = on_face.behind_others (outward_of book face) (outward_listed face among) (λ lies. other_number (number_by_lies face among lies))
