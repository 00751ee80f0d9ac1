-- Solids whose outward planes have, place by place, the same sides are full together, hold the same points, have the same
-- points on their faces and the same candidates, and make the same of a cell.
use Rattle.std.proofs.Common.{◌≡◌, ℕ, pos, inl, inr, List, All, Contains, sym, ◌∙◌, subst, arith}
use Rattle.std.specs.List.{AllZip}
use Rattle.std.proofs.lemmas.List.Elements.{All-contains}
use Rattle.qm_lists.proofs.Pairs.{All-from_contains, partner, AllZip-back, AllZip-weaker}
use Rattle.qm_numbers.proofs.IntegerProducts.{linear}
use Rattle.qm_space.specs.Point.{Point}
use Rattle.qm_space.specs.Plane.{Plane, IsBehind}
use Rattle.qm_space.specs.Multiple.{IsPositiveMultiple, HasSameSides}
use Rattle.qm_contents.specs.declared.contents.Contents.{Contents}
use Rattle.qm_contents.specs.Precedence.{IsAtMost}
use Rattle.qm_solids.specs.Solid.{Solid}
use Rattle.qm_solids.specs.Holding.{IsInside, IsFull}
use Rattle.qm_solids.specs.Strongest.{IsOneThat, AreGiven, AreStrongest}
use Rattle.qm_solids.specs.Cells.{ContainsCell, CellHasContents}
use Rattle.qm_solids.specs.Candidates.{IsSamePlane, IsOnFace, IsOutdone, IsCandidate}
use Rattle.qm_solids.specs.Least.{IsNumberedCandidate, IsLeastCandidate}
use Rattle.qm_solids.proofs.Insides.{behind_all, inside_of_behind}
use Rattle.qm_space.proofs.SameSides.{same_sides_back, same_behind}
use Rattle.qm_solids.proofs.PlanesInCommon.{one_scaled, lies_on_through, lies_on_back, same_sides_lies_on}
use Rattle.qm_solids.specs.Alike.{IsAlike}

-- ---- planes of the same sides

-- a positive multiple has the same sides
pub multiple_has_same_sides : (a h : Plane) → IsPositiveMultiple a h → HasSameSides a h
multiple_has_same_sides a h of = record { times = pos 1; factor = of.factor; some_times = omega (arith, linear); some_factor = of.positive; multiple = one_scaled a ∙ of.multiple }

-- ---- solids

-- the contents are the same, and the outward planes at each place have the same sides
pub record HasSameFaces (solid other : Solid) : Type 0 where
  pub same_contents : solid.contents ≡ other.contents
  pub same_sides : AllZip HasSameSides solid.outward other.outward

abbrev pub HaveSameFaces : List Solid → List Solid → Type 0
HaveSameFaces solids others = AllZip HasSameFaces solids others

pub same_faces_back : (solid other : Solid) → HasSameFaces solid other → HasSameFaces other solid
same_faces_back solid other same = record { same_contents = sym same.same_contents; same_sides = AllZip-back HasSameSides HasSameSides solid.outward other.outward same_sides_back same.same_sides }

pub solids_back : (solids others : List Solid) → HaveSameFaces solids others → HaveSameFaces others solids
solids_back solids others same = AllZip-back HasSameFaces HasSameFaces solids others same_faces_back same

pub alike_has_same_faces : (solid other : Solid) → IsAlike solid other → HasSameFaces solid other
alike_has_same_faces solid other alike =
    record { same_contents = alike.same_contents; same_sides = AllZip-weaker IsPositiveMultiple HasSameSides solid.outward other.outward multiple_has_same_sides alike.multiples }

pub alike_have_same_faces : (solids others : List Solid) → AllZip IsAlike solids others → HaveSameFaces solids others
alike_have_same_faces solids others alike = AllZip-weaker IsAlike HasSameFaces solids others alike_has_same_faces alike

module _ (solid other : Solid) (same : HasSameFaces solid other) where
  -- each plane of the other solid has one of this solid with the same sides
  there : (g : Plane) → Contains other.outward g → (a : Plane) × Contains solid.outward a × HasSameSides a g
  there g among =
      let at = partner HasSameSides other.outward solid.outward g (same_faces_back solid other same).same_sides among in
      (at.0, at.1, same_sides_back g at.0 at.2)

  of_each : (P : Plane → Type 0) → ((a g : Plane) → HasSameSides a g → P a → P g) → All P solid.outward → All P other.outward
  of_each P kept each = All-from_contains P other.outward (λ g among. let at = there g among in kept at.0 g at.2 (All-contains P solid.outward at.0 each at.1))

  pub inside_kept : (x : Point) → IsInside solid x → IsInside other x
  inside_kept x inside = inside_of_behind other.outward x (of_each (λ h. IsBehind h x) (λ a g same. same_behind g a x (same_sides_back a g same)) (behind_all solid.outward x inside))

  pub full_kept : IsFull solid → IsFull other
  full_kept full = record { within = full.within; in_cube = full.in_cube; inside = inside_kept full.within full.inside }

  pub contains_kept : (cell : List Plane) → ContainsCell solid cell → ContainsCell other cell
  contains_kept cell contains = record { full = full_kept contains.full; inside = λ x in_cube in_cell. inside_kept x (contains.inside x in_cube in_cell) }

  pub on_face_kept : (cell : List Plane) (h : Plane) (x : Point) → IsOnFace solid cell h x → IsOnFace other cell h x
  on_face_kept cell h x on = record {
    in_cube = on.in_cube;
    in_cell = on.in_cell;
    on = on.on;
    behind_others = λ g among apart.
        let at = there g among in
        let not_on : IsSamePlane at.0 h → ⊥ = λ lies. apart (lies_on_through g at.0 h (lies_on_back at.0 g (same_sides_lies_on at.0 g at.2)) lies) in
        same_behind g at.0 x (same_sides_back at.0 g at.2) (on.behind_others at.0 at.1 not_on);
  }

-- ---- lists of solids

module _ (Has : Solid → Type 0) (kept : (solid other : Solid) → HasSameFaces solid other → Has solid → Has other) (solids others : List Solid) (same : HaveSameFaces solids others) where
  one_kept : (solid : Solid) → IsOneThat Has solids solid → (other : Solid) × IsOneThat Has others other × HasSameFaces solid other
  one_kept solid one =
      let at = partner HasSameFaces solids others solid same one.listed in
      (at.0, record { listed = at.1; has = kept solid at.0 at.2 one.has }, at.2)

  given_kept : (contents : Contents) → AreGiven Has solids contents → AreGiven Has others contents
  given_kept contents (inl empty) = inl empty
  given_kept contents (inr by) = let at = one_kept by.0 by.1 in inr (at.0, at.1, sym at.2.same_contents ∙ by.2)

-- the strongest of those that have what such solids have in common are the same
pub strongest_kept : (Has : Solid → Type 0) → ((solid other : Solid) → HasSameFaces solid other → Has solid → Has other) → (solids others : List Solid) (contents : Contents) → HaveSameFaces solids others → AreStrongest Has solids contents → AreStrongest Has others contents
strongest_kept Has kept solids others contents same are = record {
  given = given_kept Has kept solids others same contents are.given;
  strongest = λ other one.
      let at = one_kept Has kept others solids (solids_back solids others same) other one in
      subst (λ (c : Contents). IsAtMost c contents) (sym at.2.same_contents) (are.strongest at.0 at.1);
}

module _ (solids others : List Solid) (same : HaveSameFaces solids others) where
  pub cell_contents_kept : (cell : List Plane) (contents : Contents) → CellHasContents solids cell contents → CellHasContents others cell contents
  cell_contents_kept cell contents has = strongest_kept (λ solid. ContainsCell solid cell) (λ solid other faces. contains_kept solid other faces cell) solids others contents same has

  pub outdone_kept : (cell : List Plane) (solid other : Solid) → HasSameFaces solid other → IsOutdone solids cell solid → IsOutdone others cell other
  outdone_kept cell solid other faces outdone =
      let at = partner HasSameFaces solids others outdone.stronger same outdone.listed in
      record {
        stronger = at.0;
        listed = at.1;
        at_least = subst (λ (c : Contents). IsAtMost c at.0.contents) faces.same_contents (subst (λ (c : Contents). IsAtMost solid.contents c) at.2.same_contents outdone.at_least);
        contains = contains_kept outdone.stronger at.0 at.2 cell outdone.contains;
      }

pub candidate_kept : (solids others : List Solid) (cell : List Plane) (h : Plane) → HaveSameFaces solids others → IsCandidate solids cell h → IsCandidate others cell h
candidate_kept solids others cell h same is =
    let at = partner HasSameFaces solids others is.solid same is.listed in
    let face = partner HasSameSides is.solid.outward at.0.outward is.face at.2.same_sides is.has_face in
    record {
      solid = at.0;
      listed = at.1;
      full = full_kept is.solid at.0 at.2 is.full;
      face = face.0;
      has_face = face.1;
      lies_on = lies_on_through face.0 is.face h (lies_on_back is.face face.0 (same_sides_lies_on is.face face.0 face.2)) is.lies_on;
      point = is.point;
      on_face = on_face_kept is.solid at.0 at.2 cell h is.point is.on_face;
      not_outdone = λ outdone. is.not_outdone (outdone_kept others solids (solids_back solids others same) cell at.0 is.solid (same_faces_back is.solid at.0 at.2) outdone);
    }

pub numbered_kept : (solids others : List Solid) (book cell : List Plane) (n : ℕ) (h : Plane) → HaveSameFaces solids others → IsNumberedCandidate solids book cell n h → IsNumberedCandidate others book cell n h
numbered_kept solids others book cell n h same is = record { numbered = is.numbered; candidate = candidate_kept solids others cell h same is.candidate }

pub least_kept : (solids others : List Solid) (book cell : List Plane) (n : ℕ) (h : Plane) → HaveSameFaces solids others → IsLeastCandidate solids book cell n h → IsLeastCandidate others book cell n h
least_kept solids others book cell n h same least = record {
  is_one = numbered_kept solids others book cell n h same least.is_one;
  first = λ m g is. least.first m g (numbered_kept others solids book cell m g (solids_back solids others same) is);
}
