-- What fragments of solids in a cell tell of it: which contents fill it, which planes are candidates, and which comes first.
use Rattle.std.proofs.Common.{◌≡◌, ◌⊎◌, inl, inr, ⊎_elim, ℕ, zero, suc, ◌<◌, ◌≤◌, Bool, true, false, true≢false, ℤ, pos, negsuc, Option, Some, None, List, map, All, Contains, refl, sym, ◌∙◌, ap, subst, arith}
use Rattle.std.specs.Prelude.{slice_get}
use Rattle.std.proofs.lemmas.List.Elements.{All-contains, All-weaker}
use Rattle.qm_space.specs.Plane.{Plane, IsBehind}
use Rattle.qm_space.specs.Book.{plane_at}
use Rattle.qm_space.proofs.Books.{plane_at_from}
use Rattle.qm_numbers.proofs.IntegerProducts.{linear}
use Rattle.qm_convex.proofs.Central.{has_a_point}
use Rattle.qm_contents.specs.declared.contents.Contents.{Contents}
use Rattle.qm_contents.specs.declared.contents.Contents.TheVariants.{Empty}
use Rattle.qm_solids.specs.Solid.{Solid}
use Rattle.qm_solids.specs.Cells.{ContainsCell, CellHasContents}
use Rattle.qm_solids.specs.Candidates.{IsSamePlane, IsOnFace, IsOutdone, IsCandidate}
use Rattle.qm_solids.specs.Least.{IsAxial, IsNumberedCandidate, ComesFirst, IsLeastCandidate}
use Rattle.qm_solids.proofs.Insides.{behind_all}
use Rattle.qm_solids.proofs.CellLaws.{holds_points_of_cell}
use Rattle.qm_solids.proofs.PlanesInCommon.{lies_on_back, lies_on_through, lies_on_points, same_face, one_number}
use Rattle.qm_solid_tree.specs.Division.{HasNoCandidate}
use Rattle.qm_split.specs.declared.piece.Piece.{Piece}
use Rattle.qm_split.specs.declared.contender.Contender.{Contender}
use Rattle.qm_split.specs.declared.fragments.Fragments.{Fragments}
use Rattle.qm_split.specs.declared.rank.Rank.{Rank}
use Rattle.qm_split.specs.Pieces.{solid_of_contender, IsPieceInCell, IsContender}
use Rattle.qm_split.specs.CellFragments.{IsAtMostKnown, IsKeptContender, AreFragmentsOf}
use Rattle.qm_split.specs.inner.Ranks.{IsNoLater}
use Rattle.qm_split.specs.inner.Ranked.{IsRankOf, IsLeastRank}
use Rattle.qm_lists.proofs.Elements.{Contains-map_from}
use Rattle.qm_split.proofs.RankOrder.{first_one}
use Rattle.qm_split.proofs.Gatherings.{reached_less}
use Rattle.qm_split.proofs.HeldCuboids.{holds_point_on_face}

-- a contender does not contain its cell, since a point of the cell is on a face of it
pub contender_does_not_contain : (book cell : List Plane) (contender : Contender) → IsContender book cell contender → ContainsCell (solid_of_contender contender) cell → ⊥
contender_does_not_contain book cell contender contends contains =
    let first = first_one contender.body.value.pieces.items contender.least contends.first in
    let piece = first.piece in
    let is = All-contains (IsPieceInCell book cell (solid_of_contender contender)) contender.body.value.pieces.items piece contends.pieces.sound first.listed in
    let at = has_a_point piece.winding.value is.convex in
    let on_face = (is.points at.0).0 at.1 in
    let on = (lies_on_points is.face piece.winding.value.plane at.0 is.lies_on).1 on_face.on in
    let inside = contains.inside at.0 on_face.in_cube on_face.in_cell in
    let behind = All-contains (λ h. IsBehind h at.0) contender.body.value.outward.value.items is.face (behind_all contender.body.value.outward.value.items at.0 inside) is.has_face in
    absurd (omega (arith, linear))

no_contents : {P : Type 0} (c : Contents) (o : Option Contents) → o ≡ None → o ≡ Some c → P
no_contents c o none some = let e : None ≡ Some c = sym none ∙ some in absurd cc

same_contents : (a b : Contents) (o : Option Contents) → o ≡ Some a → o ≡ Some b → a ≡ b
same_contents a b o is_a is_b = let e : Some a ≡ Some b = sym is_a ∙ is_b in cc

module _ (solids : List Solid) (book cell : List Plane) (fragments : Fragments) (are : AreFragmentsOf solids book cell fragments) where
  abbrev strongest : Option Contents
  strongest = fragments.gathering.strongest

  abbrev contenders : List Contender
  contenders = fragments.gathering.contenders.items

  pub kept_one : (q : Contender) → Contains contenders q → IsKeptContender solids book cell strongest q
  kept_one q among = All-contains (IsKeptContender solids book cell strongest) contenders q are.kept among

  pub all_contend : All (IsContender book cell) contenders
  all_contend = All-weaker (IsKeptContender solids book cell strongest) (IsContender book cell) (λ q kept. kept.contends) contenders are.kept

  -- ---- contents

  pub reached_if_contains : (solid : Solid) → Contains solids solid → ContainsCell solid cell → IsAtMostKnown strongest solid.contents
  reached_if_contains solid listed contains = ⊎_elim
      (λ reached. reached)
      (λ rest. ⊎_elim
      (λ stays.
      let at = Contains-map_from solid_of_contender contenders solid stays in
      absurd (contender_does_not_contain book cell at.0 (kept_one at.0 at.1).contends (subst (λ (s : Solid). ContainsCell s cell) (sym at.2) contains)))
      (λ outside. absurd (outside are.inner.point are.inner.in_cube are.inner.in_cell (holds_points_of_cell solid cell are.inner.point contains are.inner.in_cube are.inner.in_cell)))
      rest)
      (are.accounted solid listed contains.full)

  pub contents_known : (contents : Contents) → strongest ≡ Some contents → CellHasContents solids cell contents
  contents_known contents known = record {
    given = ⊎_elim (λ none. no_contents contents strongest none known)
        (λ by. inr (by.0, record { listed = by.1; has = by.2 }, same_contents by.0.contents contents strongest by.3 known)) are.given;
    strongest = λ solid one. subst (λ (o : Option Contents). IsAtMostKnown o solid.contents) known (reached_if_contains solid one.listed one.has);
  }

  pub contents_unknown : strongest ≡ None → CellHasContents solids cell Empty
  contents_unknown none = record {
    given = inl refl;
    strongest = λ solid one. absurd (subst (λ (o : Option Contents). IsAtMostKnown o solid.contents) none (reached_if_contains solid one.listed one.has));
  }

  -- ---- candidates

  pub candidate_of_piece : (q : Contender) (p : Piece) → Contains contenders q → Contains q.body.value.pieces.items p → IsNumberedCandidate solids book cell p.number p.winding.value.plane
  candidate_of_piece q p among among_pieces =
      let kept = kept_one q among in
      let is = All-contains (IsPieceInCell book cell (solid_of_contender q)) q.body.value.pieces.items p kept.contends.pieces.sound among_pieces in
      let at = has_a_point p.winding.value is.convex in
      record {
        numbered = is.numbered;
        candidate = record {
          solid = solid_of_contender q;
          listed = kept.listed;
          full = kept.contends.full;
          face = is.face;
          has_face = is.has_face;
          lies_on = is.lies_on;
          point = at.0;
          on_face = (is.points at.0).0 at.1;
          not_outdone = λ outdone. kept.stronger (reached_less strongest q.contents outdone.stronger.contents (reached_if_contains outdone.stronger outdone.listed outdone.contains) outdone.at_least);
        };
      }

  -- a piece on the plane of a candidate
  pub record HasCandidate (n : ℕ) (h : Plane) : Type 0 where
    pub contender : Contender
    pub listed : Contains contenders contender
    pub piece : Piece
    pub listed_piece : Contains contender.body.value.pieces.items piece
    pub number : n ≡ piece.number
    pub plane : h ≡ piece.winding.value.plane

  outdone_if_reached : (solid : Solid) → IsAtMostKnown strongest solid.contents → IsOutdone solids cell solid
  outdone_if_reached solid reached = ⊎_elim
      (λ none. absurd (subst (λ (o : Option Contents). IsAtMostKnown o solid.contents) none reached))
      (λ by. record { stronger = by.0; listed = by.1; at_least = subst (λ (o : Option Contents). IsAtMostKnown o solid.contents) by.3 reached; contains = by.2 })
      are.given

  pub piece_of_candidate : (n : ℕ) (h : Plane) → IsNumberedCandidate solids book cell n h → HasCandidate n h
  piece_of_candidate n h is = ⊎_elim
      (λ reached. absurd (c.not_outdone (outdone_if_reached c.solid reached)))
      (λ rest. ⊎_elim found (λ outside. absurd (outside c.point c.on_face.in_cube c.on_face.in_cell (holds_point_on_face c.solid cell h c.point c.full c.on_face))) rest)
      (are.accounted c.solid c.listed c.full)
    where
      c : IsCandidate solids cell h
      c = is.candidate

      by_piece : (q : Contender) (p : Piece) → Contains contenders q → Contains q.body.value.pieces.items p → IsSamePlane c.face p.winding.value.plane → HasCandidate n h
      by_piece q p among among_pieces lies =
          let piece = All-contains (IsPieceInCell book cell (solid_of_contender q)) q.body.value.pieces.items p (kept_one q among).contends.pieces.sound among_pieces in
          let number = one_number book n p.number h p.winding.value.plane are.book_planes is.numbered piece.numbered (lies_on_through h c.face p.winding.value.plane (lies_on_back c.face h c.lies_on) lies) in
          record {
            contender = q;
            listed = among;
            piece = p;
            listed_piece = among_pieces;
            number = number;
            plane = let e : Some h ≡ Some p.winding.value.plane = sym is.numbered ∙ ap (slice_get book) number ∙ piece.numbered in cc;
          }

      found : Contains (map solid_of_contender contenders) c.solid → HasCandidate n h
      found stays =
          let at = Contains-map_from solid_of_contender contenders c.solid stays in
          let has_face = subst (λ (s : Solid). Contains s.outward c.face) (sym at.2) c.has_face in
          let on_face = subst (λ (s : Solid). IsOnFace s cell c.face c.point) (sym at.2) (same_face c.solid cell h c.face c.point (lies_on_back c.face h c.lies_on) c.on_face) in
          let has = (kept_one at.0 at.1).contends.pieces.complete c.face c.point has_face on_face in
          by_piece at.0 has.piece at.1 has.listed has.lies_on

  -- ---- the least one

  pub no_candidate : IsLeastRank contenders None → HasNoCandidate solids book cell
  no_candidate none n h is = let at = piece_of_candidate n h is in none at.contender at.piece at.listed at.listed_piece

zero_or_not : (z : ℤ) → (z ≡ pos 0) ⊎ (z ≡ pos 0 → ⊥)
zero_or_not (pos zero) = inl refl
zero_or_not (pos (suc n)) = inr (λ e. absurd cc)
zero_or_not (negsuc n) = inr (λ e. absurd cc)

axial_or_not : (h : Plane) → IsAxial h ⊎ (IsAxial h → ⊥)
axial_or_not h = by (zero_or_not h.nx) (zero_or_not h.ny) (zero_or_not h.nz)
  where
    by : (h.nx ≡ pos 0) ⊎ (h.nx ≡ pos 0 → ⊥) → (h.ny ≡ pos 0) ⊎ (h.ny ≡ pos 0 → ⊥) → (h.nz ≡ pos 0) ⊎ (h.nz ≡ pos 0 → ⊥) → IsAxial h ⊎ (IsAxial h → ⊥)
    by (inl x) (inl y) z = inl (inr (inr (x, y)))
    by (inl x) (inr y) (inl z) = inl (inr (inl (x, z)))
    by (inl x) (inr y) (inr z) = inr (⊎_elim (λ a. y a.0) (λ r. ⊎_elim (λ a. z a.1) (λ a. y a.1) r))
    by (inr x) (inl y) (inl z) = inl (inl (y, z))
    by (inr x) (inl y) (inr z) = inr (⊎_elim (λ a. z a.1) (λ r. ⊎_elim (λ a. x a.0) (λ a. x a.0) r))
    by (inr x) (inr y) z = inr (⊎_elim (λ a. y a.0) (λ r. ⊎_elim (λ a. x a.0) (λ a. x a.0) r))

rank_of : (p : Piece) → (rank : Rank) × IsRankOf p rank
rank_of p = ⊎_elim
    (λ axial. (record { axial = true; number = p.number }, record { axial = ((λ t. axial), (λ a. refl)); number = refl }))
    (λ not. (record { axial = false; number = p.number }, record { axial = ((λ t. absurd (true≢false (sym t))), (λ a. absurd (not a))); number = refl }))
    (axial_or_not p.winding.value.plane)

-- what comes no later by rank comes first
comes_first : (p r : Piece) (a b : Rank) → IsRankOf p a → IsRankOf r b → IsNoLater a b → ComesFirst p.number p.winding.value.plane r.number r.winding.value.plane
comes_first p r a b is_a is_b not_after = record {
  axial_first = λ axial. by_axial a.axial refl (is_b.axial.1 axial);
  lesser_number = λ also. let l : a.number ≤ b.number = not_less (λ less. not_after (inr (same a.axial b.axial refl refl also, less))) in let m = is_a.number in let n = is_b.number in omega arith;
}
  where
    not_less : (b.number < a.number → ⊥) → a.number ≤ b.number
    not_less never = omega arith

    by_axial : (x : Bool) → a.axial ≡ x → b.axial ≡ true → IsAxial p.winding.value.plane
    by_axial true is of_b = is_a.axial.0 is
    by_axial false is of_b = absurd (not_after (inl (of_b, is)))

    same : (x y : Bool) → a.axial ≡ x → b.axial ≡ y → (IsAxial p.winding.value.plane → IsAxial r.winding.value.plane) → b.axial ≡ a.axial
    same true y x_is y_is also = is_b.axial.1 (also (is_a.axial.0 x_is)) ∙ sym x_is
    same false true x_is y_is also = absurd (not_after (inl (y_is, x_is)))
    same false false x_is y_is also = y_is ∙ sym x_is

module _ (solids : List Solid) (book cell : List Plane) (fragments : Fragments) (are : AreFragmentsOf solids book cell fragments) where
  pub least_of_ranks : (first : Rank) → IsLeastRank fragments.gathering.contenders.items (Some first) → IsLeastCandidate solids book cell first.number (plane_at book first.number)
  least_of_ranks first least =
      let one = least.0.one in
      let is = candidate_of_piece solids book cell fragments are least.0.contender one.piece least.0.listed one.listed in
      let number : one.piece.number ≡ first.number = sym one.is.number in
      let plane : one.piece.winding.value.plane ≡ plane_at book first.number = sym (plane_at_from book one.piece.number one.piece.winding.value.plane is.numbered) ∙ ap (plane_at book) number in
      subst (λ (h : Plane). IsLeastCandidate solids book cell first.number h) plane
      (subst (λ (n : ℕ). IsLeastCandidate solids book cell n one.piece.winding.value.plane) number (record {
        is_one = is;
        first = λ m g of_m.
            let at = piece_of_candidate solids book cell fragments are m g of_m in
            let rank = rank_of at.piece in
            subst (λ (h : Plane). ComesFirst one.piece.number one.piece.winding.value.plane m h) (sym at.plane)
            (subst (λ (k : ℕ). ComesFirst one.piece.number one.piece.winding.value.plane k at.piece.winding.value.plane) (sym at.number)
            (comes_first one.piece at.piece first rank.0 one.is rank.1 (least.1 at.contender at.listed at.piece rank.0 at.listed_piece rank.1)));
      }))
