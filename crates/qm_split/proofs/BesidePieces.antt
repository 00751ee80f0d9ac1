-- Pieces that have no point behind a plane: those that do not lie in it are in front.
use Rattle.std.proofs.Common.{◌≡◌, inl, inr, ⊎_elim, ◌<◌, ◌≤◌, Bool, true, false, true≢false, not, List, [], ◌∷◌, length, Contains, refl, sym, ◌∙◌, ap, arith}
use Rattle.std.specs.List.{filter}
use Rattle.std.proofs.lemmas.List.Elements.{All-contains, All-filter, filter_passes}
use Rattle.qm_numbers.proofs.IntegerProducts.{linear}
use Rattle.qm_space.specs.Plane.{Plane, flipped}
use Rattle.qm_space.specs.Reduced.{IsReduced}
use Rattle.qm_space.proofs.ReducedPlanes.{flipped_twice}
use Rattle.qm_convex.specs.Winding.{IsConvex}
use Rattle.qm_convex.specs.Sides.{HasNoneInFront, IsWhollyInFront, LiesIn}
use Rattle.qm_convex.proofs.Central.{has_a_point}
use Rattle.qm_convex.proofs.OwnPlane.{lies_in_own, own_lies_in, beside}
use Rattle.qm_split.specs.declared.piece.Piece.{Piece}
use Rattle.qm_split.specs.inner.PieceParts.{AreFront, is_same, is_on}
use Rattle.qm_lists.proofs.Elements.{Contains-nil, Contains-cons_cases, Contains-filter}
use Rattle.qm_lists.proofs.Cases.{by_cases}
use Rattle.qm_split.proofs.ListedItems.{all_of_listed}
use Rattle.qm_split.proofs.SidesOfPlanes.{none_of_lying, same_by_test, test_by_same}
use Rattle.qm_split.proofs.PartedPieces.{front_itself}

-- ---- whether a piece lies in a plane, by the numbers of both

pub lies_by_test : (p : Piece) (g : Plane) → is_on g p ≡ true → LiesIn p.winding.value g
lies_by_test p g on = by_cases (is_same p.winding.value.plane g)
    (λ same. own_lies_in p.winding.value g (inl (sym (same_by_test p.winding.value.plane g _ refl same))))
    (λ other. own_lies_in p.winding.value g (inr (sym (flipped_twice g) ∙ ap flipped (sym (same_by_test p.winding.value.plane (flipped g) _ refl (grind (arith, on, other)))))))

pub apart_by_test : (p : Piece) (g : Plane) → IsConvex p.winding.value → IsReduced p.winding.value.plane → IsReduced g → is_on g p ≡ false → LiesIn p.winding.value g → ⊥
apart_by_test p g convex own reduced off lies = ⊎_elim
    (λ same. let t = test_by_same p.winding.value.plane g (sym same) in true≢false (sym (grind (arith, t)) ∙ off))
    (λ turned. let t = test_by_same p.winding.value.plane (flipped g) (sym (flipped_twice p.winding.value.plane) ∙ ap flipped (sym turned)) in true≢false (sym (grind (arith, t)) ∙ off))
    (lies_in_own p.winding.value g convex reduced own lies)

-- ---- how many items a test leaves

module _ {X : Type 0} (test : X → Bool) where
  length_filter : (xs : List X) → length (filter test xs) ≤ length xs
  length_filter [] = omega arith
  length_filter (x ∷ xs) = let rest = length_filter xs in by_cases (test x) (λ is. rw is (omega arith)) (λ is. rw is (omega arith))

  filter_drops : (xs : List X) (y : X) → Contains xs y → test y ≡ false → length (filter test xs) < length xs
  filter_drops [] y among fails = absurd (Contains-nil y among)
  filter_drops (x ∷ xs) y among fails = ⊎_elim
      (λ same. let no : test x ≡ false = ap test same ∙ fails in let rest = length_filter xs in rw no (omega arith))
      (λ later. let rest = filter_drops xs y later fails in by_cases (test x) (λ is. rw is (omega arith)) (λ is. rw is (omega arith)))
      (Contains-cons_cases x y xs among)

-- ---- what is left

abbrev pub stands_off : Plane → Piece → Bool
stands_off g p = not (is_on g p)

-- a piece of known plane without a point behind the plane g
pub record IsBeside (g : Plane) (p : Piece) : Type 0 where
  pub convex : IsConvex p.winding.value
  pub reduced : IsReduced p.winding.value.plane
  pub none : HasNoneInFront p.winding.value (flipped g)

module _ (ps : List Piece) (g : Plane) (reduced : IsReduced g) (are : (p : Piece) → Contains ps p → IsBeside g p) where
  abbrev left : List Piece
  left = filter (stands_off g) ps

  wholly_in_front : (p : Piece) → Contains ps p → is_on g p ≡ false → IsWhollyInFront p.winding.value g
  wholly_in_front p among off =
      let is = are p among in
      beside p.winding.value g is.convex is.none (apart_by_test p g is.convex is.reduced reduced off)

  listed_left : (q : Piece) → Contains left q → Contains ps q × (is_on g q ≡ false)
  listed_left q among = (
    All-contains (λ r. Contains ps r) left q (All-filter (stands_off g) (λ r. Contains ps r) ps (all_of_listed (λ r. Contains ps r) ps (λ r listed. listed))) among,
    (let off : stands_off g q ≡ true = All-contains (λ r. stands_off g r ≡ true) left q (filter_passes (stands_off g) ps) among in
        by_cases (is_on g q) (λ on. absurd (true≢false (sym off ∙ ap not on))) (λ no. no)),
  )

  pub left_in_front : AreFront ps g left
  left_in_front = record {
    each = λ q among.
        let at = listed_left q among in
        record { piece = q; listed = at.0; is = front_itself q g (are q at.0).convex (wholly_in_front q at.0 at.1) };
    all = λ p among. by_cases (is_on g p)
        (λ on. inl (none_of_lying p.winding.value g (lies_by_test p g on)))
        (λ off. inr (record {
          piece = p;
          listed = Contains-filter (stands_off g) ps p among (ap not off);
          is = front_itself p g (are p among).convex (wholly_in_front p among off);
        }));
    no_more = length_filter (stands_off g) ps;
    fewer = λ p among gone. by_cases (is_on g p)
        (λ on. filter_drops (stands_off g) ps p among (ap not on))
        (λ off.
        let at = has_a_point p.winding.value (are p among).convex in
        let none = gone at.0 at.1 in
        let front = wholly_in_front p among off at.0 at.1 in
        absurd (omega (arith, linear)));
  }
