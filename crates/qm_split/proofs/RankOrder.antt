-- The order of ranks, and the first of the ranks of pieces.
use Rattle.std.proofs.Common.{◌≡◌, ◌⊎◌, inl, inr, ⊎_elim, ◌<◌, Bool, true, false, true≢false, Option, Some, None, List, [], ◌∷◌, ◌++◌, All, Contains, refl, sym, ◌∙◌, ap, subst, arith, ℕ}
use Rattle.std.proofs.lemmas.List.Elements.{All-contains, Contains-push, Contains-push_cases, Contains-append_left}
use Rattle.qm_lists.proofs.Elements.{All-first_part, Contains-nil, Contains-first}
use Rattle.qm_space.specs.Plane.{Plane}
use Rattle.qm_split.specs.declared.rank.Rank.{Rank}
use Rattle.qm_split.specs.declared.piece.Piece.{Piece}
use Rattle.qm_split.specs.declared.contender.Contender.{Contender}
use Rattle.qm_split.specs.Pieces.{IsContender}
use Rattle.qm_split.specs.inner.Ranks.{IsNoLater, IsFirstOf}
use Rattle.qm_split.specs.inner.Ranked.{IsRankOf, IsRankOfOne, IsAfterNone, IsLesser, IsLeastRank}

-- ---- the order

not_before_itself : (x : Bool) (m : ℕ) → ((x ≡ true) × (x ≡ false)) ⊎ ((x ≡ x) × (m < m)) → ⊥
not_before_itself x m (inl both) = true≢false (sym both.0 ∙ both.1)
not_before_itself x m (inr less) = let l = less.1 in absurd (omega arith)

pub not_after_itself : (a : Rank) → IsNoLater a a
not_after_itself a before = not_before_itself a.axial a.number before

by_numbers : (m n k : ℕ) → (n < m → ⊥) → (k < n → ⊥) → k < m → ⊥
by_numbers m n k first second less = absurd (omega arith)

through : (x y z : Bool) (m n k : ℕ) →
    (((y ≡ true) × (x ≡ false)) ⊎ ((y ≡ x) × (n < m)) → ⊥) → (((z ≡ true) × (y ≡ false)) ⊎ ((z ≡ y) × (k < n)) → ⊥) →
    ((z ≡ true) × (x ≡ false)) ⊎ ((z ≡ x) × (k < m)) → ⊥
through true true true m n k first second before =
    by_numbers m n k (λ l. first (inr (refl, l))) (λ l. second (inr (refl, l))) (⊎_elim (λ both. absurd (true≢false both.1)) (λ less. less.1) before)
through true true false m n k first second before = ⊎_elim (λ both. true≢false (sym both.0)) (λ less. true≢false (sym less.0)) before
through true false true m n k first second before = second (inl (refl, refl))
through true false false m n k first second before = ⊎_elim (λ both. true≢false (sym both.0)) (λ less. true≢false (sym less.0)) before
through false true z m n k first second before = first (inl (refl, refl))
through false false true m n k first second before = second (inl (refl, refl))
through false false false m n k first second before =
    by_numbers m n k (λ l. first (inr (refl, l))) (λ l. second (inr (refl, l))) (⊎_elim (λ both. absurd (true≢false (sym both.0))) (λ less. less.1) before)

pub not_after_through : (a b c : Rank) → IsNoLater a b → IsNoLater b c → IsNoLater a c
not_after_through a b c first second before = through a.axial b.axial c.axial a.number b.number c.number first second before

-- a piece has one rank
one_rank : (piece : Piece) (a b : Rank) → IsRankOf piece a → IsRankOf piece b → a ≡ b
one_rank piece a b is_a is_b =
    let axial = both a.axial b.axial (λ t. is_b.axial.1 (is_a.axial.0 t)) (λ t. is_a.axial.1 (is_b.axial.0 t)) in
    let number = is_a.number ∙ sym is_b.number in
    λ i. record { axial = axial i; number = number i }
  where
    both : (x y : Bool) → (x ≡ true → y ≡ true) → (y ≡ true → x ≡ true) → x ≡ y
    both true y there back = sym (there refl)
    both false true there back = back refl
    both false false there back = refl

not_after_its_own : (piece : Piece) (a b : Rank) → IsRankOf piece a → IsRankOf piece b → IsNoLater a b
not_after_its_own piece a b is_a is_b = subst (IsNoLater a) (one_rank piece a b is_a is_b) (not_after_itself a)

-- ---- the first of several

no_rank : {P : Type 0} (r : Rank) → None ≡ Some r → P
no_rank r same = absurd cc

same_rank : (a b : Rank) → Some a ≡ Some b → a ≡ b
same_rank a b same = cc

pub lesser_begins : (before : Option Rank) → IsLesser before [] before
lesser_begins None = (refl, λ piece among. Contains-nil piece among)
lesser_begins (Some first) = (
  inl refl,
  (λ rank same. subst (IsNoLater first) (same_rank first rank same) (not_after_itself first)),
  (λ piece other among is. absurd (Contains-nil piece among)),
)

module _ (before : Option Rank) (pieces : List Piece) (piece : Piece) (rank : Rank) (is : IsRankOf piece rank) where
  its_own : IsRankOfOne (pieces ++ piece ∷ []) rank
  its_own = record { piece = piece; listed = Contains-push pieces piece; is = is }

  lesser_after_none : IsLesser before pieces None → IsLesser before (pieces ++ piece ∷ []) (Some rank)
  lesser_after_none none = (
    inr its_own,
    (λ r same. no_rank r (sym none.0 ∙ same)),
    (λ other s among of_other. ⊎_elim (λ earlier. absurd (none.1 other earlier))
        (λ same. not_after_its_own piece rank s is (subst (λ (p : Piece). IsRankOf p s) (sym same) of_other))
        (Contains-push_cases pieces piece other among)),
  )

  lesser_after_some : (least first : Rank) → IsLesser before pieces (Some least) → IsFirstOf (Some least) rank first → IsLesser before (pieces ++ piece ∷ []) (Some first)
  lesser_after_some least first are is_first = (
    ⊎_elim
        (λ same. ⊎_elim (λ b. inl (b ∙ ap (λ (r : Rank). Some r) (sym same)))
        (λ one. inr (record { piece = one.piece; listed = Contains-append_left pieces (piece ∷ []) one.piece one.listed; is = subst (IsRankOf one.piece) (sym same) one.is })) are.0)
        (λ same. inr (subst (IsRankOfOne (pieces ++ piece ∷ [])) (sym same) its_own))
        is_first.0,
    (λ r same. not_after_through first least r is_first.1 (are.1 r same)),
    (λ other s among of_other. ⊎_elim
        (λ earlier. not_after_through first least s is_first.1 (are.2 other s earlier of_other))
        (λ same. not_after_through first rank s is_first.2 (not_after_its_own piece rank s is (subst (λ (p : Piece). IsRankOf p s) (sym same) of_other)))
        (Contains-push_cases pieces piece other among)),
  )

  pub lesser_more : (least : Option Rank) (first : Rank) → IsLesser before pieces least → IsFirstOf least rank first → IsLesser before (pieces ++ piece ∷ []) (Some first)
  lesser_more None first are is_first = subst (λ (r : Rank). IsLesser before (pieces ++ piece ∷ []) (Some r)) (sym is_first) (lesser_after_none are)
  lesser_more (Some least) first are is_first = lesser_after_some least first are is_first

-- the first of a rank and of pieces whose first is known
pub lesser_joined : (before : Option Rank) (pieces : List Piece) (own first : Rank) → IsLesser None pieces (Some own) → IsFirstOf before own first → IsLesser before pieces (Some first)
lesser_joined None pieces own first are is_first = subst (λ (r : Rank). IsLesser None pieces (Some r)) (sym is_first) are
lesser_joined (Some least) pieces own first are is_first = (
  ⊎_elim
      (λ same. inl (ap (λ (r : Rank). Some r) (sym same)))
      (λ same. inr (subst (IsRankOfOne pieces) (sym same) (⊎_elim (λ none. no_rank own none) (λ one. one) are.0)))
      is_first.0,
  (λ r same. subst (IsNoLater first) (same_rank least r same) is_first.1),
  (λ piece other among of_other. not_after_through first own other is_first.2 (are.2 piece other among of_other)),
)

pub first_one : (pieces : List Piece) (own : Rank) → IsLesser None pieces (Some own) → IsRankOfOne pieces own
first_one pieces own are = ⊎_elim (λ none. no_rank own none) (λ one. one) are.0

pub no_pieces : (pieces : List Piece) → IsLesser None pieces None → pieces ≡ []
no_pieces [] none = refl
no_pieces (piece ∷ pieces) none = absurd (none.1 piece (Contains-first piece pieces))

-- ---- the first of all

pub least_begins : IsLeastRank [] None
least_begins contender piece among among_pieces = Contains-nil contender among

module _ (done : List Contender) (contender : Contender) where
  -- what is not after the first one so far, and after none of the new pieces
  after_none_of_next : (first : Rank) → ((q : Contender) → Contains done q → IsAfterNone q.body.value.pieces.items first) → IsAfterNone contender.body.value.pieces.items first →
      (q : Contender) → Contains (done ++ contender ∷ []) q → IsAfterNone q.body.value.pieces.items first
  after_none_of_next first earlier own q among = ⊎_elim (λ before. earlier q before) (λ same. subst (λ (r : Contender). IsAfterNone r.body.value.pieces.items first) same own) (Contains-push_cases done contender q among)

  pub least_more : (least result : Option Rank) → IsLeastRank done least → IsLesser least contender.body.value.pieces.items result → IsLeastRank (done ++ contender ∷ []) result
  least_more None None are is = λ q piece among among_pieces. ⊎_elim (λ before. are q piece before among_pieces) (λ same. is.1 piece (subst (λ (r : Contender). Contains r.body.value.pieces.items piece) (sym same) among_pieces)) (Contains-push_cases done contender q among)
  least_more (Some least) None are is = no_rank least (sym is.0)
  least_more None (Some first) are is = (
    record { contender = contender; listed = Contains-push done contender; one = ⊎_elim (λ same. no_rank first same) (λ one. one) is.0 },
    after_none_of_next first (λ q among piece other among_pieces of_other. absurd (are q piece among among_pieces)) is.2,
  )
  least_more (Some least) (Some first) are is = (
    ⊎_elim
        (λ same. record {
          contender = are.0.contender;
          listed = Contains-append_left done (contender ∷ []) are.0.contender are.0.listed;
          one = subst (IsRankOfOne are.0.contender.body.value.pieces.items) (same_rank least first same) are.0.one;
        })
        (λ one. record { contender = contender; listed = Contains-push done contender; one = one })
        is.0,
    after_none_of_next first (λ q among piece other among_pieces of_other. not_after_through first least other (is.1 least refl) (are.1 q among piece other among_pieces of_other)) is.2,
  )

-- ---- contenders that know the rank of their first piece

abbrev pub AreLeastRank : List Contender → Option Rank → Type 0
AreLeastRank done least = (book cell : List Plane) → All (IsContender book cell) done → IsLeastRank done least

pub least_rank_begins : AreLeastRank [] None
least_rank_begins book cell all = least_begins

pub least_rank_more : (done : List Contender) (contender : Contender) (least : Option Rank) (first : Rank) → AreLeastRank done least → IsFirstOf least contender.least first → AreLeastRank (done ++ contender ∷ []) (Some first)
least_rank_more done contender least first are is_first book cell all =
    least_more done contender least (Some first) (are book cell (All-first_part (IsContender book cell) done (contender ∷ []) all))
    (lesser_joined least contender.body.value.pieces.items contender.least first (All-contains (IsContender book cell) (done ++ contender ∷ []) contender all (Contains-push done contender)).first is_first)
