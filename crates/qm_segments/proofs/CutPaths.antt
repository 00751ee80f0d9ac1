-- The leaves that one passes, cut in two at a place in one of them, and read from the other end.
use Rattle.std.proofs.Common.{◌≡◌, ◌≢◌, ℕ, List, [], ◌∷◌, ◌++◌, Contains, reverse, refl, sym, ap, ◌∙◌, subst, arith, ⊎_elim}
use Rattle.std.proofs.lemmas.List.Elements.{All-contains, Contains-append_cases}
use Rattle.qm_lists.proofs.Elements.{Contains-first, Contains-later, Contains-cons_cases}
use Rattle.qm_lists.proofs.Reversed.{reverse-cons}
use Rattle.qm_space.specs.Point.{Point}
use Rattle.qm_space.specs.Line.{IsBetween}
use Rattle.qm_partition.specs.Tree.{Tree}
use Rattle.qm_partition.specs.Counting.{node_planes}
use Rattle.qm_partition.specs.LeafOfPoint.{IsOffNodePlanes}
use Rattle.qm_segments.specs.Passes.{IsWithinLeaf, Passes, within, onward}
use Rattle.qm_segments.proofs.Betweenness.{between_turned, nearer_between, later_between, farther_between, earlier_between}
use Rattle.qm_segments.proofs.LeavesPassed.{NoneHasBoth, none_up_to, none_from, passes_on}
use Rattle.qm_segments.proofs.OffPlaces.{off_between}
use Rattle.qm_segments.proofs.LeavesOnce.{leaves_once}

-- ---- lists with an element in them

no_more : {P : Type 0} (before : List ℕ) (k : ℕ) (more : List ℕ) → [] ≡ before ++ k ∷ more → P
no_more [] k more is = absurd cc
no_more (first ∷ before) k more is = absurd cc

same_head : (before : List ℕ) (k a b : ℕ) (one two xs ys : List ℕ) → a ∷ xs ≡ before ++ k ∷ one → b ∷ ys ≡ before ++ k ∷ two → a ≡ b
same_head [] k a b one two xs ys first second = let x : a ≡ k = cc in let y : b ≡ k = cc in x ∙ sym y
same_head (c ∷ before) k a b one two xs ys first second = let x : a ≡ c = cc in let y : b ≡ c = cc in x ∙ sym y

module _ (tree : Tree) where
  -- parts of what is within a leaf
  within_up_to : (p q z : Point) (k : ℕ) → IsBetween z p q → IsWithinLeaf tree p q k → IsWithinLeaf tree p z k
  within_up_to p q z k b inside = record { way = inside.way; way_is = inside.way_is; inside = λ x c. inside.inside x (nearer_between p q z x b c) }

  within_from : (p q z : Point) (k : ℕ) → IsBetween z p q → IsWithinLeaf tree p q k → IsWithinLeaf tree z q k
  within_from p q z k b inside = record { way = inside.way; way_is = inside.way_is; inside = λ x c. inside.inside x (farther_between p q z x b c) }

  within_turned : (p q : Point) (k : ℕ) → IsWithinLeaf tree p q k → IsWithinLeaf tree q p k
  within_turned p q k inside = record { way = inside.way; way_is = inside.way_is; inside = λ x b. inside.inside x (between_turned x q p b) }

  -- ---- cut in two

  -- a place off the node planes in the leaf k, with the leaves up to there and those from there on
  pub record IsCut (p q : Point) (before : List ℕ) (k : ℕ) (more : List ℕ) : Type 0 where
    pub place : Point
    pub between : IsBetween place p q
    pub off : IsOffNodePlanes tree.planes tree.shape place
    pub first : ℕ
    pub others : List ℕ
    pub earlier : Passes tree p place (first ∷ others)
    pub earlier_is : first ∷ others ≡ before ++ k ∷ []
    pub later : Passes tree place q (k ∷ more)

  pub cut : (p q : Point) (before : List ℕ) (k : ℕ) (more : List ℕ) (a : ℕ) (rest : List ℕ) → NoneHasBoth tree (node_planes tree.shape) p q → Passes tree p q (a ∷ rest) → a ∷ rest ≡ before ++ k ∷ more → IsCut p q before k more
  cut p q [] k more a rest none (within inside) is =
      let z = off_between tree p q none in
      let same : a ≡ k = cc in
      record {
        place = z.0;
        between = z.1;
        off = z.2;
        first = a;
        others = [];
        earlier = within (within_up_to p q z.0 a z.1 inside);
        earlier_is = ap (λ (j : ℕ). j ∷ []) same;
        later = subst (λ (all : List ℕ). Passes tree z.0 q all) is (within (within_from p q z.0 a z.1 inside));
      }
  cut p q [] k more a rest none (onward {m = m} {n = n} {rest = others} at inside apart after) is =
      let z = off_between tree p m (none_up_to tree (node_planes tree.shape) p m q at none) in
      let same : a ≡ k = cc in
      record {
        place = z.0;
        between = nearer_between p q m z.0 at z.1;
        off = z.2;
        first = a;
        others = [];
        earlier = within (within_up_to p m z.0 a z.1 inside);
        earlier_is = ap (λ (j : ℕ). j ∷ []) same;
        later = subst (λ (all : List ℕ). Passes tree z.0 q all) is (onward (later_between p q m z.0 at z.1) (within_from p m z.0 a z.1 inside) apart after);
      }
  cut p q (b ∷ before) k more a rest none (within inside) is = no_more before k more cc
  cut p q (b ∷ before) k more a rest none (onward {m = m} {n = n} {rest = others} at inside apart after) is =
      let same : a ≡ b = cc in
      let rest_is : n ∷ others ≡ before ++ k ∷ more = cc in
      let part = cut m q before k more n others (none_from tree (node_planes tree.shape) p m q at none) after rest_is in
      record {
        place = part.place;
        between = farther_between p q m part.place at part.between;
        off = part.off;
        first = a;
        others = part.first ∷ part.others;
        earlier = onward (earlier_between p q m part.place at part.between) inside (λ is_first. apart (is_first ∙ same_head before k part.first n [] more part.others others part.earlier_is rest_is)) part.earlier;
        earlier_is = λ i. same i ∷ part.earlier_is i;
        later = part.later;
      }

  -- ---- read from the other end

  Contains-reverse_from : (xs : List ℕ) (x : ℕ) → Contains (reverse xs) x → Contains xs x
  Contains-reverse_from [] x there = there
  Contains-reverse_from (y ∷ xs) x there = ⊎_elim
      (λ here. Contains-later y x xs (Contains-reverse_from xs x here))
      (λ last. ⊎_elim
      (λ same. subst (λ (z : ℕ). Contains (y ∷ xs) z) same (Contains-first y xs))
      (λ none. absurd (let range = none.1 in omega arith))
      (Contains-cons_cases y x [] last))
      (Contains-append_cases (reverse xs) (y ∷ []) x (subst (λ (all : List ℕ). Contains all x) (reverse-cons y xs) there))

  pub record IsReadBack (p q : Point) (all : List ℕ) : Type 0 where
    pub first : ℕ
    pub others : List ℕ
    pub passes : Passes tree q p (first ∷ others)
    pub leaves_are : first ∷ others ≡ reverse all

  pub read_back : (p q : Point) (k : ℕ) (rest : List ℕ) → Passes tree p q (k ∷ rest) → IsReadBack p q (k ∷ rest)
  read_back p q k rest (within inside) = record { first = k; others = []; passes = within (within_turned p q k inside); leaves_are = refl }
  read_back p q k rest (onward {m = m} {n = n} {rest = others} at inside apart more) =
      let back = read_back m q n others more in
      let once = leaves_once tree p q k (n ∷ others) (onward at inside apart more) in
      record {
        first = back.first;
        others = back.others ++ k ∷ [];
        passes = passes_on tree q m p back.first k back.others [] (between_turned m p q at) back.passes
            (λ j there same. All-contains (λ b. k ≢ b) (n ∷ others) j once.0 (Contains-reverse_from (n ∷ others) j (subst (λ (all : List ℕ). Contains all j) back.leaves_are there)) (sym same))
            (within (within_turned p m k inside));
        leaves_are = ap (λ (all : List ℕ). all ++ k ∷ []) back.leaves_are ∙ sym (reverse-cons k (n ∷ others));
      }
