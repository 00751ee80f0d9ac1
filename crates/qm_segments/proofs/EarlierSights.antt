-- The leaves that a segment enters before the last one are in sight too, by its part up to there.
use Rattle.std.proofs.Common.{◌≡◌, ℕ, List, [], ◌∷◌, ◌++◌, Contains, Some, sym, ap, ◌∙◌, subst, ⊎_elim}
use Rattle.std.proofs.lemmas.List.{append_assoc}
use Rattle.qm_lists.proofs.Elements.{Contains-nil, Contains-cons_cases}
use Rattle.qm_space.specs.Point.{Point}
use Rattle.qm_space.specs.Line.{IsBetween}
use Rattle.qm_contents.specs.declared.contents.Contents.{Contents}
use Rattle.qm_partition.specs.Tree.{Tree}
use Rattle.qm_partition.specs.LeafOfPoint.{IsOffNodePlanes}
use Rattle.qm_contacts.specs.Portals.{Portal}
use Rattle.qm_segments.specs.Segment.{Segment, turned_round}
use Rattle.qm_segments.specs.Generic.{IsGeneric}
use Rattle.qm_segments.specs.Clear.{IsClear, LeafHas}
use Rattle.qm_segments.specs.LeafNumber.{IsNumberOf}
use Rattle.qm_segments.specs.Passes.{Passes}
use Rattle.qm_segments.specs.Sight.{IsInSight}
use Rattle.qm_segments.specs.SeenVia.{IsSeenVia, LiesOnWay}
use Rattle.qm_segments.proofs.Betweenness.{between_turned}
use Rattle.qm_segments.proofs.EndLeaves.{first_leaf}
use Rattle.qm_segments.proofs.GenericSegments.{later_part, later_generic, later_clear, turned_generic, turned_clear, generic_none}
use Rattle.qm_segments.proofs.CutPaths.{IsCut, cut}

-- ---- the earlier part of a segment

abbrev pub earlier_part : Segment → Point → Segment
earlier_part s x = record { from = s.from; to = x }

module _ (tree : Tree) where
  pub earlier_generic : (s : Segment) (x : Point) → IsGeneric tree s → IsBetween x s.from s.to → IsOffNodePlanes tree.planes tree.shape x → IsGeneric tree (earlier_part s x)
  earlier_generic s x generic b off = turned_generic tree (later_part (turned_round s) x) (later_generic tree (turned_round s) x (turned_generic tree s generic) (between_turned x s.from s.to b) off)

  pub earlier_clear : (has : Point → Contents → Type 0) (s : Segment) (x : Point) (contents : Contents) → IsBetween x s.from s.to → IsClear has tree s contents → IsClear has tree (earlier_part s x) contents
  earlier_clear has s x contents b clear = turned_clear tree has (later_part (turned_round s) x) contents (later_clear tree has (turned_round s) x contents (between_turned x s.from s.to b) (turned_clear tree has s contents clear))

  -- ---- lists of leaves

  -- up to an element that stands behind the first, the first stays
  pub begins_alike : (a : ℕ) (rest before : List ℕ) (k : ℕ) (more : List ℕ) → a ∷ rest ≡ before ++ k ∷ more → (tail : List ℕ) × (before ++ k ∷ [] ≡ a ∷ tail)
  begins_alike a rest [] k more is = let same : a ≡ k = cc in ([], ap (λ (j : ℕ). j ∷ []) (sym same))
  begins_alike a rest (b ∷ before) k more is = let same : a ≡ b = cc in (before ++ k ∷ [], ap (λ (j : ℕ). j ∷ (before ++ k ∷ [])) (sym same))

  -- a list around one of its elements
  split_there : (list : List ℕ) (j : ℕ) → Contains list j → (before : List ℕ) × (more : List ℕ) × (list ≡ before ++ j ∷ more)
  split_there [] j there = absurd (Contains-nil j there)
  split_there (a ∷ rest) j there = ⊎_elim
      (λ here. ([], rest, ap (λ (b : ℕ). b ∷ rest) here))
      (λ later. let parts = split_there rest j later in (a ∷ parts.0, parts.1, ap (λ (all : List ℕ). a ∷ all) parts.2))
      (Contains-cons_cases a j rest there)

  -- ---- sight of a leaf that is entered

  -- a segment shows the leaf of number m, after these leaves and in the one at the place j
  pub record IsShownAfter (p : Portal) (before : List ℕ) (j m : ℕ) : Type 0 where
    pub sight : IsInSight tree p m
    pub leaves_are : sight.entered ∷ sight.rest ≡ before ++ j ∷ []

  module _ (p : Portal) (n : ℕ) (sight : IsInSight tree p n) where
    -- a place in a leaf that the segment enters
    at_leaf : (before : List ℕ) (j : ℕ) (more : List ℕ) → sight.entered ∷ sight.rest ≡ before ++ j ∷ more → IsCut tree sight.segment.from sight.segment.to (sight.left ∷ before) j more
    at_leaf before j more leaves_are = cut tree sight.segment.from sight.segment.to (sight.left ∷ before) j more sight.left (sight.entered ∷ sight.rest)
        (generic_none tree sight.segment sight.generic) sight.passes (ap (λ (all : List ℕ). sight.left ∷ all) leaves_are)

    -- the part up to there shows that leaf
    pub shown_up_to : (before : List ℕ) (j : ℕ) (more : List ℕ) (m : ℕ) → sight.entered ∷ sight.rest ≡ before ++ j ∷ more → IsNumberOf tree m j → IsShownAfter p before j m
    shown_up_to before j more m leaves_are number_is =
        let s = sight.segment in
        let at = at_leaf before j more leaves_are in
        let alike = begins_alike sight.entered sight.rest before j more leaves_are in
        record {
          sight = record {
            segment = earlier_part s at.place;
            generic = earlier_generic s at.place sight.generic at.between at.off;
            contents = sight.contents;
            not_solid = sight.not_solid;
            clear = earlier_clear (LeafHas tree) s at.place sight.contents at.between sight.clear;
            left = sight.left;
            entered = sight.entered;
            rest = alike.0;
            passes = subst (λ (all : List ℕ). Passes tree s.from at.place all) (at.earlier_is ∙ ap (λ (all : List ℕ). sight.left ∷ all) alike.1) at.earlier;
            from_is = sight.from_is;
            to_is = sight.to_is;
            last_is = number_is ∙ ap Some (sym (first_leaf tree at.place s.to j more at.off at.later));
          };
          leaves_are = sym alike.1;
        }

    pub entered_in_sight : (m j : ℕ) → Contains (sight.entered ∷ sight.rest) j → IsNumberOf tree m j → IsInSight tree p m
    entered_in_sight m j there number_is =
        let parts = split_there (sight.entered ∷ sight.rest) j there in
        (shown_up_to parts.0 j parts.1 m parts.2 number_is).sight

  -- ---- what lies on the way to a leaf that is seen via a portal is seen via it

  module _ (p q : Portal) (n : ℕ) (via : IsSeenVia tree p q n) where
    pub seen_on_way : (m : ℕ) → LiesOnWay tree via m → IsSeenVia tree p q m
    seen_on_way m on_way =
        let parts = split_there (via.entered ∷ via.after) on_way.place on_way.entered in
        let alike = begins_alike via.entered via.after parts.0 on_way.place parts.1 parts.2 in
        let up_to = via.before ++ via.left ∷ parts.0 in
        let whole = ap (λ (all : List ℕ). via.before ++ via.left ∷ all) parts.2 ∙ sym (append_assoc via.before (via.left ∷ parts.0) (on_way.place ∷ parts.1)) in
        let shown = shown_up_to p n via.sight up_to on_way.place parts.1 m (via.leaves_are ∙ whole) on_way.number_is in
        record {
          sight = shown.sight;
          before = via.before;
          left = via.left;
          entered = via.entered;
          after = alike.0;
          leaves_are = shown.leaves_are ∙ append_assoc via.before (via.left ∷ parts.0) (on_way.place ∷ []) ∙ ap (λ (all : List ℕ). via.before ++ via.left ∷ all) alike.1;
          left_is = via.left_is;
          entered_is = via.entered_is;
        }
