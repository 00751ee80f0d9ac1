-- Generic and clear segments: they pass leaves, and what is turned round or is a later part of one is one too.
use Rattle.std.proofs.Common.{◌≡◌, ℕ, List, ◌∷◌, Contains, Some, slice_get, sym, ap, ◌∙◌, subst, inl, inr, ⊎_elim}
use Rattle.qm_space.specs.Point.{Point, IsInCube}
use Rattle.qm_space.specs.Line.{IsBetween}
use Rattle.qm_contents.specs.declared.contents.Contents.{Contents}
use Rattle.qm_partition.specs.declared.node.Leaf.{Leaf}
use Rattle.qm_partition.specs.Tree.{Tree}
use Rattle.qm_partition.specs.Counting.{node_planes, leaves_of}
use Rattle.qm_partition.specs.LeafOfPoint.{leaf_record_at, IsOffNodePlanes}
use Rattle.qm_partition.proofs.Cells.{number_of_cell}
use Rattle.qm_partition.proofs.LeafNumbers.{leaf_of_number}
use Rattle.qm_segments.specs.Segment.{Segment, turned_round, IsOnSegment}
use Rattle.qm_segments.specs.Generic.{IsGeneric}
use Rattle.qm_segments.specs.Clear.{IsClear, LeafHas}
use Rattle.qm_segments.specs.Passes.{Passes}
use Rattle.qm_segments.proofs.Betweenness.{between_turned, farther_between, between_in_cube}
use Rattle.qm_segments.proofs.LeavesPassed.{NoneHasBoth, passes_leaves}
use Rattle.qm_segments.proofs.OffPlaces.{off_between, none_from_off}
use Rattle.qm_segments.proofs.EndLeaves.{passed_part}

-- ---- points of a segment

pub on_turned : (s : Segment) (x : Point) → IsOnSegment (turned_round s) x → IsOnSegment s x
on_turned s x on = ⊎_elim
    (λ same. inr (inl same))
    (λ more. ⊎_elim (λ same. inl same) (λ b. inr (inr (between_turned x s.to s.from b))) more)
    on

-- from a point between on
abbrev pub later_part : Segment → Point → Segment
later_part s x = record { from = x; to = s.to }

pub on_later : (s : Segment) (x y : Point) → IsBetween x s.from s.to → IsOnSegment (later_part s x) y → IsOnSegment s y
on_later s x y b on = ⊎_elim
    (λ same. inr (inr (subst (λ (z : Point). IsBetween z s.from s.to) (sym same) b)))
    (λ more. ⊎_elim (λ same. inr (inl same)) (λ c. inr (inr (farther_between s.from s.to x y b c))) more)
    on

module _ (tree : Tree) where
  pub on_generic_in_cube : (s : Segment) (x : Point) → IsGeneric tree s → IsBetween x s.from s.to → IsInCube x
  on_generic_in_cube s x generic b = between_in_cube x s.from s.to b generic.from_in_cube generic.to_in_cube

  -- ---- what stays generic and clear

  pub turned_generic : (s : Segment) → IsGeneric tree s → IsGeneric tree (turned_round s)
  turned_generic s generic = record {
    from_in_cube = generic.to_in_cube;
    to_in_cube = generic.from_in_cube;
    from_off = generic.to_off;
    to_off = generic.from_off;
    one_plane = λ x g h on. generic.one_plane x g h (on_turned s x on);
  }

  pub later_generic : (s : Segment) (x : Point) → IsGeneric tree s → IsBetween x s.from s.to → IsOffNodePlanes tree.planes tree.shape x → IsGeneric tree (later_part s x)
  later_generic s x generic b off = record {
    from_in_cube = on_generic_in_cube s x generic b;
    to_in_cube = generic.to_in_cube;
    from_off = off;
    to_off = generic.to_off;
    one_plane = λ y g h on. generic.one_plane y g h (on_later s x y b on);
  }

  pub turned_clear : (has : Point → Contents → Type 0) (s : Segment) (contents : Contents) → IsClear has tree s contents → IsClear has tree (turned_round s) contents
  turned_clear has s contents clear x on off = clear x (on_turned s x on) off

  pub later_clear : (has : Point → Contents → Type 0) (s : Segment) (x : Point) (contents : Contents) → IsBetween x s.from s.to → IsClear has tree s contents → IsClear has tree (later_part s x) contents
  later_clear has s x contents b clear y on off = clear y (on_later s x y b on) off

  -- ---- leaves

  pub generic_none : (s : Segment) → IsGeneric tree s → NoneHasBoth tree (node_planes tree.shape) s.from s.to
  generic_none s generic = none_from_off tree s.from s.to generic.from_off

  -- a generic segment passes leaves in order
  pub generic_passes : (s : Segment) → IsGeneric tree s → (first : ℕ) × (rest : List ℕ) × Passes tree s.from s.to (first ∷ rest)
  generic_passes s generic = passes_leaves tree s.from s.to (generic_none s generic)

  -- each leaf that a part of a clear segment passes has its contents
  pub passed_contents : (p q : Point) (contents : Contents) (first : ℕ) (rest : List ℕ) (k : ℕ) → NoneHasBoth tree (node_planes tree.shape) p q → ((x : Point) → IsBetween x p q → IsOffNodePlanes tree.planes tree.shape x → LeafHas tree x contents) → Passes tree p q (first ∷ rest) → Contains (first ∷ rest) k → (found : Leaf) × (slice_get (leaves_of tree.shape) k ≡ Some found) × (found.contents ≡ contents)
  passed_contents p q contents first rest k none clear passes there =
      let part = passed_part tree p q first rest k passes there in
      let x = off_between tree part.start part.end (part.none (node_planes tree.shape) none) in
      let number = number_of_cell tree.planes tree.shape x.0 k part.inside.way part.inside.way_is (part.inside.inside x.0 x.1) in (
        leaf_record_at tree.planes tree.shape x.0,
        ap (slice_get (leaves_of tree.shape)) (sym number) ∙ leaf_of_number tree.planes tree.shape x.0,
        clear x.0 (part.between x.0 x.1) x.2,
      )
