-- The leaves that solids touch, by one solid after another, and their numbers.
use Rattle.std.proofs.Common.{◌≡◌, ◌<◌, ℕ, List, [], ◌∷◌, ◌++◌, All, get_or, Contains, subst, sym, arith, ◌↔◌, ◌⊎◌, inl, inr, ⊎_elim}
use Rattle.std.proofs.lemmas.List.Elements.{Contains-append_left, Contains-append_right, Contains-append_cases, Contains-get_or}
use Rattle.std.proofs.lemmas.Option.{slice_get_within}
use Rattle.qm_lists.proofs.Elements.{Contains-nil, Contains-first, Contains-cons_cases}
use Rattle.qm_space.specs.Point.{Point, IsInCube}
use Rattle.qm_solids.specs.Solid.{Solid, inward}
use Rattle.qm_solids.specs.Holding.{IsInside}
use Rattle.qm_partition.specs.Tree.{Tree}
use Rattle.qm_partition.specs.Counting.{leaf_count}
use Rattle.qm_partition.specs.Ways.{ways}
use Rattle.qm_partition.specs.LeafOfPoint.{leaf_at, IsOffNodePlanes}
use Rattle.qm_partition.proofs.Cells.{length-ways}
use Rattle.qm_segments.specs.LeafNumber.{IsNumberOf}
use Rattle.qm_reach.specs.ReachedLeaves.{ReachesLeaf}
use Rattle.qm_reach.proofs.FoundLeaves.{leaf_of_point_reached}
use Rattle.qm_outlines.specs.ModelLeaves.{IsTouchedLeaf, AreModelLeaves}
use Rattle.qm_outlines.specs.Outlines.{AreTouchedLeaves, AreSortedNumbers}

module _ (tree : Tree) where
  pub none_touched : (k : ℕ) → IsTouchedLeaf tree [] k → ⊥
  none_touched k touched = Contains-nil touched.solid touched.listed

  -- with one solid more
  pub touched_more : (solids : List Solid) (solid : Solid) (k : ℕ) → IsTouchedLeaf tree (solids ++ solid ∷ []) k ↔ (IsTouchedLeaf tree solids k ⊎ ReachesLeaf tree (inward solid) k)
  touched_more solids solid k = (
    (λ touched. ⊎_elim
        (λ first. inl (record { solid = touched.solid; listed = first; reached = touched.reached }))
        (λ last. inr (subst (λ (s : Solid). ReachesLeaf tree (inward s) k) (sym (only touched.solid last)) touched.reached))
        (Contains-append_cases solids (solid ∷ []) touched.solid touched.listed)),
    (λ either. ⊎_elim
        (λ before. record { solid = before.solid; listed = Contains-append_left solids (solid ∷ []) before.solid before.listed; reached = before.reached })
        (λ its. record { solid = solid; listed = Contains-append_right solids (solid ∷ []) solid (Contains-first solid []); reached = its })
        either),
  )
    where
      only : (other : Solid) → Contains (solid ∷ []) other → solid ≡ other
      only other listed = ⊎_elim (λ same. same) (λ later. absurd (Contains-nil other later)) (Contains-cons_cases solid other [] listed)

  -- the leaves that a solid reaches are added
  pub touched_added : (solids : List Solid) (solid : Solid) (touched own : List ℕ) → AreTouchedLeaves tree solids touched → ((k : ℕ) → Contains own k ↔ ReachesLeaf tree (inward solid) k) → AreTouchedLeaves tree (solids ++ solid ∷ []) (touched ++ own)
  touched_added solids solid touched own are reached k = (
    (λ listed. (touched_more solids solid k).1 (⊎_elim
        (λ before. inl ((are k).0 before))
        (λ its. inr ((reached k).0 its))
        (Contains-append_cases touched own k listed))),
    (λ is. ⊎_elim
        (λ before. Contains-append_left touched own k ((are k).1 before))
        (λ its. Contains-append_right touched own k ((reached k).1 its))
        ((touched_more solids solid k).0 is)),
  )

  -- a solid that reaches none adds none
  pub touched_same : (solids : List Solid) (solid : Solid) (touched : List ℕ) → AreTouchedLeaves tree solids touched → ((k : ℕ) → ReachesLeaf tree (inward solid) k → ⊥) → AreTouchedLeaves tree (solids ++ solid ∷ []) touched
  touched_same solids solid touched are never k = (
    (λ listed. (touched_more solids solid k).1 (inl ((are k).0 listed))),
    (λ is. ⊎_elim (λ before. (are k).1 before) (λ its. absurd (never k its)) ((touched_more solids solid k).0 is)),
  )

  -- the numbers of the touched leaves are the model's leaves
  pub leaves_of_touched : (solids : List Solid) (touched numbers : List ℕ) → AreTouchedLeaves tree solids touched → AreSortedNumbers tree touched numbers → AreModelLeaves tree solids numbers
  leaves_of_touched solids touched numbers touched_are are = record {
    ascending = are.ascending;
    are = λ n. (
      (λ listed. let its = (are.are n).0 listed in record { leaf = its.0; number = its.1; touched = (touched_are its.0).0 its.2 }),
      (λ its. (are.are n).1 (its.leaf, its.number, (touched_are its.leaf).1 its.touched)),
    );
  }

  -- a touched leaf is one of the tree
  touched_within : (solids : List Solid) (k : ℕ) → IsTouchedLeaf tree solids k → k < leaf_count tree.shape
  touched_within solids k touched =
      let within = slice_get_within (ways tree.shape) k touched.reached.way touched.reached.way_is in
      omega (arith, within, length-ways tree.shape)

  pub all_within : (solids : List Solid) (touched : List ℕ) → AreTouchedLeaves tree solids touched → All (λ k. k < leaf_count tree.shape) touched
  all_within solids touched are k d within = touched_within solids (get_or touched k d) ((are (get_or touched k d)).0 (Contains-get_or touched k d within))

  -- a point strictly inside one of the solids, off the node planes, has its leaf among them, if that is numbered
  pub point_in_leaves : (solids : List Solid) (leaves : List ℕ) (solid : Solid) (x : Point) (n : ℕ) → AreModelLeaves tree solids leaves → Contains solids solid → IsInCube x → IsInside solid x →
      IsOffNodePlanes tree.planes tree.shape x → IsNumberOf tree n (leaf_at tree.planes tree.shape x) → Contains leaves n
  point_in_leaves solids leaves solid x n are listed in_cube inside off number = (are.are n).1 (record {
    leaf = leaf_at tree.planes tree.shape x;
    number = number;
    touched = record { solid = solid; listed = listed; reached = leaf_of_point_reached tree (inward solid) x in_cube inside off };
  })
