-- A visit of the next cell keeps what is said of a walk under way.
use Rattle.std.proofs.Common.{◌≡◌, List, [], ◌∷◌, ◌++◌, length, map, sym, ap, ◌∙◌, subst, arith}
use Rattle.std.specs.Prelude.{reverse}
use Rattle.std.specs.List.{AllByRecursion}
use Rattle.std.proofs.lemmas.List.{reverse-append}
use Rattle.qm_space.specs.Plane.{Plane}
use Rattle.qm_solids.specs.Solid.{Solid}
use Rattle.qm_partition.specs.declared.visit.Visit.{Visit}
use Rattle.qm_solid_tree.specs.Division.{Divides}
use Rattle.qm_split.specs.declared.fragments.Fragments.{Fragments}
use Rattle.qm_split.specs.CellFragments.{cell_of_fragments}
use Rattle.qm_build.specs.inner.Waiting.{Completes, IsWalk}
use Rattle.qm_build.specs.inner.UnderWay.{AreFragments, IsUnderWay}
use Rattle.qm_build.specs.inner.Visited.{IsVisited, is_walked, is_node}
use Rattle.qm_build.proofs.Walks.{completes_first, completes_last, completes_whole, completes_node}
use Rattle.qm_build.proofs.WalkedHalves.{front_are, back_are, sides_divide}

-- the next one comes first
pub next_first : (pending : List Fragments) (next : Fragments) → reverse (pending ++ next ∷ []) ≡ next ∷ reverse pending
next_first pending next = reverse-append pending (next ∷ [])

module _ (solids : List Solid) (book root : List Plane) where
  -- what is under way, with the next one first
  record IsReady (waiting : List Fragments) (walk : List Visit) : Type 0 where
    are : AllByRecursion (AreFragments solids book) waiting
    completes : Completes (Divides solids book) root (map cell_of_fragments waiting) walk

  ready : (pending waiting : List Fragments) (walk : List Visit) → reverse pending ≡ waiting → IsUnderWay solids book root pending walk → IsReady waiting walk
  ready pending waiting walk is way =
      subst (λ (w : List Fragments). IsReady w walk) is (record { are = way.are; completes = way.completes })

  under_way : (pending waiting : List Fragments) (walk : List Visit) → reverse pending ≡ waiting → IsReady waiting walk → IsUnderWay solids book root pending walk
  under_way pending waiting walk is way =
      let its = subst (λ (w : List Fragments). IsReady w walk) (sym is) way in
      record { are = its.are; completes = its.completes }

  -- nothing waits
  pub ends : (pending : List Fragments) (walk : List Visit) → length pending ≡ 0 → IsUnderWay solids book root pending walk → IsWalk (Divides solids book root) walk
  ends [] walk none way = completes_last (Divides solids book) root walk way.completes
  ends (fragments ∷ pending) walk none way = absurd (omega arith)

  module _ (fragments : Fragments) (pending : List Fragments) (walk : List Visit) where
    visited_ready : (pending' : List Fragments) (walk' : List Visit) → IsVisited solids book fragments pending walk pending' walk' → IsReady (fragments ∷ reverse pending) walk → IsUnderWay solids book root pending' walk'
    visited_ready pending' walk' (is_walked {whole = whole} is waits wrote) way =
        let completes = completes_whole (Divides solids book) root (cell_of_fragments fragments) (map cell_of_fragments (reverse pending)) walk whole is way.completes in
        under_way pending' (reverse pending) walk' (ap (λ (p : List Fragments). reverse p) waits) (record { are = way.are.1; completes = rw wrote completes })
    visited_ready pending' walk' (is_node {n = n} {halves = halves} sides waits wrote) way =
        let cell = cell_of_fragments fragments in
        let completes = completes_node (Divides solids book) root cell (cell_of_fragments halves.front) (cell_of_fragments halves.back) n (sides_divide solids book fragments n halves sides) (map cell_of_fragments (reverse pending)) walk way.completes in
        let order = ap (λ (p : List Fragments). reverse p) waits ∙ next_first (pending ++ halves.back ∷ []) halves.front ∙ ap (λ (p : List Fragments). halves.front ∷ p) (next_first pending halves.back) in
        under_way pending' (halves.front ∷ halves.back ∷ reverse pending) walk' order (record {
          are = (front_are solids book fragments sides, (back_are solids book fragments sides, way.are.1));
          completes = rw wrote completes;
        })

    -- a visit of the next cell keeps the walk under way
    pub visited : (before pending' : List Fragments) (walk' : List Visit) → before ≡ pending ++ fragments ∷ [] → IsVisited solids book fragments pending walk pending' walk' → IsUnderWay solids book root before walk → IsUnderWay solids book root pending' walk'
    visited before pending' walk' is visit way =
        visited_ready pending' walk' visit (ready before (fragments ∷ reverse pending) walk (ap (λ (p : List Fragments). reverse p) is ∙ next_first pending fragments) way)

    -- and its fragments are those of a cell
    pub next_are : (before : List Fragments) → before ≡ pending ++ fragments ∷ [] → IsUnderWay solids book root before walk → AreFragments solids book fragments
    next_are before is way = (ready before (fragments ∷ reverse pending) walk (ap (λ (p : List Fragments). reverse p) is ∙ next_first pending fragments) way).are.0

module _ (solids : List Solid) (book : List Plane) (fragments : Fragments) (are : AreFragments solids book fragments) where
  -- the cell waits, and nothing is written
  pub begins : IsUnderWay solids book (cell_of_fragments fragments) (fragments ∷ []) []
  begins = record { are = (are, tt); completes = completes_first (Divides solids book) (cell_of_fragments fragments) }
