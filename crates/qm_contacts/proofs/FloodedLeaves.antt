-- What the steps of leaves tell: the nearest of the leaves that a leaf touches, who leaks, and which leaves are filled.
use Rattle.std.proofs.Common.{◌≡◌, ◌≢◌, ℕ, ◌+◌, ◌<◌, ◌≤◌, Bool, true, false, List, [], take, replicate, length, get_or, Some, inl, ⊎_elim, sym, ap, ◌∙◌, subst, arith, ◌↔◌}
use Rattle.std.specs.List.{All, Contains}
use Rattle.std.proofs.lemmas.Bool.{cases_eq, cases_lt}
use Rattle.std.proofs.lemmas.List.{get_or_default, get_or_past, get_or-take, length-take, get_or-replicate, length-replicate}
use Rattle.std.proofs.lemmas.List.Elements.{All-contains, All-get_or}
use Rattle.std.proofs.lemmas.List.Kept.{AllPairs-from_increasing}
use Rattle.std.proofs.lemmas.Option.{slice_get_within}
use Rattle.qm_lists.specs.WorkList.{IsIn}
use Rattle.qm_lists.specs.inner.Steps.{steps_of, AreSteps, SpreadsOn}
use Rattle.qm_lists.proofs.SpreadSteps.{spreads_skip}
use Rattle.qm_contents.specs.declared.contents.Contents.{Contents}
use Rattle.qm_contents.specs.declared.contents.Contents.TheVariants.{Solid}
use Rattle.qm_partition.specs.declared.node.Leaf.{Leaf}
use Rattle.qm_partition.specs.Tree.{Tree}
use Rattle.qm_partition.specs.Counting.{leaves_of, leaf_count}
use Rattle.qm_partition.specs.LeafOfPoint.{leaf_record_at}
use Rattle.qm_partition.specs.Numbering.{nodes_after, leaves_after}
use Rattle.qm_partition.proofs.Counts.{leaves_after-count}
use Rattle.qm_partition.proofs.LeafNumbers.{leaf_of_number}
use Rattle.qm_contacts.specs.Meeting.{meetings}
use Rattle.qm_contacts.specs.Contact.{TouchAcross, Touch}
use Rattle.qm_contacts.specs.Contacts.{AreNeighbours}
use Rattle.qm_contacts.specs.Reached.{is_passable, IsPassable, Begins, FloodsInto}
use Rattle.qm_contacts.specs.Leak.{Origin, leaf_of_origin, TakesPart, Leaks, AreInOrder, IsFirstLeak}
use Rattle.qm_contacts.specs.Filled.{NoneTakesPart, IsSealed, IsFilledRow}
use Rattle.qm_contacts.specs.inner.Descends.{IsNextOfTrail}
use Rattle.qm_contacts.proofs.Meetings.{IsBetween, meetings_between}
use Rattle.qm_contacts.proofs.Trails.{reached_passable, next_down}

-- ---- numbers of leaves

across_within : (tree : Tree) (a b : ℕ) → TouchAcross tree a b → (a < leaf_count tree.shape) × (b < leaf_count tree.shape)
across_within tree a b across =
    let Between = IsBetween 0 (nodes_after tree.shape 0) 0 (leaves_after tree.shape 0) in
    let is = All-contains Between (meetings tree) across.meeting (meetings_between tree.shape 0 0 []) across.listed in
    let count = leaves_after-count tree.shape 0 in
    (omega (arith, is.leaf_order, is.leaf_high, count, across.front), omega (arith, is.leaf_high, count, across.back))

-- a leaf that another touches is one of the tree
pub touched_within : (tree : Tree) (a b : ℕ) → Touch tree a b → b < leaf_count tree.shape
touched_within tree a b touch = ⊎_elim (λ across. (across_within tree a b across).1) (λ across. (across_within tree b a across).0) touch

pub passable_within : (tree : Tree) (k : ℕ) → IsPassable tree k → k < leaf_count tree.shape
passable_within tree k can = slice_get_within (leaves_of tree.shape) k can.found can.leaf_is

-- ---- the neighbours of a leaf

-- that a leaf goes to those of its neighbours that can be passed is that it goes on
pub goes_to_neighbours : (tree : Tree) (k : ℕ) (neighbours old_steps steps old_found found : List ℕ) → AreNeighbours tree k neighbours → SpreadsOn (λ from to. Contains neighbours to × IsPassable tree to) k old_steps steps old_found found → SpreadsOn (FloodsInto tree) k old_steps steps old_found found
goes_to_neighbours tree k neighbours old_steps steps old_found found are step =
    spreads_skip (λ from to. Contains neighbours to × IsPassable tree to) (FloodsInto tree) k old_steps steps old_found found step
    (λ to both. record { touch = (are.touch to).0 both.0; passable = both.1 })
    (λ to on. inl ((are.touch to).1 on.touch, on.passable))

module _ (tree : Tree) (k : ℕ) (neighbours : List ℕ) (are : AreNeighbours tree k neighbours) (steps : List ℕ) (wanted : ℕ) (one_less : steps_of steps k ≡ wanted + 1) (some : 0 < wanted) where
  place_of : (other : ℕ) → Touch tree k other → (j : ℕ) × (j < length neighbours) × (get_or neighbours j 0 ≡ other)
  place_of other touch =
      let listed = (are.touch other).1 touch in
      (listed.0, listed.1, sym (get_or_default neighbours listed.0 other 0 listed.1) ∙ listed.2)

  -- the first neighbour of so many steps is the nearest
  pub nearest_at : (i next : ℕ) → i < length neighbours → get_or neighbours i 0 ≡ next → ((j : ℕ) → j < i → steps_of steps (get_or neighbours j 0) ≢ wanted) → steps_of steps next ≡ wanted → IsNextOfTrail tree steps k next
  nearest_at i next within at none has = record {
    some = omega (arith, some, has);
    one_less = omega (arith, one_less, has);
    touch = (are.touch next).0 (i, within, get_or_default neighbours i next 0 within ∙ at);
    least = least;
  }
    where
      least : (other : ℕ) → Touch tree k other → steps_of steps other ≡ steps_of steps next → next ≤ other
      least other touch same =
          let there = place_of other touch in
          ⊎_elim
          (λ before. absurd (none there.0 before (ap (steps_of steps) there.2 ∙ same ∙ has)))
          (λ not_before. ⊎_elim
          (λ here. let equal = ap (λ (j : ℕ). get_or neighbours j 0) here in omega (arith, equal, at, there.2))
          (λ later. let less = AllPairs-from_increasing neighbours are.ascending i there.0 0 (omega (arith, not_before, later)) there.1 in omega (arith, less, at, there.2))
          (cases_eq i there.0))
          (cases_lt there.0 i)

  -- and one of them has as many
  pub none_nearer : AreSteps (Begins tree) (FloodsInto tree) steps → ((j : ℕ) → j < length neighbours → steps_of steps (get_or neighbours j 0) ≢ wanted) → ⊥
  none_nearer are_steps none =
      let next = next_down tree steps are_steps k (omega (arith, one_less, some)) in
      let there = place_of next.0 next.3 in
      none there.0 there.1 (ap (steps_of steps) there.2 ∙ omega (arith, one_less, next.2))

-- ---- who leaks

-- what holds of the first elements holds of each of them
All-before : {X : Type 0} (P : X → Type 0) (xs : List X) (i j : ℕ) (d : X) → j < length xs → j < i → All P (take i xs) → P (get_or xs j d)
All-before P xs i j d within before all = subst P (get_or-take i xs j d before) (All-get_or P (take i xs) j d (let long = length-take i xs in omega (arith, long, within, before)) all)

-- a leaf that can be passed is not solid
passable_not_solid : (tree : Tree) (origin : Origin) → IsPassable tree (leaf_of_origin tree origin) → TakesPart tree origin
passable_not_solid tree origin can solid =
    let e : Some can.found ≡ Some (leaf_record_at tree.planes tree.shape origin.point) = sym can.leaf_is ∙ leaf_of_number tree.planes tree.shape origin.point in
    let same : can.found ≡ leaf_record_at tree.planes tree.shape origin.point = cc in
    let never : is_passable Solid ≡ true = subst (λ (contents : Contents). is_passable contents ≡ true) (ap (λ (found : Leaf). found.contents) same ∙ solid) can.passable in
    cc

module _ (tree : Tree) (steps : List ℕ) (are : AreSteps (Begins tree) (FloodsInto tree) steps) where
  -- an entity leaks exactly where its leaf has steps
  pub leaks_by_steps : (origin : Origin) → Leaks tree origin ↔ (0 < steps_of steps (leaf_of_origin tree origin))
  leaks_by_steps origin = (
    (λ leaks. (are.reached (leaf_of_origin tree origin)).1 leaks.reached),
    (λ some.
        let reached = (are.reached (leaf_of_origin tree origin)).0 some in
        record { takes_part = passable_not_solid tree origin (reached_passable tree (leaf_of_origin tree origin) reached); reached = reached }),
  )

  -- the first of the entities whose leaf has steps
  pub first_leak : (origins : List Origin) (i : ℕ) (origin : Origin) → AreInOrder origins → i < length origins → get_or origins i origin ≡ origin → 0 < steps_of steps (leaf_of_origin tree origin) → All (λ other. steps_of steps (leaf_of_origin tree other) ≡ 0) (take i origins) → IsFirstLeak tree origins origin
  first_leak origins i origin order within at some none = record {
    listed = (i, within, at);
    leaks = (leaks_by_steps origin).1 some;
    first = first;
  }
    where
      first : (other : Origin) → Contains origins other → Leaks tree other → origin.entity ≤ other.entity
      first other listed leaks = ⊎_elim
          (λ before.
          let zero = All-before (λ o. steps_of steps (leaf_of_origin tree o) ≡ 0) origins i listed.0 other listed.1 before none in
          let has = (leaks_by_steps other).0 leaks in
          let is = ap (λ (o : Origin). steps_of steps (leaf_of_origin tree o)) listed.2 in
          absurd (omega (arith, zero, has, is)))
          (λ not_before. ⊎_elim
          (λ here.
          let same = ap (λ (j : ℕ). (get_or origins j origin).entity) here in
          let its = ap (λ (o : Origin). o.entity) at in
          let other_is = ap (λ (o : Origin). o.entity) (get_or_default origins listed.0 origin other listed.1 ∙ listed.2) in
          omega (arith, same, its, other_is))
          (λ later.
          let less = order i listed.0 origin (omega (arith, not_before, later)) listed.1 in
          let its = ap (λ (o : Origin). o.entity) at in
          let other_is = ap (λ (o : Origin). o.entity) (get_or_default origins listed.0 origin other listed.1 ∙ listed.2) in
          omega (arith, less, its, other_is))
          (cases_eq i listed.0))
          (cases_lt listed.0 i)

  -- and where none has, none leaks
  pub no_leak : (origins : List Origin) → All (λ other. steps_of steps (leaf_of_origin tree other) ≡ 0) origins → (origin : Origin) → Contains origins origin → Leaks tree origin → ⊥
  no_leak origins none origin listed leaks =
      let zero = All-contains (λ other. steps_of steps (leaf_of_origin tree other) ≡ 0) origins origin none listed in
      let has = (leaks_by_steps origin).0 leaks in
      omega (arith, zero, has)

  -- where no entity leaks, the leaves that have steps are to be filled
  pub filled_by_steps : (origins : List Origin) (row : List Bool) → IsSealed tree origins → length row ≡ leaf_count tree.shape → ((k : ℕ) → IsIn row k ↔ (0 < steps_of steps k)) → IsFilledRow tree origins row
  filled_by_steps origins row sealed one_each has = record {
    one_each = one_each;
    filled = λ k. (
      (λ is. record { sealed = sealed; reached = (are.reached k).0 ((has k).0 is) }),
      (λ fill. (has k).1 ((are.reached k).1 fill.reached)),
    );
  }

-- where no entity takes part no leaf is to be filled
pub none_filled : (tree : Tree) (origins : List Origin) (count : ℕ) → count ≡ leaf_count tree.shape → NoneTakesPart tree origins → IsFilledRow tree origins (replicate count false)
none_filled tree origins count is none = record {
  one_each = length-replicate count false ∙ is;
  filled = λ k. (
    (λ set. absurd (let e : true ≡ false = sym set ∙ clear k in cc)),
    (λ fill. absurd (none fill.sealed.inside fill.sealed.listed fill.sealed.takes_part)),
  );
}
  where
    clear : (k : ℕ) → get_or (replicate count false) k false ≡ false
    clear k = ⊎_elim
        (λ within. get_or-replicate count k false false within)
        (λ past. let long = length-replicate count false in get_or_past (replicate count false) k false (omega (arith, past, long)))
        (cases_lt k count)
