-- The leaves that are to be filled, as the marks of a row: portals lead from them to such leaves only.
use Rattle.std.proofs.Common.{◌≡◌, ℕ, true, false, Bool, List, [], refl, ◌↔◌}
use Rattle.qm_lists.specs.Reach.{start, onward}
use Rattle.qm_lists.specs.WorkList.{IsIn}
use Rattle.qm_partition.specs.Partition.{Partition, leaf, node}
use Rattle.qm_partition.specs.Tree.{Tree}
use Rattle.qm_partition.specs.Numbering.{leaves_after}
use Rattle.qm_partition.specs.Marked.{marked, marked_tree}
use Rattle.qm_contacts.specs.Leak.{Origin}
use Rattle.qm_contacts.specs.Filled.{NoneTakesPart, IsToBeFilled, IsFilledRow}
use Rattle.qm_contacts.specs.PortalChain.{IsPortalBetween}
use Rattle.qm_contacts.proofs.FilledLeaves.{chained_reached}

-- where a row has exactly the leaves that are to be filled, portals lead from its leaves to its leaves
pub filling_closed : (tree : Tree) (origins : List Origin) (row : List Bool) → ((k : ℕ) → IsIn row k ↔ IsToBeFilled tree origins k) → (a b : ℕ) → IsPortalBetween tree a b → IsIn row a → IsIn row b
filling_closed tree origins row exactly a b portal mark =
    let fill = (exactly a).0 mark in
    (exactly b).1 (record { sealed = fill.sealed; reached = chained_reached tree a b fill.reached (onward (start refl) portal) })

-- the row of a sealed map is such a row
pub filled_row_closed : (tree : Tree) (origins : List Origin) (row : List Bool) → IsFilledRow tree origins row → (a b : ℕ) → IsPortalBetween tree a b → IsIn row a → IsIn row b
filled_row_closed tree origins row is = filling_closed tree origins row is.filled

-- ---- no leaf is marked

pub none_marked_closed : (tree : Tree) (a b : ℕ) → IsPortalBetween tree a b → IsIn [] a → IsIn [] b
none_marked_closed tree a b portal mark = absurd (let e : false ≡ true = mark in cc)

-- where no entity takes part none is to be filled
pub none_filled : (tree : Tree) (origins : List Origin) → NoneTakesPart tree origins → (k : ℕ) → IsIn [] k ↔ IsToBeFilled tree origins k
none_filled tree origins none k = ((λ mark. absurd (let e : false ≡ true = mark in cc)), (λ fill. absurd (none fill.sealed.inside fill.sealed.listed fill.sealed.takes_part)))

-- and the tree stays as it is
marked_by_none : (shape : Partition) (k : ℕ) → marked [] shape k ≡ shape
marked_by_none (leaf found) k = refl
marked_by_none (node plane front back) k = λ i. node plane (marked_by_none front k i) (marked_by_none back (leaves_after front k) i)

pub tree_marked_by_none : (tree : Tree) → marked_tree [] tree ≡ tree
tree_marked_by_none tree = λ i. record { planes = tree.planes; shape = marked_by_none tree.shape 0 i }
