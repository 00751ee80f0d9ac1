use Rattle.std.proofs.Common.{◌≡◌, List, ◌∙◌, sym, subst}
use Rattle.qm_space.specs.Plane.{Plane}
use Rattle.qm_partition.specs.Joining.{joined}
use Rattle.qm_partition.specs.WellMade.{IsWellMade}
use Rattle.qm_build.proofs.DefinedTrees.{well_made, is_defined}
use Rattle.qm_build.proofs.builder.tree_of_walk.Goals as goal

pub joined_of-requires : goal.joined_of-requires
joined_of-requires c =
    let walk = c.requires.walk.1 in
    let whole_book = c.in_ok-planes.ensures.items ∙ c.planes.ensures.value in
    let made = well_made c.requires.walk.0 c.args.book.now c.requires.planes walk.shape walk.has in
    (walk.shape, walk.visits_are, subst (λ (book : List Plane). IsWellMade (record { planes = book; shape = walk.shape })) (sym whole_book) made)

-- what is made is the defined tree, for any solids of whose division this is the walk
pub returns-clause-tree : goal.returns-clause-tree
returns-clause-tree c = λ solids walk.
    let whole_book = c.in_ok-planes.ensures.items ∙ c.planes.ensures.value in
    let made = c.in_ok-tree.ensures walk.shape walk.visits_are in
    let same = subst (λ (book : List Plane). c.in_ok-tree.tree ≡ record { planes = book; shape = joined walk.shape }) whole_book made in
    is_defined solids c.args.book.now walk.shape c.in_ok-tree.tree walk.has same
