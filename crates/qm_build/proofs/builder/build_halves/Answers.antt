use Rattle.std.proofs.Common.{[]}
use Rattle.std.proofs.lemmas.Result.{IfOk-weaker}
use Rattle.qm_solids.specs.InBook.{solids_in}
use Rattle.qm_partition.specs.Ways.{HasPoints}
use Rattle.qm_partition.specs.Tree.{Tree}
use Rattle.qm_solid_tree.specs.Division.{Divides}
use Rattle.qm_solid_tree.specs.GivesContents.{GivesContents}
use Rattle.qm_solid_tree.specs.TreeOf.{IsTreeOf}
use Rattle.qm_solid_tree.proofs.BookSolids.{book_has_planes}
use Rattle.qm_solid_tree.proofs.LeafPoints.{tree_has_points}
use Rattle.qm_solid_tree.proofs.TreeLaws.{gives_contents}
use Rattle.qm_build.specs.inner.UnderWay.{AreFragments}
use Rattle.qm_build.specs.inner.Waiting.{IsWalk}
use Rattle.qm_build.proofs.WalkedHalves.{named, whole_walk}
use Rattle.qm_build.proofs.builder.build_halves.Goals as goal
use Rattle.qm_build.proofs.builder.build_halves.Given.{Over}
use Rattle.qm_build.proofs.builder.build_halves.Goals.{In_ok-walk}

-- the fragments are those of the cell that they name
fragments_are : (g : Over) (c : In_ok-walk g) → AreFragments (solids_in c.args.book.now c.args.list.now) c.args.book.now c.in_ok-fragments.fragments
fragments_are g c = named (solids_in c.args.book.now c.args.list.now) c.args.book.now [] c.in_ok-fragments.fragments c.in_ok-fragments.ensures

pub walk_in_halves-requires-clause-known : goal.walk_in_halves-requires-clause-known
walk_in_halves-requires-clause-known g c κs within = (solids_in c.args.book.now c.args.list.now, named (solids_in c.args.book.now c.args.list.now) c.args.book.now [] c.in_ok-fragments.fragments c.in_ok-fragments.ensures)

pub tree_of_walk-requires-clause-planes : goal.tree_of_walk-requires-clause-planes
tree_of_walk-requires-clause-planes g c = c.requires.filled.planes

-- the walk is that of the division of the whole cube
cube_walk : (g : Over) (c : In_ok-walk g) → IsWalk (Divides (solids_in c.args.book.now c.args.list.now) c.args.book.now []) c.in_ok-walk.walk.items
cube_walk g c =
    let solids = solids_in c.args.book.now c.args.list.now in
    whole_walk solids c.args.book.now c.in_ok-fragments.fragments [] c.in_ok-fragments.ensures c.in_ok-walk.walk.items (c.in_ok-walk.ensures solids (fragments_are g c))

pub tree_of_walk-requires-clause-walk : goal.tree_of_walk-requires-clause-walk
tree_of_walk-requires-clause-walk g c = (solids_in c.args.book.now c.args.list.now, cube_walk g (goal.at.tree_of_walk-requires-clause-walk g c).In_ok-walk)

pub returns : goal.returns
returns g c =
    let solids = solids_in c.args.book.now c.args.list.now in
    let book = c.args.book.now in
    let walk = cube_walk g (goal.at.returns g c).In_ok-walk in
    let tree = IfOk-weaker c.tree_of_walk.result _ (IsTreeOf solids book) (λ tree is. is solids walk) c.tree_of_walk.ensures.tree in
    record {
      tree = tree;
      points = IfOk-weaker c.tree_of_walk.result (IsTreeOf solids book) HasPoints (λ tree its. tree_has_points solids book c.requires.filled.planes tree its) tree;
      contents =
          IfOk-weaker c.tree_of_walk.result (IsTreeOf solids book) (λ (t : Tree). GivesContents t solids)
          (λ tree its. gives_contents solids book tree c.requires.filled.planes (book_has_planes book c.args.list.now c.requires.filled) its) tree;
      few = c.tree_of_walk.ensures.few;
    }
