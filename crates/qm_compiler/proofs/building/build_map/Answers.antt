use Rattle.std.proofs.Common.{List, subst}
use Rattle.qm_space.specs.Plane.{Plane}
use Rattle.qm_space.specs.Entered.{AreEnteredInBook}
use Rattle.qm_drawn.specs.Planes.{drawn_planes}
use Rattle.qm_compiler.proofs.CompiledMap.{counted_map}
use Rattle.qm_compiler.proofs.KeptParts.{some_where, kept_are}
use Rattle.qm_compiler.proofs.building.build_map.Goals as goal

pub tree_of_brushes-requires-clause-filled : goal.tree_of_brushes-requires-clause-filled
tree_of_brushes-requires-clause-filled g c κs within = c.in_ok-list.ensures.book

pub returns-clause-built : goal.returns-clause-built
returns-clause-built g c =
    let made = c.in_ok-list.ensures in
    let built = c.in_ok-tree.ensures in
    let entered = subst (λ (book : List Plane). AreEnteredInBook book (drawn_planes c.args.map.now) c.brushes.new.book) c.new-book.ensures made.entered in
    rw (c.len.ensures, c.count_flat.ensures) (counted_map c.args.map.now c.brushes.new.book c.in_ok-list.list made.solids made.book c.in_ok-tree.tree entered built.tree built.contents built.points built.few)

pub returns-clause-kept : goal.returns-clause-kept
returns-clause-kept g c =
    let made = c.in_ok-list.ensures in
    let entered = subst (λ (book : List Plane). AreEnteredInBook book (drawn_planes c.args.map.now) c.brushes.new.book) c.new-book.ensures made.entered in
    kept_are c.args.map.now c.args.keep (record { list = c.in_ok-list.list; book = c.brushes.new.book }) c.kept_where.result c.kept_where.ensures (record { entered = entered; solids = made.solids; is_book = made.book })

pub returns-clause-as_asked : goal.returns-clause-as_asked
returns-clause-as_asked g c = some_where c.args.keep (record { list = c.in_ok-list.list; book = c.brushes.new.book }) c.kept_where.result c.kept_where.ensures
