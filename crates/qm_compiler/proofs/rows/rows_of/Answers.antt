use Rattle.std.proofs.Common.{Bool, List, length, sym, subst, arith}
use Rattle.std.proofs.lemmas.Result.{IfOk-weaker}
use Rattle.qm_contacts.specs.NumberedLeaves.{numbered_leaves}
use Rattle.qm_coarse_rows.specs.LeafRow.{AreLeafRows}
use Rattle.qm_statement.specs.Rows.{AreRowsAsAsked}
use Rattle.qm_compiler.proofs.ShownLeaves.{over_turns}
use Rattle.qm_compiler.proofs.rows.rows_of.Goals as goal

pub leaf_rows-requires-clause-one_each : goal.leaf_rows-requires-clause-one_each
leaf_rows-requires-clause-one_each g c = rw c.as_slice.ensures c.in_ok-coarse.ensures.one_each

pub leaf_rows-requires-clause-wide : goal.leaf_rows-requires-clause-wide
leaf_rows-requires-clause-wide g c = rw c.as_slice.ensures c.in_ok-coarse.ensures.wide

pub returns-then-fast : goal.returns-then-fast
returns-then-fast g c =
    let world = c.args.world.now in
    IfOk-weaker c.leaf_rows.result _ _
    (λ rows are.
    subst (λ (fast : Bool). AreRowsAsAsked fast c.args.threads world rows) (sym c.if-fast.true)
    (record {
      portal_rows = c.in_ok-coarse.coarse;
      are_coarse = c.in_ok-coarse.ensures.rows;
      are_leaf_rows = subst (λ (all : List (List Bool)). AreLeafRows world.portals all (length (numbered_leaves world.tree)) rows) c.as_slice.ensures are;
    }))
    c.leaf_rows.ensures

pub crew-requires-clause-some : goal.crew-requires-clause-some
crew-requires-clause-some g c κs within = omega arith

pub crew-requires-clause-not_too_many : goal.crew-requires-clause-not_too_many
crew-requires-clause-not_too_many g c κs within = omega arith

pub crew-requires-clause-coarse : goal.crew-requires-clause-coarse
crew-requires-clause-coarse g c κs within = c.in_ok-coarse.ensures.rows

pub leaf_rows-requires-2-clause-one_each : goal.leaf_rows-requires-2-clause-one_each
leaf_rows-requires-2-clause-one_each g c = rw c.as_slice-2.ensures c.in_ok-crewed.ensures.one_each

pub leaf_rows-requires-2-clause-wide : goal.leaf_rows-requires-2-clause-wide
leaf_rows-requires-2-clause-wide g c = rw c.as_slice-2.ensures c.in_ok-crewed.ensures.wide

pub returns : goal.returns
returns g c =
    let world = c.args.world.now in
    let workers = c.args.threads in
    let crewed = c.in_ok-crewed.crewed in
    let found = c.in_ok-crewed.ensures in
    IfOk-weaker c.leaf_rows-2.result _ _
    (λ rows are.
    subst (λ (fast : Bool). AreRowsAsAsked fast workers world rows) (sym c.if-fast.false)
    (over_turns workers world crewed.turns crewed.rows rows found.turns found.alone found.sound found.reuse
    (subst (λ (all : List (List Bool)). AreLeafRows world.portals all (length (numbered_leaves world.tree)) rows) c.as_slice-2.ensures are)))
    c.leaf_rows-2.ensures
