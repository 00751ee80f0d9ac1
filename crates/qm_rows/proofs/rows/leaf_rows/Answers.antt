use Rattle.std.proofs.Common.{length, arith}
use Rattle.std.proofs.lemmas.List.{length_push}
use Rattle.qm_contacts.specs.NumberedLeaves.{numbered_leaves}
use Rattle.qm_rows.proofs.Gathering.{one_leaf_more}
use Rattle.qm_rows.proofs.rows.leaf_rows.Goals as goal

pub loop-n-preserved : goal.loop-n-preserved
loop-n-preserved c =
    let leaf_rows = c.loop-n.leaf_rows.items in
    let row = c.in_ok-leaf_row.field-0 in
    let long = length_push leaf_rows row in
    let one_each = c.loop-n.invariant.one_each in
    rw c.in_ok-push.ensures.items (record {
      one_each = omega (arith, long, one_each);
      rows = one_leaf_more c.args.world.now.portals c.args.rows.now (length (numbered_leaves c.args.world.now.tree)) c.loop-n.n leaf_rows row one_each c.loop-n.invariant.rows c.in_ok-leaf_row.ensures;
    })
