use Rattle.std.proofs.Common.{◌≤◌, ◌∙◌, List, length, take, sym, ap, subst, arith}
use Rattle.std.specs.Prelude.{count_by, slice_get}
use Rattle.std.proofs.lemmas.Option.{slice_get_within}
use Rattle.qm_partition.specs.declared.node.Leaf.{Leaf}
use Rattle.qm_partition.specs.Counting.{leaves_of}
use Rattle.qm_contacts.specs.NumberedLeaves.{is_numbered, numbered_leaves}
use Rattle.qm_answers.proofs.OneAnswer.{numbered, not_numbered}
use Rattle.qm_inspect.specs.inner.BlockCounts.{AreBlockCounts}
use Rattle.qm_inspect.proofs.numbered.number_of_leaf.Goals as goal

pub returns-then-not-is_numbered : goal.returns-then-not-is_numbered
returns-then-not-is_numbered c =
    not_numbered c.args.tree.now c.args.leaf c.args.found c.requires.found (sym c.is_numbered.ensures ∙ c.if-not-is_numbered.true)

pub numbered_before-requires : goal.numbered_before-requires
numbered_before-requires c =
    let below = slice_get_within (leaves_of c.args.tree.now.shape) c.args.leaf c.args.found c.requires.found in
    record {
      counts = subst (λ (leaves : List Leaf). AreBlockCounts leaves c.args.counts.now) (sym c.all_leaves.ensures) c.requires.counts;
      within = subst (λ (leaves : List Leaf). c.args.leaf ≤ length leaves) (sym c.all_leaves.ensures) (omega (arith, below));
    }

pub returns : goal.returns
returns c =
    ap (slice_get (numbered_leaves c.args.tree.now)) (c.numbered_before.ensures ∙ ap (λ (leaves : List Leaf). count_by is_numbered (take c.args.leaf leaves)) c.all_leaves.ensures)
    ∙ numbered c.args.tree.now c.args.leaf c.args.found c.requires.found (sym c.is_numbered.ensures ∙ c.if-not-is_numbered.false)
