use Rattle.std.proofs.Common.{ℕ, List, take, sym, subst}
use Rattle.std.proofs.lemmas.List.{take_more, take_all}
use Rattle.qm_outlines.specs.Outlines.{AreFoundNumbers}
use Rattle.qm_models.proofs.numbers.found_numbers.Goals as goal

pub loop-leaf-preserved : goal.loop-leaf-preserved
loop-leaf-preserved c =
    subst (λ (leaves : List ℕ). AreFoundNumbers c.args.world.now.tree leaves c.add_number.new.numbers.items) (sym (take_more c.args.leaves.now c.loop-leaf.leaf-index 0 c.loop-leaf-test.true))
    (c.in_ok-add_number.ensures (take c.loop-leaf.leaf-index c.args.leaves.now) c.loop-leaf.invariant)

pub returns : goal.returns
returns c =
    subst (λ (leaves : List ℕ). AreFoundNumbers c.args.world.now.tree leaves c.loop-leaf.numbers.items) (take_all c.loop-leaf.leaf-index c.args.leaves.now c.loop-leaf-test.false) c.loop-leaf.invariant
