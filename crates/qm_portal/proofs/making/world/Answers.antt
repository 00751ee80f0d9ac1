use Rattle.std.proofs.Common.{◌≡◌, ℕ, ◌<◌, List, All, length, sym, ap, ◌∙◌, subst, arith}
use Rattle.std.proofs.lemmas.List.Elements.{All-weaker}
use Rattle.qm_partition.specs.Tree.{Tree}
use Rattle.qm_partition.specs.declared.node.Leaf.{Leaf}
use Rattle.qm_partition.specs.Counting.{leaves_of}
use Rattle.qm_partition.specs.Ways.{HasPoints}
use Rattle.qm_contacts.specs.Meeting.{meetings}
use Rattle.qm_contacts.specs.Touching.{AreTouchings}
use Rattle.qm_contacts.specs.NumberedLeaves.{numbered_from, numbered_leaves}
use Rattle.qm_contacts.specs.Portals.{Portal, portals_of}
use Rattle.qm_contacts.specs.inner.LeafNumbers.{AreNumbersOf}
use Rattle.qm_contacts.specs.inner.Leaving.{AreLeavingInRows}
use Rattle.qm_contacts.specs.inner.WorldParts.{IsAmong, leaves_to}
use Rattle.qm_contacts.proofs.PortalLists.{pairs_have_leaves, portals_among}
use Rattle.qm_portal.proofs.making.world.Goals as goal

pub portals-requires-clause-leaves : goal.portals-requires-clause-leaves
portals-requires-clause-leaves c = rw c.touchings.ensures (pairs_have_leaves c.args.tree.now c.args.touches.now.touchings c.requires.touching)

pub of-requires-2-clause-among : goal.of-requires-2-clause-among
of-requires-2-clause-among c =
    let tree = c.args.tree.now in
    let touchings = c.args.touches.now.touchings in
    let numbered = c.in_ok-numbers.numbers.numbered in
    let count : length numbered.items ≡ length (numbered_leaves tree) = ap length c.in_ok-numbers.ensures.numbered_are ∙ ap (λ (all : List Leaf). length (numbered_from all 0)) c.all_leaves.ensures in
    let portals_are : c.deref-2.result.now ≡ portals_of tree touchings = c.deref-2.ensures.value ∙ c.in_ok-portals.ensures ∙ ap (portals_of tree) c.touchings.ensures in
    subst (All (λ (p : Portal). p.from < c.len.result)) (sym portals_are)
    (All-weaker (IsAmong (length (numbered_leaves tree))) (λ (p : Portal). p.from < c.len.result) (λ p is. omega (arith, is.from, count, c.len.ensures, numbered.ok.0)) (portals_of tree touchings) (portals_among tree touchings c.requires.touching))

pub of-requires-3-clause-parts : goal.of-requires-3-clause-parts
of-requires-3-clause-parts c =
    let tree = c.args.tree.now in
    let touchings = c.args.touches.now.touchings in
    let numbered = c.in_ok-numbers.numbers.numbered in
    let portals = c.in_ok-portals.portals.items in
    let count : length (numbered_leaves tree) ≡ length numbered.items = sym (ap length c.in_ok-numbers.ensures.numbered_are ∙ ap (λ (all : List Leaf). length (numbered_from all 0)) c.all_leaves.ensures) in
    let portals_are : portals_of tree touchings ≡ portals = sym (c.in_ok-portals.ensures ∙ ap (portals_of tree) c.touchings.ensures) in
    let all : c.len.result ≡ length numbered.items = omega (arith, c.len.ensures, numbered.ok.0) in
    let leaves : c.all_leaves.result.now ≡ leaves_of c.in_ok-tree.tree.shape = c.all_leaves.ensures ∙ ap (λ (t : Tree). leaves_of t.shape) (sym c.in_ok-tree.ensures) in
    let leaving : AreLeavingInRows portals c.len.result c.in_ok-leaving.leaving.begins.items c.in_ok-leaving.leaving.places.items = rw c.deref-2.ensures.value at c.in_ok-leaving.ensures.rows in
    record {
      own = record {
        have_points = subst HasPoints (sym c.in_ok-tree.ensures) c.requires.points;
        touchings = touchings;
        are_touchings = subst (λ (t : Tree). AreTouchings t.planes (meetings t) touchings) (sym c.in_ok-tree.ensures) c.requires.touching;
        portals_are = sym portals_are ∙ ap (λ (t : Tree). portals_of t touchings) (sym c.in_ok-tree.ensures);
      };
      numbers = subst (λ (found : List Leaf). AreNumbersOf found numbered.items c.in_ok-numbers.numbers.before.items) leaves c.in_ok-numbers.ensures;
      entered_are = c.in_ok-entered.ensures ∙ ap leaves_to c.deref-3.ensures.value;
      among = subst (λ (all : List Portal). All (IsAmong (length numbered.items)) all) portals_are (subst (λ (n : ℕ). All (IsAmong n) (portals_of tree touchings)) count (portals_among tree touchings c.requires.touching));
      leaving = subst (λ (n : ℕ). AreLeavingInRows portals n c.in_ok-leaving.leaving.begins.items c.in_ok-leaving.leaving.places.items) all leaving;
    }

pub returns : goal.returns
returns c =
    let portals_are = c.in_ok-portals.ensures ∙ ap (portals_of c.args.tree.now) c.touchings.ensures in
    c.of-3.ensures ∙ (λ i. record { tree = c.in_ok-tree.ensures i; portals = portals_are i })
