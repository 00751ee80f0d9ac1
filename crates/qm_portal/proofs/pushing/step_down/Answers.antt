use Rattle.qm_portal.proofs.PushedPolygons.{due_within, convex_of_due, goes_front, goes_back, goes_nowhere, goes_both, front_lighter, back_lighter, none_lighter}
use Rattle.qm_space.specs.Plane.{flipped}
use Rattle.qm_convex.specs.Sides.{IsWhollyInFront, LiesIn}
use Rattle.qm_convex.specs.Cut.{IsPartInFront}
use Rattle.qm_wind.specs.Severing.{IsSevered}
use Rattle.qm_wind.specs.declared.severed.Severed.{Severed}
use Rattle.std.proofs.Common.{◌≡◌, subst}
use Rattle.qm_portal.proofs.pushing.step_down.Goals as goal
use Rattle.qm_portal.proofs.pushing.step_down.Goals.{In-Front, In-Back, In-On, In-Across}

severed_front : (c : In-Front) → (c.sever.new.self ≡ c.args.winding.now) × IsWhollyInFront c.args.winding.now c.plane.result
severed_front c = subst (λ (s : Severed). IsSevered s c.args.winding.now c.sever.new.self c.plane.result) c.in-Front.is c.in_ok-sever.ensures.ok

severed_back : (c : In-Back) → (c.sever.new.self ≡ c.args.winding.now) × IsWhollyInFront c.args.winding.now (flipped c.plane.result)
severed_back c = subst (λ (s : Severed). IsSevered s c.args.winding.now c.sever.new.self c.plane.result) c.in-Back.is c.in_ok-sever.ensures.ok

severed_on : (c : In-On) → (c.sever.new.self ≡ c.args.winding.now) × LiesIn c.args.winding.now c.plane.result
severed_on c = subst (λ (s : Severed). IsSevered s c.args.winding.now c.sever.new.self c.plane.result) c.in-On.is c.in_ok-sever.ensures.ok

severed_across : (c : In-Across) → IsPartInFront c.sever.new.self c.args.winding.now c.plane.result × IsPartInFront c.in-Across.winding.value c.args.winding.now (flipped c.plane.result)
severed_across c = subst (λ (s : Severed). IsSevered s c.args.winding.now c.sever.new.self c.plane.result) c.in-Across.is c.in_ok-sever.ensures.ok

pub node-node-requires : goal.node-node-requires
node-node-requires c = due_within c.args.tree.now c.args.winding.now c.args.n c.requires

pub returns-in-Front-clause-goes : goal.returns-in-Front-clause-goes
returns-in-Front-clause-goes c =
    goes_front c.args.tree.now c.args.n c.node-node.result c.plane.result c.node-node.ensures.value c.plane.ensures.value c.args.winding.now c.sever.new.self (convex_of_due c.args.tree.now c.args.winding.now _ c.requires) c.args.due.now.items (severed_front (goal.at.returns-in-Front-clause-goes c).In-Front).0 (severed_front (goal.at.returns-in-Front-clause-goes c).In-Front).1

pub returns-in-Front-clause-smaller : goal.returns-in-Front-clause-smaller
returns-in-Front-clause-smaller c = front_lighter c.args.tree.now c.args.n c.node-node.result c.plane.result c.node-node.ensures.value c.plane.ensures.value

pub returns-in-Back-clause-goes : goal.returns-in-Back-clause-goes
returns-in-Back-clause-goes c =
    goes_back c.args.tree.now c.args.n c.node-node.result c.plane.result c.node-node.ensures.value c.plane.ensures.value c.args.winding.now c.sever.new.self (convex_of_due c.args.tree.now c.args.winding.now _ c.requires) c.args.due.now.items (severed_back (goal.at.returns-in-Back-clause-goes c).In-Back).0 (severed_back (goal.at.returns-in-Back-clause-goes c).In-Back).1

pub returns-in-Back-clause-smaller : goal.returns-in-Back-clause-smaller
returns-in-Back-clause-smaller c = back_lighter c.args.tree.now c.args.n c.node-node.result c.plane.result c.node-node.ensures.value c.plane.ensures.value

pub returns-in-On-clause-goes : goal.returns-in-On-clause-goes
returns-in-On-clause-goes c =
    goes_nowhere c.args.tree.now c.args.n c.node-node.result c.plane.result c.node-node.ensures.value c.plane.ensures.value c.args.winding.now c.sever.new.self (convex_of_due c.args.tree.now c.args.winding.now _ c.requires) c.args.due.now.items (severed_on (goal.at.returns-in-On-clause-goes c).In-On).1

pub returns-in-On-clause-smaller : goal.returns-in-On-clause-smaller
returns-in-On-clause-smaller c = none_lighter c.args.tree.now c.args.n c.node-node.result c.plane.result c.node-node.ensures.value c.plane.ensures.value

pub returns-in_ok-push-in-Across-clause-goes : goal.returns-in_ok-push-in-Across-clause-goes
returns-in_ok-push-in-Across-clause-goes c =
    goes_both c.args.tree.now c.args.n c.node-node.result c.plane.result c.node-node.ensures.value c.plane.ensures.value c.args.winding.now c.sever.new.self (convex_of_due c.args.tree.now c.args.winding.now _ c.requires) c.args.due.now.items c.in-Across.winding.value c.push.new.self.items (severed_across (goal.at.returns-in_ok-push-in-Across-clause-goes c).In-Across).0 (severed_across (goal.at.returns-in_ok-push-in-Across-clause-goes c).In-Across).1 c.in_ok-push-in-Across.ensures.items

pub returns-in_ok-push-in-Across-clause-smaller : goal.returns-in_ok-push-in-Across-clause-smaller
returns-in_ok-push-in-Across-clause-smaller c = front_lighter c.args.tree.now c.args.n c.node-node.result c.plane.result c.node-node.ensures.value c.plane.ensures.value
