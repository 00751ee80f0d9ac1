use Rattle.std.proofs.Common.{◌≡◌, ◌-◌, ap, ◌∙◌, sym, List, ◌∷◌, [], ◌++◌, length, take, reverse, arith}
use Rattle.qm_partition.specs.declared.visit.Visit.{Visit}
use Rattle.qm_partition.specs.declared.visit.Visit.TheVariants.{Leaf}
use Rattle.qm_partition.specs.inner.JoinedWalk.{joined_by}
use Rattle.qm_partition.proofs.JoinedWalks.{joint_pushed}
use Rattle.qm_tree.proofs.joining.add_joined.Goals as goal

pub returns-in-Some : goal.returns-in-Some
returns-in-Some c =
    let stack = c.args.joined.now.items in
    let found = rw c.deref.ensures.value at c.in-Some.ensures in
    let long : c.len.result ≡ length stack = omega (arith, c.len.ensures, c.args.joined.now.ok.0) in
    ap reverse (c.in_ok-push.ensures.items ∙ ap (λ (rest : List Visit). rest ++ Leaf c.in-Some.joint ∷ []) (c.truncate.ensures.items ∙ ap (λ (n : _). take (n - 2) stack) long))
    ∙ joint_pushed stack c.in-Node.field-0 c.in-Some.joint found
    ∙ ap (λ (visit : Visit). joined_by visit (reverse stack)) (sym c.in-Node.is)
