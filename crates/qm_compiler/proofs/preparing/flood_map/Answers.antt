use Rattle.std.proofs.Common.{List, subst}
use Rattle.std.proofs.lemmas.Result.{IfOk-weaker}
use Rattle.qm_contacts.specs.Leak.{Origin}
use Rattle.qm_flood.specs.Found.{IsFloodOf}
use Rattle.qm_compiler.proofs.Origins.{origins_in_order}
use Rattle.qm_compiler.proofs.preparing.flood_map.Goals as goal

pub flood-requires-clause-in_order : goal.flood-requires-clause-in_order
flood-requires-clause-in_order c = rw c.deref.ensures.value (origins_in_order c.args.map.now c.in_ok-origins.origins.items c.in_ok-origins.ensures)

pub returns : goal.returns
returns c =
    IfOk-weaker c.flood.result _ _
    (λ found is. record {
      origins = c.in_ok-origins.origins.items;
      are_origins = c.in_ok-origins.ensures;
      is_flood = subst (λ (origins : List Origin). IsFloodOf c.args.tree.now origins found) c.deref.ensures.value is;
    }) c.flood.ensures
