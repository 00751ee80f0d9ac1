use Rattle.std.proofs.Common.{◌≡◌, ◌∙◌, ap, []}
use Rattle.std.proofs.lemmas.List.{get_or_default}
use Rattle.qm_base.specs.declared.beside.Beside.{Beside}
use Rattle.qm_base.specs.inner.Tables.{back}
use Rattle.qm_base.specs.inner.Besides.{beside_at}
use Rattle.qm_base.proofs.table.Table.back.Goals as goal

pub returns-then-kind : goal.returns-then-kind
unfolding back
returns-then-kind c =
    let read : c.index-beside.result.now ≡ beside_at c.args.self.now.beside.items c.args.kind.now.class = c.index-beside.ensures ∙ get_or_default c.args.self.now.beside.items c.args.kind.now.class c.index-beside.result.now (record { front = []; behind = [] }) c.requires in
    rw c.if-kind.true (ap (λ (b : Beside). b.behind) read)

pub returns-else-kind : goal.returns-else-kind
unfolding back
returns-else-kind c =
    let read : c.index-beside.result.now ≡ beside_at c.args.self.now.beside.items c.args.kind.now.class = c.index-beside.ensures ∙ get_or_default c.args.self.now.beside.items c.args.kind.now.class c.index-beside.result.now (record { front = []; behind = [] }) c.requires in
    rw c.if-kind.false (ap (λ (b : Beside). b.front) read)
