use Rattle.std.proofs.Common.{Some, None, sym, ap, ◌∙◌}
use Rattle.qm_model_layout.specs.BrushModel.{BrushModel}
use Rattle.qm_model_layout.proofs.KeptModels.{none_kept, file_kept}
use Rattle.qm_model_file.specs.inner.SeenKept.{seen_kept}
use Rattle.qm_model_file.proofs.model_reading.model_of.Goals as goal

pub returns-then-not-is_model_head : goal.returns-then-not-is_model_head
returns-then-not-is_model_head c =
    none_kept c.args.bound c.args.numbered c.args.last_entity (seen_kept c.args.head c.args.tree.now) (sym (c.if-not-is_model_head.ensures c.args.tree.now))

pub returns-in-Some : goal.returns-in-Some
returns-in-Some c =
    ap (λ (model : BrushModel). Some model) c.with_file.ensures
    ∙ file_kept c.args.bound c.args.numbered c.args.last_entity (seen_kept c.args.head c.args.tree.now) (Some c.in-Some.file) (sym (c.if-not-is_model_head.ensures c.args.tree.now)) (let a = c.in-Some.is in let b = c.in_ok-file.ensures.exact in cc)

pub returns-in-None : goal.returns-in-None
returns-in-None c =
    file_kept c.args.bound c.args.numbered c.args.last_entity (seen_kept c.args.head c.args.tree.now) None (sym (c.if-not-is_model_head.ensures c.args.tree.now)) (let a = c.in-None.is in let b = c.in_ok-file.ensures.exact in cc)
