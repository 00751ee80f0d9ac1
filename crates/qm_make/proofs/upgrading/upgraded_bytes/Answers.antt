use Rattle.std.proofs.Common.{◌∙◌, ap}
use Rattle.std.proofs.lemmas.Result.{IfOk-weaker}
use Rattle.qm_formats.specs.FileLayout.{file_bytes}
use Rattle.qm_make.proofs.Upgrades.{upgrade_of}
use Rattle.qm_make.proofs.upgrading.upgraded_bytes.Goals as goal

pub returns : goal.returns
returns c =
    IfOk-weaker c.encode.result _ _
    (λ bytes is. upgrade_of c.args.file bytes.items c.requires (is ∙ ap file_bytes c.upgrade-file.ensures))
    c.encode.ensures
