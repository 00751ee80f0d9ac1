use Rattle.std.proofs.Common.{Bool, cond, [], ◌∷◌, ◌++◌, codes, ap, sym}
use Rattle.std.proofs.lemmas.Bool.{ne_eqb}
use Rattle.qm_formats.specs.Fields.{raw, fixed_before}
use Rattle.qm_formats.specs.FileLayout.{magic_layout}
use Rattle.qm_file.proofs.field_bytes.magic.Goals as goal

pub returns-then-version-eq1 : goal.returns-then-version-eq1
unfolding magic_layout fixed_before raw
returns-then-version-eq1 c = ap magic_layout.bytes_of (sym c.if-version-eq1.true)

pub returns-else-version-eq1 : goal.returns-else-version-eq1
unfolding magic_layout fixed_before raw
returns-else-version-eq1 c = ap (λ (b : Bool). codes "QMTREE0" ++ (cond b 49 50 ∷ [])) (sym (ne_eqb c.args.version 1 c.if-version-eq1.false))
