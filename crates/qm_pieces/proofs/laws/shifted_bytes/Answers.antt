use Rattle.std.proofs.Common.{◌+◌, refl}
use Rattle.qm_tokens.specs.inner.Modes.{between}
use Rattle.qm_pieces.proofs.ShiftedTexts.{read_shifted}
use Rattle.qm_pieces.proofs.laws.shifted_bytes.Goals as goal

pub returns : goal.returns
returns c =
    λ further lines offset line bytes.
    read_shifted further lines between offset (further + offset) line (lines + line) bytes refl refl
