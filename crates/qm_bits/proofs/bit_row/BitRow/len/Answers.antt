use Rattle.std.proofs.Common.{Bool, List, length, ap, sym, ◌∙◌}
use Rattle.qm_bits.proofs.Rows.{length-row_of}
use Rattle.qm_bits.proofs.bit_row.BitRow.len.Goals as goal

pub returns : goal.returns
returns c = sym (length-row_of c.self.inside.words.items c.self.inside.len) ∙ ap (λ (l : List Bool). length l) c.self.view_is
