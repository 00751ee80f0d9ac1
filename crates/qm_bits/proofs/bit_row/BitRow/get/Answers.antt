use Rattle.std.proofs.Common.{arith}
use Rattle.qm_bits.proofs.Rows.{within_row, word_within, read_place}
use Rattle.qm_bits.proofs.bit_row.BitRow.get.Goals as goal

pub index-requires : goal.index-requires
index-requires c =
    let words = c.self.inside.words.items in
    let within = within_row words c.self.inside.len c.args.self.now c.args.i c.self.view_is c.requires in
    omega (arith, word_within words c.self.inside.len c.args.i c.self.invariant within, c.self.inside.words.ok.0)

pub returns : goal.returns
returns c = read_place c.self.inside.words.items c.self.inside.len c.args.i c.index.result.now c.args.self.now c.self.view_is c.self.invariant c.requires c.index.ensures
