use Rattle.std.proofs.Common.{◌≡◌, ◌*◌, ◌/◌, ◌%◌, ◌^◌, true, Bool, List, set, bit_or, ap, ◌∙◌, arith}
use Rattle.qm_bits.specs.inner.Rows.{row_of}
use Rattle.qm_bits.proofs.Rows.{within_row, word_within, read_word}
use Rattle.qm_bits.proofs.Changes.{set_row, set_place}
use Rattle.qm_bits.proofs.bit_row.BitRow.set.Goals as goal

pub index_mut-requires : goal.index_mut-requires
index_mut-requires c =
    let words = c.self.inside.words.items in
    let within = within_row words c.self.inside.len c.args.self.now c.args.i c.self.view_is c.requires in
    omega (arith, word_within words c.self.inside.len c.args.i c.self.invariant within, c.self.inside.words.ok.0)

pub invariant_of-self : goal.invariant_of-self
invariant_of-self c =
    let words = c.self.inside.words.items in
    let within = within_row words c.self.inside.len c.args.self.now c.args.i c.self.view_is c.requires in
    rw (read_word words (c.args.i / 64) c.index_mut.result.now (word_within words c.self.inside.len c.args.i c.self.invariant within) c.index_mut.ensures.value) (set_row words c.self.inside.len c.args.i c.self.invariant within)

pub returns : goal.returns
returns c =
    let words = c.self.inside.words.items in
    let within = within_row words c.self.inside.len c.args.self.now c.args.i c.self.view_is c.requires in
    let done : row_of (set words (c.args.i / 64) (bit_or c.index_mut.result.now (1 * 2 ^ (c.args.i % 64) % 2 ^ 64))) c.self.inside.len ≡ set c.args.self.now c.args.i true =
    rw (read_word words (c.args.i / 64) c.index_mut.result.now (word_within words c.self.inside.len c.args.i c.self.invariant within) c.index_mut.ensures.value) (set_place words c.self.inside.len c.args.i c.self.invariant within ∙ ap (λ (l : List Bool). set l c.args.i true) c.self.view_is) in
    done
