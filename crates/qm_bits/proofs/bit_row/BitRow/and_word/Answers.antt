use Rattle.std.proofs.Common.{◌*◌, Bool, List, get_or, set, bit_and, subst, arith}
use Rattle.qm_lists.specs.Word.{IsMasked}
use Rattle.qm_bits.specs.inner.Rows.{row_of}
use Rattle.qm_bits.proofs.Rows.{within_row, word_number_within, read_word}
use Rattle.qm_bits.proofs.Changes.{masked_row, masked_places}
use Rattle.qm_bits.proofs.bit_row.BitRow.and_word.Goals as goal

pub index_mut-requires : goal.index_mut-requires
index_mut-requires c =
    let words = c.self.inside.words.items in
    let within = within_row words c.self.inside.len c.args.self.now (64 * c.args.k) c.self.view_is c.requires in
    omega (arith, word_number_within words c.self.inside.len c.args.k c.self.invariant within, c.self.inside.words.ok.0)

pub invariant_of-self : goal.invariant_of-self
invariant_of-self c =
    let words = c.self.inside.words.items in
    let within = within_row words c.self.inside.len c.args.self.now (64 * c.args.k) c.self.view_is c.requires in
    rw (read_word words c.args.k c.index_mut.result.now (word_number_within words c.self.inside.len c.args.k c.self.invariant within) c.index_mut.ensures.value) (masked_row words c.self.inside.len c.args.k c.args.mask c.self.invariant within)

pub returns : goal.returns
returns c =
    let words = c.self.inside.words.items in
    let within = within_row words c.self.inside.len c.args.self.now (64 * c.args.k) c.self.view_is c.requires in
    let done : IsMasked c.args.self.now (row_of (set words c.args.k (bit_and c.index_mut.result.now c.args.mask)) c.self.inside.len) c.args.k c.args.mask =
    rw (read_word words c.args.k c.index_mut.result.now (word_number_within words c.self.inside.len c.args.k c.self.invariant within) c.index_mut.ensures.value) (subst (λ (l : List Bool). IsMasked l (row_of (set words c.args.k (bit_and (get_or words c.args.k 0) c.args.mask)) c.self.inside.len) c.args.k c.args.mask) c.self.view_is (masked_places words c.self.inside.len c.args.k c.args.mask c.self.invariant within)) in
    done
