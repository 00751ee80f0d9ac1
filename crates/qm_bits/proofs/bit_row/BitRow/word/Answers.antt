use Rattle.std.proofs.Common.{◌*◌, Bool, List, get_or, subst, sym, arith}
use Rattle.qm_lists.specs.Word.{IsWord}
use Rattle.qm_bits.proofs.Rows.{within_row, word_number_within, read_word}
use Rattle.qm_bits.proofs.Changes.{word_of_row}
use Rattle.qm_bits.proofs.bit_row.BitRow.word.Goals as goal

pub index-requires : goal.index-requires
index-requires c =
    let words = c.self.inside.words.items in
    let within = within_row words c.self.inside.len c.args.self.now (64 * c.args.k) c.self.view_is c.requires in
    omega (arith, word_number_within words c.self.inside.len c.args.k c.self.invariant within, c.self.inside.words.ok.0)

pub returns : goal.returns
returns c =
    let words = c.self.inside.words.items in
    let within = within_row words c.self.inside.len c.args.self.now (64 * c.args.k) c.self.view_is c.requires in
    let is : IsWord c.args.self.now c.args.k (get_or words c.args.k 0) = subst (λ (l : List Bool). IsWord l c.args.k (get_or words c.args.k 0)) c.self.view_is (word_of_row words c.self.inside.len c.args.k c.self.invariant) in
    subst (IsWord c.args.self.now c.args.k) (sym (read_word words c.args.k c.index.result.now (word_number_within words c.self.inside.len c.args.k c.self.invariant within) c.index.ensures)) is
