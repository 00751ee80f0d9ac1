use Rattle.std.proofs.Common.{◌<◌, ◌*◌, length, arith, string_bytes}
use Rattle.qm_inspect.proofs.SetPlaces.{begun, next_word, all_words}
use Rattle.qm_inspect.proofs.row_places.put_set_places.Goals as goal

pub loop-k-init : goal.loop-k-init
loop-k-init c = begun _ _ _

pub put_word-requires : goal.put_word-requires
put_word-requires c =
    let within : 64 * c.loop-k.k < length c.args.row.now = omega (arith, c.loop-k-test.true, c.div_ceil-k-end.ensures, c.len.ensures) in
    record { within = within; few = omega (arith, within, c.len.ensures, c.len.type_inv) }

pub loop-k-preserved : goal.loop-k-preserved
loop-k-preserved c =
    next_word (string_bytes c.args.text.now) (string_bytes c.loop-k.text) (string_bytes c.put_word.new.text) c.args.row.now c.loop-k.k c.loop-k.invariant c.in_ok-put_word.ensures

pub returns : goal.returns
returns c =
    all_words (string_bytes c.args.text.now) (string_bytes c.loop-k.text) c.args.row.now (64 * c.loop-k.k) c.loop-k.invariant
    (omega (arith, c.loop-k-test.false, c.div_ceil-k-end.ensures, c.len.ensures))
