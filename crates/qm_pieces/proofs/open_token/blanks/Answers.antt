use Rattle.std.proofs.Common.{get_or, arith}
use Rattle.std.proofs.lemmas.List.Elements.{All-nil, All-more}
use Rattle.qm_tokens.specs.inner.Modes.{between}
use Rattle.qm_pieces.specs.inner.Keeping.{KeepsMode}
use Rattle.qm_pieces.proofs.PassedBytes.{blank_keeps}
use Rattle.qm_pieces.proofs.open_token.blanks.Goals as goal

pub loop-offset-init : goal.loop-offset-init
loop-offset-init c = All-nil (KeepsMode between)

pub loop-offset-preserved : goal.loop-offset-preserved
loop-offset-preserved c =
    let bytes = c.args.bytes.now in
    let offset = c.loop-offset.offset in
    All-more (KeepsMode between) bytes offset 0 c.loop-offset-test.true c.loop-offset.invariant (blank_keeps (get_or bytes offset 0) (omega arith))
