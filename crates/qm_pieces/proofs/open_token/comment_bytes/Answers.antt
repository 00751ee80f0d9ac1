use Rattle.std.proofs.Common.{ℕ, get_or, take, subst, arith}
use Rattle.std.specs.Prelude.{All}
use Rattle.std.proofs.lemmas.List.Elements.{All-nil, All-more}
use Rattle.qm_tokens.specs.inner.Modes.{in_comment}
use Rattle.qm_pieces.specs.inner.Keeping.{KeepsMode}
use Rattle.qm_pieces.proofs.PassedBytes.{comment_keeps}
use Rattle.qm_pieces.proofs.open_token.comment_bytes.Goals as goal

pub loop-offset-init : goal.loop-offset-init
loop-offset-init c = All-nil (KeepsMode in_comment)

pub loop-offset-preserved : goal.loop-offset-preserved
loop-offset-preserved c =
    let bytes = c.args.bytes.now in
    let offset = c.loop-offset.offset in
    All-more (KeepsMode in_comment) bytes offset 0 c.loop-offset-test.true c.loop-offset.invariant (comment_keeps (get_or bytes offset 0) c.if-next-eq10.false)

pub returns-clause-kept : goal.returns-clause-kept
returns-clause-kept c =
    subst (λ (n : ℕ). All (KeepsMode in_comment) (take n c.args.bytes.now)) (omega arith) c.loop-offset.invariant
