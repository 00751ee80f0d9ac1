use Rattle.std.proofs.Common.{◌≡◌, ℕ, drop}
use Rattle.qm_tokens.specs.inner.Modes.{read, in_comment}
use Rattle.qm_lex.proofs.scan.comment_end.Given as goal

abbrev pub invariant-loop-offset : goal.invariant-loop-offset
invariant-loop-offset l =
    (line : ℕ) → read in_comment l.from line (drop l.from l.text) ≡ read in_comment l.offset line (drop l.offset l.text)
