use Rattle.std.proofs.Common.{◌≡◌, ℕ, ◌+◌, drop, slice_range}
use Rattle.qm_tokens.specs.inner.Modes.{read, in_word}
use Rattle.qm_lex.proofs.scan.word_end.Given as goal

abbrev pub invariant-loop-offset : goal.invariant-loop-offset
invariant-loop-offset l =
    (line : ℕ)
    → read (in_word (slice_range l.text l.start (l.start + 1)) l.start line) (l.start + 1) line (drop (l.start + 1) l.text)
    ≡ read (in_word (slice_range l.text l.start l.offset) l.start line) l.offset line (drop l.offset l.text)
