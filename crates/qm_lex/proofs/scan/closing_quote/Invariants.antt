use Rattle.std.proofs.Common.{◌≡◌, ◌+◌, ◌≤◌, [], drop, slice_range}
use Rattle.qm_tokens.specs.inner.Modes.{read, in_quote}
use Rattle.qm_lex.proofs.scan.closing_quote.Given as goal

abbrev pub invariant-loop-offset : goal.invariant-loop-offset
invariant-loop-offset l = record {
  line_bound : l.line ≤ l.offset + 1;
  same_left :
      read (in_quote [] l.fn.from.offset l.fn.from.line) l.fn.from.offset l.fn.from.line (drop l.fn.from.offset l.text)
      ≡ read (in_quote (slice_range l.text l.fn.from.offset l.offset) l.fn.from.offset l.fn.from.line) l.offset l.line (drop l.offset l.text);
}
