use Rattle.std.proofs.Common.{None, ap}
use Rattle.qm_tokens.specs.inner.Modes.{slash, in_comment, in_word, in_quote}
use Rattle.qm_pieces.specs.declared.open_token.OpenPart.{OpenPart}
use Rattle.qm_pieces.specs.inner.OpenToken.{mode_of, mode_with}
use Rattle.qm_pieces.proofs.Lexers.{taken_answer, taken_token}
use Rattle.qm_pieces.proofs.open_token.OpenToken.take.Goals as goal

pub returns-in-Slash : goal.returns-in-Slash
returns-in-Slash c =
    taken_answer c.follow_slash.result (mode_of c.args.self.now) (slash c.args.self.now.start c.args.self.now.line) c.args.offset c.args.line c.args.byte (mode_of c.follow_slash.new.self)
    (ap (λ (p : OpenPart). mode_with p c.args.self.now.bytes.items c.args.self.now.start c.args.self.now.line) c.in-Slash.is) c.follow_slash.ensures

pub returns-in-Comment : goal.returns-in-Comment
returns-in-Comment c =
    taken_token None (mode_of c.args.self.now) in_comment c.args.offset c.args.line c.args.byte (mode_of c.follow_comment.new.self)
    (ap (λ (p : OpenPart). mode_with p c.args.self.now.bytes.items c.args.self.now.start c.args.self.now.line) c.in-Comment.is) (c.follow_comment.ensures c.args.offset)

pub returns-in-Word : goal.returns-in-Word
returns-in-Word c =
    taken_answer c.follow_word.result (mode_of c.args.self.now) (in_word c.args.self.now.bytes.items c.args.self.now.start c.args.self.now.line) c.args.offset c.args.line c.args.byte (mode_of c.follow_word.new.self)
    (ap (λ (p : OpenPart). mode_with p c.args.self.now.bytes.items c.args.self.now.start c.args.self.now.line) c.in-Word.is) c.follow_word.ensures

pub returns-in-Quote : goal.returns-in-Quote
returns-in-Quote c =
    taken_answer c.follow_quote.result (mode_of c.args.self.now) (in_quote c.args.self.now.bytes.items c.args.self.now.start c.args.self.now.line) c.args.offset c.args.line c.args.byte (mode_of c.follow_quote.new.self)
    (ap (λ (p : OpenPart). mode_with p c.args.self.now.bytes.items c.args.self.now.start c.args.self.now.line) c.in-Quote.is) c.follow_quote.ensures
