use Rattle.qm_pieces.specs.inner.OpenToken.{mode_of}
use Rattle.qm_pieces.proofs.Lexers.{slash_answer}
use Rattle.qm_pieces.proofs.open_token.OpenToken.follow_slash.Goals as goal

pub returns : goal.returns
returns c =
    let kept = c.in_ok-keep_slash.ensures in
    slash_answer c.follow_word.result c.keep_slash.new.self.bytes.items c.keep_slash.new.self.start c.keep_slash.new.self.line c.args.self.now.start c.args.self.now.line c.args.offset c.args.byte (mode_of c.follow_word.new.self)
    kept.bytes kept.start kept.line c.if-byte-eq47.false c.follow_word.ensures
