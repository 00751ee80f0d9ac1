use Rattle.std.proofs.Common.{Option, ap, sym, subst, take}
use Rattle.qm_tokens.specs.inner.Modes.{Mode}
use Rattle.qm_pieces.specs.declared.open_token.OpenPart.{OpenPart}
use Rattle.qm_pieces.specs.inner.Keeping.{AllKeepMode}
use Rattle.qm_pieces.specs.inner.OpenToken.{mode_of, mode_with}
use Rattle.qm_pieces.proofs.PassedBytes.{none_keep}
use Rattle.qm_pieces.proofs.open_token.OpenToken.kept_by.Goals as goal

pub returns-in-Nothing-clause-kept : goal.returns-in-Nothing-clause-kept
returns-in-Nothing-clause-kept c =
    subst (λ (m : Option Mode). AllKeepMode m (take c.blanks.result c.args.bytes.now))
    (sym (ap (λ (p : OpenPart). mode_with p c.args.self.now.bytes.items c.args.self.now.start c.args.self.now.line) c.in-Nothing.is)) c.blanks.ensures.kept

pub returns-in-Comment-clause-kept : goal.returns-in-Comment-clause-kept
returns-in-Comment-clause-kept c =
    subst (λ (m : Option Mode). AllKeepMode m (take c.comment_bytes.result c.args.bytes.now))
    (sym (ap (λ (p : OpenPart). mode_with p c.args.self.now.bytes.items c.args.self.now.start c.args.self.now.line) c.in-Comment.is)) c.comment_bytes.ensures.kept

pub returns-in_default-clause-kept : goal.returns-in_default-clause-kept
returns-in_default-clause-kept c = none_keep (mode_of c.args.self.now)
