use Rattle.std.proofs.Common.{sym, subst, ◌∙◌}
use Rattle.std.specs.Prelude.{All}
use Rattle.qm_tokens.specs.Lexeme.{StandsIn}
use Rattle.qm_tokens.specs.Lexing.{Lexing}
use Rattle.qm_tokens.proofs.Cutting.{pieces_of}
use Rattle.qm_tokens.proofs.PieceRuns.{read_pieces}
use Rattle.qm_tokens.proofs.Standing.{pieces_stand}
use Rattle.qm_lex.proofs.lexer.Lexer.new.Goals as goal

pub returns-clause-lexing : goal.returns-clause-lexing
returns-clause-lexing c =
    let text = c.args.text.now in
    let cut = pieces_of text in
    (cut.0, cut.1, read_pieces text cut.0 0 1 cut.1)

pub returns-clause-only : goal.returns-clause-only
returns-clause-only c =
    λ other is_lexing. is_lexing.2 ∙ sym (read_pieces c.args.text.now is_lexing.0 0 1 is_lexing.1)

pub returns-clause-within : goal.returns-clause-within
returns-clause-within c =
    let text = c.args.text.now in
    let cut = pieces_of text in
    subst (λ (lexing : Lexing). All (StandsIn text) lexing.lexemes) (sym (read_pieces text cut.0 0 1 cut.1)) (pieces_stand text cut.0 cut.1)
