-- The lexemes of the pieces of a text stand in it.
use Rattle.std.proofs.Common.{◌≡◌, ℕ, ◌+◌, ◌-◌, List, [], ◌∷◌, ◌++◌, Option, Some, None, length, take, slice_range, sym, refl, ap, ◌∙◌, append_assoc, length-append, arith}
use Rattle.std.specs.Prelude.{All, IfSome}
use Rattle.std.proofs.lemmas.List.{drop_at, take_at}
use Rattle.std.proofs.lemmas.List.Elements.{All-nil, All-cons}
use Rattle.qm_tokens.specs.Lexeme.{Lexeme, StandsIn, line_ends}
use Rattle.qm_tokens.specs.Lexing.{Lexing, prepend, lexeme_at, lexing_from}
use Rattle.qm_tokens.specs.Piece.{TextPiece, blank, comment, word, quoted, unclosed, bytes_of_piece, ArePiecesOf}
use Rattle.qm_tokens.proofs.PieceRuns.{line_ends-append}

-- the prefix of a text is read, up to an offset on a line
record Reached (text prefix rest : List ℕ) (offset line : ℕ) : Type 0 where
  joined : text ≡ prefix ++ rest
  offset_is : offset ≡ length prefix
  line_is : line ≡ 1 + line_ends prefix

-- a piece further
reached_next : (text prefix rest : List ℕ) (offset line : ℕ) → Reached text prefix rest offset line → (bytes after : List ℕ) → rest ≡ bytes ++ after → Reached text (prefix ++ bytes) after (offset + length bytes) (line + line_ends bytes)
reached_next text prefix rest offset line reached bytes after joined = record {
  joined = reached.joined ∙ ap (λ r. prefix ++ r) joined ∙ sym (append_assoc prefix bytes after);
  offset_is = omega (arith, reached.offset_is, length-append prefix bytes);
  line_is = omega (arith, reached.line_is, line_ends-append prefix bytes);
}

-- a part of a text behind a prefix
slice_at : (text prefix bytes after : List ℕ) (start : ℕ) → text ≡ prefix ++ (bytes ++ after) → start ≡ length prefix → slice_range text start (start + length bytes) ≡ bytes
slice_at text prefix bytes after start joined start_is =
    ap (λ t. slice_range t start (start + length bytes)) joined
    ∙ ap (take (start + length bytes - start)) (drop_at prefix (bytes ++ after) start (sym start_is))
    ∙ take_at bytes after (start + length bytes - start) (omega arith)

-- the line behind a prefix
line_at : (text prefix rest : List ℕ) (offset line : ℕ) → Reached text prefix rest offset line → (n : ℕ) → n ≡ offset → line ≡ 1 + line_ends (take n text)
line_at text prefix rest offset line reached n n_is =
    let taken = ap (take n) reached.joined ∙ take_at prefix rest n (omega (arith, reached.offset_is)) in
    reached.line_is ∙ ap (λ bytes. 1 + line_ends bytes) (sym taken)

piece_stands : (text prefix rest : List ℕ) (offset line : ℕ) → Reached text prefix rest offset line → (piece : TextPiece) (after : List ℕ) → rest ≡ bytes_of_piece piece ++ after → IfSome (lexeme_at offset line piece) (StandsIn text)
piece_stands text prefix rest offset line reached (blank byte) after joined = tt
piece_stands text prefix rest offset line reached (comment bytes) after joined = tt
piece_stands text prefix rest offset line reached (word bytes) after joined =
    let whole = reached.joined ∙ ap (λ r. prefix ++ r) joined in
    record {
      ordered = omega arith;
      opened_within = omega arith;
      closed_within = omega (arith, reached.offset_is, ap length whole, length-append prefix (bytes ++ after), length-append bytes after);
      bytes_are = sym (slice_at text prefix bytes after offset whole reached.offset_is);
      line_is = line_at text prefix rest offset line reached (offset - 0) (omega arith);
    }
piece_stands text prefix rest offset line reached (quoted bytes) after joined =
    let whole : text ≡ (prefix ++ 34 ∷ []) ++ (bytes ++ 34 ∷ after) = reached.joined ∙ ap (λ r. prefix ++ r) joined ∙ ap (λ t. prefix ++ 34 ∷ t) (append_assoc bytes (34 ∷ []) after) ∙ sym (append_assoc prefix (34 ∷ []) (bytes ++ 34 ∷ after)) in
    let prefix_length = length-append prefix (34 ∷ []) in
    record {
      ordered = omega arith;
      opened_within = omega arith;
      closed_within = omega (arith, reached.offset_is, prefix_length, ap length whole, length-append (prefix ++ 34 ∷ []) (bytes ++ 34 ∷ after), length-append bytes (34 ∷ after));
      bytes_are = sym (slice_at text (prefix ++ 34 ∷ []) bytes (34 ∷ after) (offset + 1) whole (omega (arith, reached.offset_is, prefix_length)));
      line_is = line_at text prefix rest offset line reached (offset + 1 - 1) (omega arith);
    }
piece_stands text prefix rest offset line reached (unclosed bytes) after joined = tt

-- a lexeme, if there is one, before others
pub all_prepended : (P : Lexeme → Type 0) (first : Option Lexeme) (rest : Lexing) → IfSome first P → All P rest.lexemes → All P (prepend first rest).lexemes
all_prepended P None rest holds others = others
all_prepended P (Some lexeme) rest holds others = All-cons P lexeme rest.lexemes holds others

stand_behind : (text prefix rest : List ℕ) (offset line : ℕ) → Reached text prefix rest offset line → (pieces : List TextPiece) → ArePiecesOf rest pieces → All (StandsIn text) (lexing_from offset line pieces).lexemes
stand_behind text prefix rest offset line reached [] are = All-nil (StandsIn text)
stand_behind text prefix rest offset line reached (unclosed bytes ∷ pieces) are = All-nil (StandsIn text)
stand_behind text prefix rest offset line reached (piece ∷ pieces) (after, joined, is_piece, are) =
    all_prepended (StandsIn text) (lexeme_at offset line piece) (lexing_from (offset + length (bytes_of_piece piece)) (line + line_ends (bytes_of_piece piece)) pieces)
    (piece_stands text prefix rest offset line reached piece after joined)
    (stand_behind text (prefix ++ bytes_of_piece piece) after (offset + length (bytes_of_piece piece)) (line + line_ends (bytes_of_piece piece)) (reached_next text prefix rest offset line reached (bytes_of_piece piece) after joined) pieces are)

pub pieces_stand : (text : List ℕ) (pieces : List TextPiece) → ArePiecesOf text pieces → All (StandsIn text) (lexing_from 0 1 pieces).lexemes
pieces_stand text pieces are =
    stand_behind text [] text 0 1 (record { joined = refl; offset_is = refl; line_is = refl }) pieces are
