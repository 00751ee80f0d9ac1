-- The tokens of a text of lines are those of its lines.
use Rattle.std.proofs.Common.{◌≡◌, ◌≢◌, ◌<◌, ◌≤◌, ℕ, List, [], ◌∷◌, ◌++◌, None, refl, ap, append_assoc, map}
use Rattle.std.specs.Prelude.{All}
use Rattle.std.specs.List.{AllByRecursion}
use Rattle.qm_tokens.specs.declared.token.TokenKind.{TokenKind}
use Rattle.qm_tokens.specs.declared.token.TokenKind.TheVariants as kind
use Rattle.qm_tokens.specs.Lexing.{Lexing, lexing_from}
use Rattle.qm_tokens.specs.Piece.{TextPiece, blank, quoted, bytes_of_piece, OpensWord, ArePiecesOf}
use Rattle.qm_tokens.specs.Piece as piece
use Rattle.qm_grammar.specs.Symbol.{Symbol, symbol_of}
use Rattle.qm_grammar.specs.Lines.{spelled_as, spelling}

-- bytes that can stand as a token of this kind
abbrev pub CanStand : TokenKind → List ℕ → Type 0
CanStand kind.Word bytes = OpensWord bytes × All (λ byte. 32 < byte) bytes
CanStand kind.Quoted bytes = All (λ byte. byte ≢ 34) bytes

abbrev pub IsWritable : Symbol → Type 0
IsWritable symbol = CanStand symbol.kind symbol.bytes

-- a token with the byte behind it, a space or a line end
pub record Gapped : Type 0 where
  pub symbol : Symbol
  pub gap : ℕ

pub record IsGood (g : Gapped) : Type 0 where
  pub writable : IsWritable g.symbol
  pub parts : g.gap ≤ 32

unfoldable pub gapped_text : List Gapped → List ℕ
gapped_text [] = []
gapped_text (g ∷ gs) = (spelling g.symbol ++ g.gap ∷ []) ++ gapped_text gs

unfoldable pub piece_of_kind : TokenKind → List ℕ → TextPiece
piece_of_kind kind.Word bytes = piece.word bytes
piece_of_kind kind.Quoted bytes = quoted bytes

unfoldable pub piece_of : Symbol → TextPiece
unfolding piece_of_kind
piece_of symbol = piece_of_kind symbol.kind symbol.bytes

unfoldable pub gapped_pieces : List Gapped → List TextPiece
gapped_pieces [] = []
gapped_pieces (g ∷ gs) = piece_of g.symbol ∷ blank g.gap ∷ gapped_pieces gs

-- a token, its gap and pieces of what follows
one_more : (kind : TokenKind) (bytes rest : List ℕ) (gap : ℕ) (pieces : List TextPiece) → CanStand kind bytes → gap ≤ 32 →
    ArePiecesOf rest pieces → ArePiecesOf ((spelled_as kind bytes ++ gap ∷ []) ++ rest) (piece_of_kind kind bytes ∷ blank gap ∷ pieces)
unfolding piece_of_kind
one_more kind.Word bytes rest gap pieces can small others =
    (gap ∷ rest, append_assoc bytes (gap ∷ []) rest, (can.0, can.1, small), (rest, refl, small, others))
one_more kind.Quoted bytes rest gap pieces can small others =
    (gap ∷ rest, append_assoc (34 ∷ (bytes ++ 34 ∷ [])) (gap ∷ []) rest, can, (rest, refl, small, others))

pub pieces_stand : (gs : List Gapped) → AllByRecursion IsGood gs → ArePiecesOf (gapped_text gs) (gapped_pieces gs)
unfolding gapped_text gapped_pieces piece_of
pieces_stand [] good = refl
pieces_stand (g ∷ gs) good =
    one_more g.symbol.kind g.symbol.bytes (gapped_text gs) g.gap (gapped_pieces gs) good.0.writable good.0.parts (pieces_stand gs good.1)

unfoldable pub symbols_at : Lexing → List Symbol
symbols_at lexing = map symbol_of lexing.lexemes

lexed_one : (kind : TokenKind) (bytes : List ℕ) (offset line gap : ℕ) (pieces : List TextPiece) (symbols : List Symbol) →
    ((o l : ℕ) → (symbols_at (lexing_from o l pieces) ≡ symbols) × ((lexing_from o l pieces).unclosed_line ≡ None)) →
    (symbols_at (lexing_from offset line (piece_of_kind kind bytes ∷ blank gap ∷ pieces)) ≡ (record { kind = kind; bytes = bytes }) ∷ symbols)
    × ((lexing_from offset line (piece_of_kind kind bytes ∷ blank gap ∷ pieces)).unclosed_line ≡ None)
unfolding piece_of_kind symbols_at
lexed_one kind.Word bytes offset line gap pieces symbols others =
    (ap (λ ss. (record { kind = kind.Word; bytes = bytes }) ∷ ss) (others _ _).0, (others _ _).1)
lexed_one kind.Quoted bytes offset line gap pieces symbols others =
    (ap (λ ss. (record { kind = kind.Quoted; bytes = bytes }) ∷ ss) (others _ _).0, (others _ _).1)

pub lexed : (gs : List Gapped) (offset line : ℕ) →
    (symbols_at (lexing_from offset line (gapped_pieces gs)) ≡ map (λ g. g.symbol) gs)
    × ((lexing_from offset line (gapped_pieces gs)).unclosed_line ≡ None)
unfolding gapped_pieces piece_of symbols_at
lexed [] offset line = (refl, refl)
lexed (g ∷ gs) offset line =
    lexed_one g.symbol.kind g.symbol.bytes offset line g.gap (gapped_pieces gs) (map (λ h. h.symbol) gs) (λ o l. lexed gs o l)
