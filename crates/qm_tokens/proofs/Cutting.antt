-- Each text can be cut into pieces.
use Rattle.std.proofs.Common.{◌≡◌, ℕ, suc, zero, ◌<◌, ◌≤◌, List, [], ◌∷◌, ◌++◌, ◌⊎◌, length, get_or, sym, refl, ap, ◌∙◌, inl, inr, ⊎_elim, append_assoc, arith, length-append}
use Rattle.std.specs.Prelude.{All}
use Rattle.std.proofs.lemmas.Bool.{cases_eq, cases_lt}
use Rattle.std.proofs.lemmas.List.{nil_from_length}
use Rattle.std.proofs.lemmas.List.Elements.{All-nil, All-cons}
use Rattle.qm_tokens.specs.Piece.{TextPiece, blank, comment, word, quoted, unclosed, bytes_of_piece, EndsLine, EndsWord, OpensWord, IsTextPiece, ArePiecesOf}

-- the bytes begin with one that is not of a sort, or are none
abbrev StopsAt : (ℕ → Type 0) → List ℕ → Type 0
StopsAt P [] = Unit {0}
StopsAt P (byte ∷ _) = P byte → ⊥

-- the longest prefix of bytes of a sort, and what follows
record Cut (P : ℕ → Type 0) (bytes : List ℕ) : Type 0 where
  prefix : List ℕ
  after : List ℕ
  joined : bytes ≡ prefix ++ after
  all : All P prefix
  stops : StopsAt P after

-- a byte that is or is not of the sort, before a list that is cut
cut_more : (P : ℕ → Type 0) (byte : ℕ) (bytes : List ℕ) → Cut P bytes → P byte ⊎ (P byte → ⊥) → Cut P (byte ∷ bytes)
cut_more P byte bytes rest decided =
    ⊎_elim
    (λ is. record { prefix = byte ∷ rest.prefix; after = rest.after; joined = ap (λ bs. byte ∷ bs) rest.joined; all = All-cons P byte rest.prefix is rest.all; stops = rest.stops })
    (λ is_not. record { prefix = []; after = byte ∷ bytes; joined = refl; all = All-nil P; stops = is_not })
    decided

cut : (P : ℕ → Type 0) → ((byte : ℕ) → P byte ⊎ (P byte → ⊥)) → (bytes : List ℕ) → Cut P bytes
cut P decide [] = record { prefix = []; after = []; joined = refl; all = All-nil P; stops = tt }
cut P decide (byte ∷ bytes) = cut_more P byte bytes (cut P decide bytes) (decide byte)

-- whether a byte differs from another
differs : (c byte : ℕ) → (byte ≡ c → ⊥) ⊎ ((byte ≡ c → ⊥) → ⊥)
differs c byte = ⊎_elim (λ e. inr (λ other. other e)) (λ other. inl other) (cases_eq byte c)

-- a byte that does not differ from another is the same
same : (c byte : ℕ) → ((byte ≡ c → ⊥) → ⊥) → byte ≡ c
same c byte never = ⊎_elim (λ e. e) (λ other. absurd (never other)) (cases_eq byte c)

-- whether a byte is above 32
is_above : (byte : ℕ) → (32 < byte) ⊎ (32 < byte → ⊥)
is_above byte = ⊎_elim (λ above. inl above) (λ blank. inr (λ above. omega arith)) (cases_lt 32 byte)

-- one piece, and what follows it
record FirstPiece (text : List ℕ) : Type 0 where
  piece : TextPiece
  after : List ℕ
  joined : text ≡ bytes_of_piece piece ++ after
  is_piece : IsTextPiece piece after
  shorter : length after < length text

-- a quote opens a token, or is not closed
quote_from : (bytes prefix after : List ℕ) → bytes ≡ prefix ++ after → All (λ byte. byte ≡ 34 → ⊥) prefix → StopsAt (λ byte. byte ≡ 34 → ⊥) after → FirstPiece (34 ∷ bytes)
quote_from bytes prefix [] joined all stops =
    record { piece = unclosed prefix; after = []; joined = ap (λ bs. 34 ∷ bs) joined; is_piece = (all, refl); shorter = omega arith }
quote_from bytes prefix (byte ∷ after) joined all stops =
    let is_quote = same 34 byte stops in
    record {
      piece = quoted prefix;
      after = after;
      joined = ap (λ bs. 34 ∷ bs) (joined ∙ ap (λ b. prefix ++ b ∷ after) is_quote ∙ sym (append_assoc prefix (34 ∷ []) after));
      is_piece = all;
      shorter = omega (arith, ap length joined, length-append prefix (byte ∷ after));
    }

quote_first : (bytes : List ℕ) → FirstPiece (34 ∷ bytes)
quote_first bytes =
    let c = cut (λ byte. byte ≡ 34 → ⊥) (differs 34) bytes in
    quote_from bytes c.prefix c.after c.joined c.all c.stops

-- what stops at a line end
ends_line : (after : List ℕ) → StopsAt (λ byte. byte ≡ 10 → ⊥) after → EndsLine after
ends_line [] stops = tt
ends_line (byte ∷ after) stops = same 10 byte stops

-- two slashes open a comment
comment_first : (bytes : List ℕ) → FirstPiece (47 ∷ 47 ∷ bytes)
comment_first bytes =
    let c = cut (λ byte. byte ≡ 10 → ⊥) (differs 10) bytes in
    record {
      piece = comment c.prefix;
      after = c.after;
      joined = ap (λ bs. 47 ∷ 47 ∷ bs) c.joined;
      is_piece = (c.all, ends_line c.after c.stops);
      shorter = omega (arith, ap length c.joined, length-append c.prefix c.after);
    }

second_slash : (bytes : List ℕ) → get_or bytes 0 0 ≡ 47 → FirstPiece (47 ∷ bytes)
second_slash [] is_slash = absurd (omega arith)
second_slash (byte ∷ bytes) is_slash = rw is_slash (comment_first bytes)

-- what stops at a blank
ends_word : (after : List ℕ) → StopsAt (λ byte. 32 < byte) after → EndsWord after
ends_word [] stops = tt
ends_word (byte ∷ after) stops = ⊎_elim (λ above. absurd (stops above)) (λ blank. blank) (cases_lt 32 byte)

-- a first byte that opens a word, with what follows in it
opens_word : (byte : ℕ) (bytes prefix after : List ℕ) → bytes ≡ prefix ++ after → (byte ≡ 34 → ⊥) → (byte ≡ 47 → get_or bytes 0 0 ≡ 47 → ⊥) → OpensWord (byte ∷ prefix)
opens_word byte bytes [] after joined no_quote no_comment = no_quote
opens_word byte bytes (second ∷ prefix) after joined no_quote no_comment =
    (no_quote, λ is_slash follows. no_comment is_slash (ap (λ bs. get_or bs 0 0) joined ∙ follows))

word_first : (byte : ℕ) (bytes : List ℕ) → 32 < byte → (byte ≡ 34 → ⊥) → (byte ≡ 47 → get_or bytes 0 0 ≡ 47 → ⊥) → FirstPiece (byte ∷ bytes)
word_first byte bytes above no_quote no_comment =
    let c = cut (λ b. 32 < b) is_above bytes in
    record {
      piece = word (byte ∷ c.prefix);
      after = c.after;
      joined = ap (λ bs. byte ∷ bs) c.joined;
      is_piece = (opens_word byte bytes c.prefix c.after c.joined no_quote no_comment, All-cons (λ b. 32 < b) byte c.prefix above c.all, ends_word c.after c.stops);
      shorter = omega (arith, ap length c.joined, length-append c.prefix c.after);
    }

-- a `/` opens a comment or a word
slash_first : (bytes : List ℕ) → FirstPiece (47 ∷ bytes)
slash_first bytes =
    ⊎_elim
    (λ second. second_slash bytes second)
    (λ other. word_first 47 bytes (omega arith) (λ e. absurd (omega arith)) (λ _. other))
    (cases_eq (get_or bytes 0 0) 47)

token_first : (byte : ℕ) (bytes : List ℕ) → 32 < byte → FirstPiece (byte ∷ bytes)
token_first byte bytes above =
    ⊎_elim
    (λ is_quote. rw is_quote (quote_first bytes))
    (λ no_quote. ⊎_elim
    (λ is_slash. rw is_slash (slash_first bytes))
    (λ no_slash. word_first byte bytes above no_quote (λ is_slash. absurd (no_slash is_slash)))
    (cases_eq byte 47))
    (cases_eq byte 34)

first_piece : (byte : ℕ) (bytes : List ℕ) → FirstPiece (byte ∷ bytes)
first_piece byte bytes =
    ⊎_elim
    (λ above. token_first byte bytes above)
    (λ is_blank. record { piece = blank byte; after = bytes; joined = refl; is_piece = is_blank; shorter = omega arith })
    (cases_lt 32 byte)

cut_up : (n : ℕ) (text : List ℕ) → length text ≤ n → (pieces : List TextPiece) × ArePiecesOf text pieces
cut_up zero text fits = ([], nil_from_length text (omega arith))
cut_up (suc n) [] fits = ([], refl)
cut_up (suc n) (byte ∷ bytes) fits =
    let first = first_piece byte bytes in
    let rest = cut_up n first.after (omega (arith, first.shorter)) in
    (first.piece ∷ rest.0, (first.after, first.joined, first.is_piece, rest.1))

-- the pieces of a text
pub pieces_of : (text : List ℕ) → (pieces : List TextPiece) × ArePiecesOf text pieces
pieces_of text = cut_up (length text) text (omega arith)
