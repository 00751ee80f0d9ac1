-- Rows of symbols that fill rows of slots: put together, cut, and counted.
use Rattle.std.proofs.Common.{◌≡◌, ℕ, ◌+◌, ℤ, List, [], ◌∷◌, ◌++◌, length, refl, sym, ap, subst₂, ◌∙◌, append_assoc, append-nil, length-append, arith}
use Rattle.qm_grammar.specs.declared.slot.Slot.{Slot}
use Rattle.qm_grammar.specs.declared.slot.Slot.TheVariants as slot
use Rattle.qm_grammar.specs.Symbol.{Symbol}
use Rattle.qm_grammar.specs.Slots.{Fills, mark, coordinate, texture, quoted_texture, word, Fill, none, more}

-- one more symbol in one more slot
pub fill_push : {slots : List Slot} {symbols : List Symbol} {numbers : List ℤ} {texts : List (List ℕ)} {one : Slot} {symbol : Symbol} {number : List ℤ} {text : List (List ℕ)} → Fill slots symbols numbers texts → Fills one symbol number text → Fill (slots ++ one ∷ []) (symbols ++ symbol ∷ []) (numbers ++ number) (texts ++ text)
fill_push {one = one} {symbol = symbol} {number = number} {text = text} none fills =
    subst₂ (λ (ns : List ℤ) (ts : List (List ℕ)). Fill (one ∷ []) (symbol ∷ []) ns ts) (append-nil number) (append-nil text) (more fills none)
fill_push {one = one} {symbol = symbol} {number = number} {text = text} (more {one = first} {slots = slots} {symbol = head} {symbols = symbols} {number = n} {numbers = ns} {text = t} {texts = ts} fill rest) fills =
    subst₂ (λ (ms : List ℤ) (us : List (List ℕ)). Fill (first ∷ (slots ++ one ∷ [])) (head ∷ (symbols ++ symbol ∷ [])) ms us) (sym (append_assoc n ns number)) (sym (append_assoc t ts text)) (more fill (fill_push rest fills))

-- how many coordinates a slot takes
abbrev pub takes : Slot → ℕ
takes slot.Coordinate = 1
takes _ = 0

abbrev pub coordinates : List Slot → ℕ
coordinates [] = 0
coordinates (one ∷ slots) = takes one + coordinates slots

-- how many texts a slot takes
abbrev pub takes_text : Slot → ℕ
takes_text slot.Texture = 1
takes_text slot.Word = 1
takes_text _ = 0

abbrev pub texts_in : List Slot → ℕ
texts_in [] = 0
texts_in (one ∷ slots) = takes_text one + texts_in slots

pub number_filled : {one : Slot} {symbol : Symbol} {number : List ℤ} {text : List (List ℕ)} → Fills one symbol number text → length number ≡ takes one
number_filled (mark _) = refl
number_filled (coordinate _ _) = refl
number_filled (texture _) = refl
number_filled (quoted_texture _) = refl
number_filled (word _) = refl

text_filled : {one : Slot} {symbol : Symbol} {number : List ℤ} {text : List (List ℕ)} → Fills one symbol number text → length text ≡ takes_text one
text_filled (mark _) = refl
text_filled (coordinate _ _) = refl
text_filled (texture _) = refl
text_filled (quoted_texture _) = refl
text_filled (word _) = refl

pub numbers_filled : {slots : List Slot} {symbols : List Symbol} {numbers : List ℤ} {texts : List (List ℕ)} → Fill slots symbols numbers texts → length numbers ≡ coordinates slots
numbers_filled none = refl
numbers_filled (more {number = number} {numbers = numbers} fills rest) =
    let e = number_filled fills in
    let f = numbers_filled rest in
    omega (arith, length-append number numbers)

pub texts_filled : {slots : List Slot} {symbols : List Symbol} {numbers : List ℤ} {texts : List (List ℕ)} → Fill slots symbols numbers texts → length texts ≡ texts_in slots
texts_filled none = refl
texts_filled (more {text = text} {texts = texts} fills rest) =
    let e = text_filled fills in
    let f = texts_filled rest in
    omega (arith, length-append text texts)

pub symbols_filled : {slots : List Slot} {symbols : List Symbol} {numbers : List ℤ} {texts : List (List ℕ)} → Fill slots symbols numbers texts → length symbols ≡ length slots
symbols_filled none = refl
symbols_filled (more _ rest) = let e = symbols_filled rest in omega arith

pub coordinates-append : (slots others : List Slot) → coordinates (slots ++ others) ≡ coordinates slots + coordinates others
coordinates-append [] others = omega arith
coordinates-append (one ∷ slots) others = let e = coordinates-append slots others in omega arith

-- a filled row in two parts
pub record FillParts (slots others : List Slot) (symbols : List Symbol) (numbers : List ℤ) (texts : List (List ℕ)) : Type 0 where
  pub symbols_first : List Symbol
  pub symbols_then : List Symbol
  pub numbers_first : List ℤ
  pub numbers_then : List ℤ
  pub texts_first : List (List ℕ)
  pub texts_then : List (List ℕ)
  pub first : Fill slots symbols_first numbers_first texts_first
  pub rest : Fill others symbols_then numbers_then texts_then
  pub symbols_are : symbols ≡ symbols_first ++ symbols_then
  pub numbers_are : numbers ≡ numbers_first ++ numbers_then
  pub texts_are : texts ≡ texts_first ++ texts_then

parts_more : {one : Slot} {slots others : List Slot} {symbol : Symbol} {symbols : List Symbol} {number numbers : List ℤ} {text texts : List (List ℕ)} → Fills one symbol number text → FillParts slots others symbols numbers texts → FillParts (one ∷ slots) others (symbol ∷ symbols) (number ++ numbers) (text ++ texts)
parts_more {symbol = symbol} {number = number} {text = text} fills parts = record {
  symbols_first = symbol ∷ parts.symbols_first;
  symbols_then = parts.symbols_then;
  numbers_first = number ++ parts.numbers_first;
  numbers_then = parts.numbers_then;
  texts_first = text ++ parts.texts_first;
  texts_then = parts.texts_then;
  first = more fills parts.first;
  rest = parts.rest;
  symbols_are = ap (λ (l : List Symbol). symbol ∷ l) parts.symbols_are;
  numbers_are = ap (λ (l : List ℤ). number ++ l) parts.numbers_are ∙ sym (append_assoc number parts.numbers_first parts.numbers_then);
  texts_are = ap (λ (l : List (List ℕ)). text ++ l) parts.texts_are ∙ sym (append_assoc text parts.texts_first parts.texts_then);
}

pub fill_cut : (slots others : List Slot) (symbols : List Symbol) (numbers : List ℤ) (texts : List (List ℕ)) → Fill (slots ++ others) symbols numbers texts → FillParts slots others symbols numbers texts
fill_cut [] others symbols numbers texts fill = record {
  symbols_first = [];
  symbols_then = symbols;
  numbers_first = [];
  numbers_then = numbers;
  texts_first = [];
  texts_then = texts;
  first = none;
  rest = fill;
  symbols_are = refl;
  numbers_are = refl;
  texts_are = refl;
}
fill_cut (one ∷ slots) others symbols numbers texts (more {symbols = symbols'} {numbers = numbers'} {texts = texts'} fills rest) = parts_more fills (fill_cut slots others symbols' numbers' texts' rest)
