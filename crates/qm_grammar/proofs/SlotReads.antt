-- What is read in a slot of a face fills it.
use Rattle.std.proofs.Common.{◌≡◌, ◌≢◌, ℕ, Bool, true, false, ℤ, List, [], ◌∷◌, ◌++◌, Result, Ok, Err, refl, sym, ap, ◌∙◌, append-nil}
use Rattle.qm_mapfile.specs.declared.face.Face.{Face}
use Rattle.qm_mapfile.specs.declared.entity.Brush.{Brush}
use Rattle.qm_mapfile.specs.declared.entity.Pair.{Pair}
use Rattle.qm_mapfile.specs.declared.entity.Entity.{Entity}
use Rattle.qm_grammar.specs.declared.mark.Mark.{Mark}
use Rattle.qm_grammar.specs.declared.mark.Mark.TheVariants.{OpenBrace, CloseBrace, OpenParenthesis, CloseParenthesis, OpenBracket, CloseBracket}
use Rattle.qm_grammar.specs.declared.mark.Sort.{Sort}
use Rattle.qm_grammar.specs.declared.mark.Sort.TheVariants as sort
use Rattle.qm_grammar.specs.declared.slot.Slot.{Slot}
use Rattle.qm_grammar.specs.declared.slot.Slot.TheVariants as slot
use Rattle.qm_grammar.specs.declared.refusal.Refusal.{Refusal}
use Rattle.qm_grammar.specs.declared.refusal.Refusal.TheVariants as refusal
use Rattle.qm_grammar.specs.Symbol.{Symbol, sort_of}
use Rattle.qm_grammar.specs.Slots.{Form, standard, valve, mapping_slots, Fills, mark, coordinate, texture, quoted_texture, word, points_of}
use Rattle.qm_grammar.specs.Prefix.{Prefix, in_face}
use Rattle.qm_grammar.specs.inner.Machine.{is_same_mark, coordinate_of, plane_refusal, step, step_slot, step_mark, with_left, behind_word, behind_bracket}
use Rattle.qm_grammar.proofs.Numbers.{coordinate_spelled}
use Rattle.qm_grammar.proofs.FaceSteps.{step_sorted, mark_same, SpansAt, is_flat, flat_not, behind, left_behind}

-- a symbol has filled the first slot that is left
pub record IsSlotRead (es : List Entity) (ps : List Pair) (bs : List Brush) (fs : List Face) (ns : List ℤ) (ts : List (List ℕ)) (one : Slot) (others : List Slot) (symbol : Symbol) (next : Prefix) : Type 0 where
  pub number : List ℤ
  pub text : List (List ℕ)
  pub fills : Fills one symbol number text
  pub spans : SpansAt one ns
  pub next_is : next ≡ behind es ps bs fs (ns ++ number) (ts ++ text) others

-- a symbol has told the form of the mapping
pub record IsFirstRead (es : List Entity) (ps : List Pair) (bs : List Brush) (fs : List Face) (ns : List ℤ) (ts : List (List ℕ)) (symbol : Symbol) (next : Prefix) : Type 0 where
  pub form : Form
  pub one : Slot
  pub others : List Slot
  pub number : List ℤ
  pub text : List (List ℕ)
  pub mapping : mapping_slots form ≡ one ∷ others
  pub fills : Fills one symbol number text
  pub next_is : next ≡ in_face es ps bs fs (ns ++ number) (ts ++ text) others

module _ (es : List Entity) (ps : List Pair) (bs : List Brush) (fs : List Face) where
  -- nothing is added to the coordinates, or to the texts
  same_numbers : (ns : List ℤ) (ts : List (List ℕ)) (others : List Slot) → behind es ps bs fs ns ts others ≡ behind es ps bs fs (ns ++ []) ts others
  same_numbers ns ts others = ap (λ (l : List ℤ). behind es ps bs fs l ts others) (sym (append-nil ns))

  same_texts : (ns : List ℤ) (ts : List (List ℕ)) (others : List Slot) → behind es ps bs fs ns ts others ≡ behind es ps bs fs ns (ts ++ []) others
  same_texts ns ts others = ap (λ (l : List (List ℕ)). behind es ps bs fs ns l others) (sym (append-nil ts))

  left_read : (ns : List ℤ) (ts : List (List ℕ)) (left others : List Slot) (next : Prefix) → ◌≡◌ {A = Result Prefix Refusal} (Ok (with_left (in_face es ps bs fs ns ts left) others)) (Ok next) → next ≡ behind es ps bs fs ns ts others
  left_read ns ts left others next read =
      let same : with_left (in_face es ps bs fs ns ts left) others ≡ next = cc in
      sym same ∙ left_behind es ps bs fs ns ts left others

  closer_read : (ns : List ℤ) (ts : List (List ℕ)) (left others : List Slot) (next : Prefix) (t : Bool) → is_flat ns ≡ t → step_mark (in_face es ps bs fs ns ts left) CloseParenthesis others ≡ Ok next → SpansAt (slot.Mark CloseParenthesis) ns × (next ≡ behind es ps bs fs ns ts others)
  unfolding step_mark
  closer_read ns ts left others next true flat read = absurd (let never : Err (plane_refusal (points_of ns)) ≡ Ok next = rw flat at read in cc)
  closer_read ns ts left others next false spans read = (λ closer. flat_not ns spans, left_read ns ts left others next (rw spans at read))

  mark_read : (ns : List ℤ) (ts : List (List ℕ)) (m : Mark) (left others : List Slot) (next : Prefix) → step_mark (in_face es ps bs fs ns ts left) m others ≡ Ok next → SpansAt (slot.Mark m) ns × (next ≡ behind es ps bs fs ns ts others)
  unfolding step_mark
  mark_read ns ts CloseParenthesis left others next read = closer_read ns ts left others next (is_flat ns) refl read
  mark_read ns ts OpenBrace left others next read = (λ closer. absurd cc, left_read ns ts left others next read)
  mark_read ns ts CloseBrace left others next read = (λ closer. absurd cc, left_read ns ts left others next read)
  mark_read ns ts OpenParenthesis left others next read = (λ closer. absurd cc, left_read ns ts left others next read)
  mark_read ns ts OpenBracket left others next read = (λ closer. absurd cc, left_read ns ts left others next read)
  mark_read ns ts CloseBracket left others next read = (λ closer. absurd cc, left_read ns ts left others next read)

  due_read : (ns : List ℤ) (ts : List (List ℕ)) (due m : Mark) (others : List Slot) (symbol : Symbol) (next : Prefix) → sort_of symbol ≡ sort.Mark m → (t : Bool) → is_same_mark due m ≡ t → step_slot (in_face es ps bs fs ns ts (slot.Mark due ∷ others)) (slot.Mark due) others (sort.Mark m) symbol.bytes ≡ Ok next → IsSlotRead es ps bs fs ns ts (slot.Mark due) others symbol next
  unfolding step_slot
  due_read ns ts due m others symbol next is true same read =
      let marks = mark_same due m same in
      let both = mark_read ns ts due (slot.Mark due ∷ others) others next (rw same at read) in
      record {
        number = [];
        text = [];
        fills = mark (is ∙ ap (λ (k : Mark). sort.Mark k) (sym marks));
        spans = both.0;
        next_is = both.1 ∙ same_numbers ns ts others ∙ same_texts (ns ++ []) ts others;
      }
  due_read ns ts due m others symbol next is false same read = absurd (let never : Err refusal.Unexpected ≡ Ok next = rw same at read in cc)

  coordinate_read : (ns : List ℤ) (ts : List (List ℕ)) (others : List Slot) (symbol : Symbol) (next : Prefix) → sort_of symbol ≡ sort.Name → (r : Result ℤ Refusal) → coordinate_of symbol.bytes ≡ r → step_slot (in_face es ps bs fs ns ts (slot.Coordinate ∷ others)) slot.Coordinate others sort.Name symbol.bytes ≡ Ok next → IsSlotRead es ps bs fs ns ts slot.Coordinate others symbol next
  unfolding step_slot
  coordinate_read ns ts others symbol next is (Ok c) spelled read = record {
    number = c ∷ [];
    text = [];
    fills = coordinate is (coordinate_spelled symbol.bytes c spelled);
    spans = λ closer. absurd cc;
    next_is = left_read (ns ++ c ∷ []) ts (slot.Coordinate ∷ others) others next (rw spelled at read) ∙ same_texts (ns ++ c ∷ []) ts others;
  }
  coordinate_read ns ts others symbol next is (Err reason) spelled read = absurd (let never : Err reason ≡ Ok next = rw spelled at read in cc)

  sorted_read : (ns : List ℤ) (ts : List (List ℕ)) (one : Slot) (others : List Slot) (symbol : Symbol) (next : Prefix) (s : Sort) → sort_of symbol ≡ s → one ≢ slot.FirstOfMapping → step_slot (in_face es ps bs fs ns ts (one ∷ others)) one others s symbol.bytes ≡ Ok next → IsSlotRead es ps bs fs ns ts one others symbol next
  unfolding step_slot
  sorted_read ns ts (slot.Mark due) others symbol next (sort.Mark m) is plain read = due_read ns ts due m others symbol next is (is_same_mark due m) refl read
  sorted_read ns ts slot.Coordinate others symbol next sort.Name is plain read = coordinate_read ns ts others symbol next is (coordinate_of symbol.bytes) refl read
  sorted_read ns ts slot.Texture others symbol next sort.Name is plain read = record {
    number = [];
    text = symbol.bytes ∷ [];
    fills = texture is;
    spans = λ closer. absurd cc;
    next_is = left_read ns (ts ++ symbol.bytes ∷ []) (slot.Texture ∷ others) others next read ∙ same_numbers ns (ts ++ symbol.bytes ∷ []) others;
  }
  sorted_read ns ts slot.Texture others symbol next sort.Quoted is plain read = record {
    number = [];
    text = symbol.bytes ∷ [];
    fills = quoted_texture is;
    spans = λ closer. absurd cc;
    next_is = left_read ns (ts ++ symbol.bytes ∷ []) (slot.Texture ∷ others) others next read ∙ same_numbers ns (ts ++ symbol.bytes ∷ []) others;
  }
  sorted_read ns ts slot.Word others symbol next sort.Name is plain read = record {
    number = [];
    text = symbol.bytes ∷ [];
    fills = word is;
    spans = λ closer. absurd cc;
    next_is = left_read ns (ts ++ symbol.bytes ∷ []) (slot.Word ∷ others) others next read ∙ same_numbers ns (ts ++ symbol.bytes ∷ []) others;
  }
  sorted_read ns ts slot.FirstOfMapping others symbol next s is plain read = absurd (plain refl)
  sorted_read ns ts one others symbol next s is plain read = absurd cc

  -- a symbol that is read in a slot fills it
  pub slot_read : (ns : List ℤ) (ts : List (List ℕ)) (one : Slot) (others : List Slot) (symbol : Symbol) (next : Prefix) → one ≢ slot.FirstOfMapping → step (in_face es ps bs fs ns ts (one ∷ others)) symbol ≡ Ok next → IsSlotRead es ps bs fs ns ts one others symbol next
  slot_read ns ts one others symbol next plain read =
      sorted_read ns ts one others symbol next (sort_of symbol) refl plain (sym (step_sorted (in_face es ps bs fs ns ts (one ∷ others)) symbol (sort_of symbol) refl) ∙ read)

  sorted_first : (ns : List ℤ) (ts : List (List ℕ)) (symbol : Symbol) (next : Prefix) (s : Sort) → sort_of symbol ≡ s → step_slot (in_face es ps bs fs ns ts (slot.FirstOfMapping ∷ [])) slot.FirstOfMapping [] s symbol.bytes ≡ Ok next → IsFirstRead es ps bs fs ns ts symbol next
  unfolding step_slot
  sorted_first ns ts symbol next sort.Name is read = record {
    form = standard;
    one = slot.Word;
    others = behind_word;
    number = [];
    text = symbol.bytes ∷ [];
    mapping = refl;
    fills = word is;
    next_is = left_read ns (ts ++ symbol.bytes ∷ []) (slot.FirstOfMapping ∷ []) behind_word next read ∙ same_numbers ns (ts ++ symbol.bytes ∷ []) behind_word;
  }
  sorted_first ns ts symbol next (sort.Mark OpenBracket) is read = record {
    form = valve;
    one = slot.Mark OpenBracket;
    others = behind_bracket;
    number = [];
    text = [];
    mapping = refl;
    fills = mark is;
    next_is = left_read ns ts (slot.FirstOfMapping ∷ []) behind_bracket next read ∙ same_numbers ns ts behind_bracket ∙ same_texts (ns ++ []) ts behind_bracket;
  }
  sorted_first ns ts symbol next s is read = absurd cc

  pub first_read : (ns : List ℤ) (ts : List (List ℕ)) (symbol : Symbol) (next : Prefix) → step (in_face es ps bs fs ns ts (slot.FirstOfMapping ∷ [])) symbol ≡ Ok next → IsFirstRead es ps bs fs ns ts symbol next
  first_read ns ts symbol next read =
      sorted_first ns ts symbol next (sort_of symbol) refl (sym (step_sorted (in_face es ps bs fs ns ts (slot.FirstOfMapping ∷ [])) symbol (sort_of symbol) refl) ∙ read)
