-- What is read in a face that is begun goes on with it, or ends it.
use Rattle.std.proofs.Common.{◌≡◌, ◌≢◌, ℕ, ◌<◌, ◌≤◌, zero, suc, Bool, true, false, ◌&&◌, ℤ, List, [], ◌∷◌, ◌++◌, length, get_or, drop, Ok, refl, sym, ap, subst, ◌∙◌, ⊎_elim, append_assoc, append-nil, length-append, arith}
use Rattle.std.proofs.lemmas.Bool.{and_parts, cases_eq}
use Rattle.std.proofs.lemmas.List.{nil_from_length, get_or_at, get_or_append_left, drop_at, same_from_push}
use Rattle.qm_mapfile.specs.declared.face.Face.{Face}
use Rattle.qm_mapfile.specs.declared.entity.Brush.{Brush}
use Rattle.qm_mapfile.specs.declared.entity.Pair.{Pair}
use Rattle.qm_mapfile.specs.declared.entity.Entity.{Entity}
use Rattle.qm_mapfile.specs.Face.{GivePlane}
use Rattle.qm_grammar.specs.declared.mark.Mark.TheVariants.{CloseParenthesis}
use Rattle.qm_grammar.specs.declared.slot.Slot.{Slot}
use Rattle.qm_grammar.specs.declared.slot.Slot.TheVariants as slot
use Rattle.qm_grammar.specs.Symbol.{Symbol}
use Rattle.qm_grammar.specs.Slots.{Form, standard, valve, head_slots, mapping_slots, face_slots, Fill, points_of}
use Rattle.qm_grammar.specs.Grammar.{SpellsFace}
use Rattle.qm_grammar.specs.Prefix.{Prefix, in_brush, in_face, IsBegunFace, in_head, in_mapping}
use Rattle.qm_grammar.specs.inner.Machine.{step}
use Rattle.qm_grammar.proofs.Filling.{takes, coordinates, coordinates-append, fill_push, number_filled, numbers_filled}
use Rattle.qm_grammar.proofs.FaceSteps.{SpansAt, behind}
use Rattle.qm_grammar.proofs.FaceRuns.{points_kept, MappingCut, mapping_cut, mapping_goes_on, mapping_coordinates, head_goes_on}
use Rattle.qm_grammar.proofs.SlotReads.{IsSlotRead, slot_read, IsFirstRead, first_read}

-- ---- where a slot stands in its row

abbrev is_plain : Slot → Bool
is_plain slot.FirstOfMapping = false
is_plain _ = true

abbrev are_plain : List Slot → Bool
are_plain [] = true
are_plain (one ∷ slots) = is_plain one && are_plain slots

plain_is : (one : Slot) → is_plain one ≡ true → one ≢ slot.FirstOfMapping
plain_is one plain is = absurd (let never : false ≡ true = sym (ap is_plain is) ∙ plain in cc)

plain_at : (slots : List Slot) (k : ℕ) (other : Slot) → are_plain slots ≡ true → k < length slots → get_or slots k other ≢ slot.FirstOfMapping
plain_at [] k other plain inside = absurd (omega arith)
plain_at (one ∷ slots) zero other plain inside = plain_is one (and_parts (is_plain one) (are_plain slots) plain).0
plain_at (one ∷ slots) (suc k) other plain inside = plain_at slots k other (and_parts (is_plain one) (are_plain slots) plain).1 (omega arith)

slot_at : (filled others row : List Slot) (one : Slot) (k : ℕ) → filled ++ one ∷ others ≡ row → length filled ≡ k → one ≡ get_or row k one
slot_at filled others row one k is count = sym (get_or_at filled one others one k count) ∙ ap (λ (l : List Slot). get_or l k one) is

-- a slot of the head before its last is of one form
head_plain : (filled more : List Slot) (one two : Slot) → filled ++ one ∷ (two ∷ more) ≡ head_slots ++ slot.FirstOfMapping ∷ [] → one ≢ slot.FirstOfMapping
head_plain filled more one two is =
    let count : length (filled ++ one ∷ (two ∷ more)) ≡ 17 = ap length is in
    let inside : length filled < 16 = omega (arith, length-append filled (one ∷ (two ∷ more))) in
    let here : one ≡ get_or head_slots (length filled) one =
    slot_at filled (two ∷ more) (head_slots ++ slot.FirstOfMapping ∷ []) one (length filled) is refl
    ∙ get_or_append_left head_slots (slot.FirstOfMapping ∷ []) one (length filled) inside in
    λ first. plain_at head_slots (length filled) one refl inside (sym here ∙ first)

face_slots_plain : (form : Form) → are_plain (face_slots form) ≡ true
face_slots_plain standard = refl
face_slots_plain valve = refl

face_plain : (form : Form) (filled others : List Slot) (one : Slot) → filled ++ one ∷ others ≡ face_slots form → one ≢ slot.FirstOfMapping
face_plain form filled others one is =
    let count : length (filled ++ one ∷ others) ≡ length (face_slots form) = ap length is in
    let inside : length filled < length (face_slots form) = omega (arith, length-append filled (one ∷ others)) in
    λ first. plain_at (face_slots form) (length filled) one (face_slots_plain form) inside (sym (slot_at filled others (face_slots form) one (length filled) is refl) ∙ first)

-- ---- the points of a begun face

no_number : (ns number : List ℤ) → length number ≡ 0 → ns ++ number ≡ ns
no_number ns number none = ap (λ (l : List ℤ). ns ++ l) (nil_from_length number none) ∙ append-nil ns

spans_on : (ns number : List ℤ) → length number ≡ 0 → GivePlane (points_of ns) → GivePlane (points_of (ns ++ number))
spans_on ns number none spans = subst (λ (l : List ℤ). GivePlane (points_of l)) (sym (no_number ns number none)) spans

-- behind the fourteenth slot stands the parenthesis that closes the third point
closer_due : (filled more : List Slot) (one two : Slot) → filled ++ one ∷ (two ∷ more) ≡ head_slots ++ slot.FirstOfMapping ∷ [] → length filled ≡ 14 → (one ≡ slot.Mark CloseParenthesis) × (coordinates filled ≡ 9)
closer_due filled more one two is count =
    let behind : one ∷ (two ∷ more) ≡ drop 14 (head_slots ++ slot.FirstOfMapping ∷ []) = sym (drop_at filled (one ∷ (two ∷ more)) 14 count) ∙ ap (drop 14) is in
    let none_behind : coordinates (one ∷ (two ∷ more)) ≡ 0 = ap coordinates behind in
    let nine : coordinates (filled ++ one ∷ (two ∷ more)) ≡ 9 = ap coordinates is in (
      slot_at filled (two ∷ more) (head_slots ++ slot.FirstOfMapping ∷ []) one 14 is count,
      omega (arith, coordinates-append filled (one ∷ (two ∷ more))),
    )

-- behind the fifteenth stands the texture
texture_due : (filled more : List Slot) (one two : Slot) → filled ++ one ∷ (two ∷ more) ≡ head_slots ++ slot.FirstOfMapping ∷ [] → 15 ≤ length filled → one ≡ slot.Texture
texture_due filled more one two is beyond =
    let count : length (filled ++ one ∷ (two ∷ more)) ≡ 17 = ap length is in
    slot_at filled (two ∷ more) (head_slots ++ slot.FirstOfMapping ∷ []) one 15 is (omega (arith, length-append filled (one ∷ (two ∷ more))))

head_spans : (filled more : List Slot) (one two : Slot) (ns number : List ℤ) → filled ++ one ∷ (two ∷ more) ≡ head_slots ++ slot.FirstOfMapping ∷ [] → length ns ≡ coordinates filled → length number ≡ takes one → SpansAt one ns → (15 ≤ length filled → GivePlane (points_of ns)) → 15 ≤ length (filled ++ one ∷ []) → GivePlane (points_of (ns ++ number))
head_spans filled more one two ns number is count added here before beyond =
    ⊎_elim
    (λ fourteen.
    let due = closer_due filled more one two is fourteen in
    spans_on ns number (added ∙ ap takes due.0) (here due.0 (count ∙ due.1)))
    (λ other.
    let past : 15 ≤ length filled = omega (arith, length-append filled (one ∷ [])) in
    spans_on ns number (added ∙ ap takes (texture_due filled more one two is past)) (before past))
    (cases_eq (length filled) 14)

-- ---- one more symbol

-- a symbol behind the prefix of a face goes on with it, or ends it
pub data IsFaceNext (es : List Entity) (ps : List Pair) (bs : List Brush) (fs : List Face) (symbols : List Symbol) (next : Prefix) : Type 0 where
  goes_on : {ns : List ℤ} {ts : List (List ℕ)} {left : List Slot} → IsBegunFace symbols ns ts left → next ≡ in_face es ps bs fs ns ts left → IsFaceNext es ps bs fs symbols next
  ends : {face : Face} → SpellsFace symbols face → next ≡ in_brush es ps bs (fs ++ face ∷ []) → IsFaceNext es ps bs fs symbols next

push_some : (filled : List Slot) (one : Slot) → filled ++ one ∷ [] ≢ []
push_some [] one none = absurd cc
push_some (first ∷ filled) one none = absurd cc

module _ (es : List Entity) (ps : List Pair) (bs : List Brush) (fs : List Face) where
  -- in the head
  head_next : (symbols : List Symbol) (ns : List ℤ) (ts : List (List ℕ)) (filled more : List Slot) (one two : Slot) (symbol : Symbol) (next : Prefix) → Fill filled symbols ns ts → filled ++ one ∷ (two ∷ more) ≡ head_slots ++ slot.FirstOfMapping ∷ [] → (15 ≤ length filled → GivePlane (points_of ns)) → IsSlotRead es ps bs fs ns ts one (two ∷ more) symbol next → IsFaceNext es ps bs fs (symbols ++ symbol ∷ []) next
  head_next symbols ns ts filled more one two symbol next fill is spans read =
      goes_on
      (in_head {filled = filled ++ one ∷ []} (fill_push fill read.fills) (push_some filled one)
      (append_assoc filled (one ∷ []) (two ∷ more) ∙ is)
      (head_spans filled more one two ns read.number is (numbers_filled fill) (number_filled read.fills) read.spans spans))
      read.next_is

  -- behind the head
  first_next : (symbols : List Symbol) (ns : List ℤ) (ts : List (List ℕ)) (filled : List Slot) (symbol : Symbol) (next : Prefix) → Fill filled symbols ns ts → filled ≡ head_slots → GivePlane (points_of ns) → IsFirstRead es ps bs fs ns ts symbol next → IsFaceNext es ps bs fs (symbols ++ symbol ∷ []) next
  first_next symbols ns ts filled symbol next fill is spans read =
      let count : length filled ≡ 16 = ap length is in
      let none_taken : coordinates (read.one ∷ read.others) ≡ 0 = ap coordinates (sym read.mapping) ∙ mapping_coordinates read.form in
      let added = number_filled read.fills in
      goes_on
      (in_mapping read.form {filled = filled ++ read.one ∷ []} (fill_push fill read.fills) (omega (arith, length-append filled (read.one ∷ [])))
      (mapping_goes_on read.form read.one read.others (sym read.mapping))
      (append_assoc filled (read.one ∷ []) read.others ∙ ap (λ (l : List Slot). l ++ read.one ∷ read.others) is ∙ ap (λ (l : List Slot). head_slots ++ l) (sym read.mapping))
      (spans_on ns read.number (omega arith) spans))
      read.next_is

  -- in the mapping
  mapping_next : (form : Form) (symbols : List Symbol) (ns : List ℤ) (ts : List (List ℕ)) (filled others : List Slot) (one : Slot) (symbol : Symbol) (next : Prefix) → Fill filled symbols ns ts → 17 ≤ length filled → filled ++ one ∷ others ≡ face_slots form → GivePlane (points_of ns) → IsSlotRead es ps bs fs ns ts one others symbol next → IsFaceNext es ps bs fs (symbols ++ symbol ∷ []) next
  mapping_next form symbols ns ts filled others one symbol next fill beyond is spans read =
      mapping_next_by others is read.next_is
    where
      cut : (rest : List Slot) → filled ++ one ∷ rest ≡ face_slots form → length read.number ≡ 0
      cut rest joined =
          let parts : MappingCut filled (one ∷ rest) (mapping_slots form) = mapping_cut filled (one ∷ rest) (mapping_slots form) joined beyond in
          let none_taken : coordinates (parts.one ∷ (parts.slots ++ one ∷ rest)) ≡ 0 = ap coordinates parts.rest ∙ mapping_coordinates form in
          let added = number_filled read.fills in
          omega (arith, coordinates-append parts.slots (one ∷ rest))

      mapping_next_by : (rest : List Slot) → filled ++ one ∷ rest ≡ face_slots form → next ≡ behind es ps bs fs (ns ++ read.number) (ts ++ read.text) rest → IsFaceNext es ps bs fs (symbols ++ symbol ∷ []) next
      mapping_next_by [] joined next_is =
          ends
          (record {
            form = form;
            numbers = ns ++ read.number;
            texts = ts ++ read.text;
            filled = subst (λ (l : List Slot). Fill l (symbols ++ symbol ∷ []) (ns ++ read.number) (ts ++ read.text)) joined (fill_push fill read.fills);
            is_face = refl;
            plane = subst GivePlane (sym (points_kept (ns ++ read.number) (ts ++ read.text))) (spans_on ns read.number (cut [] joined) spans);
          })
          next_is
      mapping_next_by (two ∷ rest) joined next_is =
          goes_on
          (in_mapping form {filled = filled ++ one ∷ []} (fill_push fill read.fills) (omega (arith, length-append filled (one ∷ []))) (λ none_left. absurd cc)
          (append_assoc filled (one ∷ []) (two ∷ rest) ∙ joined) (spans_on ns read.number (cut (two ∷ rest) joined) spans))
          next_is

  pub begun_next : (symbols : List Symbol) (ns : List ℤ) (ts : List (List ℕ)) (left : List Slot) (symbol : Symbol) (next : Prefix) → IsBegunFace symbols ns ts left → step (in_face es ps bs fs ns ts left) symbol ≡ Ok next → IsFaceNext es ps bs fs (symbols ++ symbol ∷ []) next
  begun_next symbols ns ts [] symbol next (in_head {filled = filled} fill some is spans) read = absurd (head_goes_on filled [] symbols ns ts fill is refl)
  begun_next symbols ns ts (one ∷ []) symbol next (in_head {filled = filled} fill some is spans) read =
      let both = same_from_push filled head_slots one slot.FirstOfMapping is in
      let count : length filled ≡ 16 = ap length both.0 in
      first_next symbols ns ts filled symbol next fill both.0 (spans (omega arith))
      (first_read es ps bs fs ns ts symbol next (subst (λ (s : Slot). step (in_face es ps bs fs ns ts (s ∷ [])) symbol ≡ Ok next) both.1 read))
  begun_next symbols ns ts (one ∷ (two ∷ more)) symbol next (in_head {filled = filled} fill some is spans) read =
      head_next symbols ns ts filled more one two symbol next fill is spans
      (slot_read es ps bs fs ns ts one (two ∷ more) symbol next (head_plain filled more one two is) read)
  begun_next symbols ns ts [] symbol next (in_mapping form fill beyond some is spans) read = absurd (some refl)
  begun_next symbols ns ts (one ∷ others) symbol next (in_mapping form {filled = filled} fill beyond some is spans) read =
      mapping_next form symbols ns ts filled others one symbol next fill beyond is spans
      (slot_read es ps bs fs ns ts one others symbol next (face_plain form filled others one is) read)
