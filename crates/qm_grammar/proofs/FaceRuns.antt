-- A face that is spelled, or begun, is read through.
use Rattle.std.proofs.Common.{◌≡◌, ◌≢◌, ℕ, ◌+◌, ◌-◌, ◌≤◌, Bool, true, false, ◌&&◌, ◌||◌, ◌==◌, ℤ, List, [], ◌∷◌, ◌++◌, length, take, drop, Ok, refl, sym, ap, ap₂, subst, ◌∙◌, ⊎_elim, append_assoc, append-nil, length-append, arith}
use Rattle.std.proofs.lemmas.Bool.{cases_lt, eq-eqb, or_left, or_right, or_parts, or_from, both_ways, and_from}
use Rattle.std.proofs.Math.Seq.{take-append-add}
use Rattle.std.proofs.lemmas.List.{nil_from_length, take-append-le, take_at, drop-append-le, drop_at, take-append-drop}
use Rattle.qm_mapfile.specs.declared.face.Face.{Face}
use Rattle.qm_mapfile.specs.declared.entity.Brush.{Brush}
use Rattle.qm_mapfile.specs.declared.entity.Pair.{Pair}
use Rattle.qm_mapfile.specs.declared.entity.Entity.{Entity}
use Rattle.qm_mapfile.specs.Face.{GivePlane}
use Rattle.qm_grammar.specs.declared.mark.Mark.{Mark}
use Rattle.qm_grammar.specs.declared.mark.Mark.TheVariants.{CloseParenthesis, OpenParenthesis, OpenBracket}
use Rattle.qm_grammar.specs.declared.mark.Sort.TheVariants as sort
use Rattle.qm_grammar.specs.declared.slot.Slot.{Slot}
use Rattle.qm_grammar.specs.declared.slot.Slot.TheVariants as slot
use Rattle.qm_grammar.specs.Symbol.{Symbol, sort_of}
use Rattle.qm_grammar.specs.Slots.{Form, standard, valve, head_slots, mapping_slots, face_slots, Fills, mark, coordinate, texture, quoted_texture, word, Fill, none, more, points_of, face_of}
use Rattle.qm_grammar.specs.Grammar.{SpellsFace}
use Rattle.qm_grammar.specs.Prefix.{Prefix, in_brush, in_face, IsBegunFace, in_head, in_mapping}
use Rattle.qm_grammar.specs.inner.Machine.{step, step_brush, runs, behind_first}
use Rattle.qm_grammar.proofs.Runs.{runs_step, runs_then, runs_one}
use Rattle.qm_grammar.proofs.Filling.{takes, coordinates, coordinates-append, number_filled, numbers_filled, FillParts, fill_cut}
use Rattle.qm_grammar.proofs.FaceSteps.{step_sorted, SpansAt, behind, fill_step, first_step}

-- ---- slots that close the third point

abbrev is_closer : Slot → Bool
is_closer (slot.Mark CloseParenthesis) = true
is_closer _ = false

-- whether slots have a closing parenthesis behind nine coordinates, of which some stand before
abbrev closes : ℕ → List Slot → Bool
closes count [] = false
closes count (one ∷ slots) = (is_closer one && (count == 9)) || closes (count + takes one) slots

closes_more : (count : ℕ) (slots others : List Slot) → closes count (slots ++ others) ≡ false → closes count slots ≡ false
closes_more count [] others not = refl
closes_more count (one ∷ slots) others not =
    let both = or_parts (is_closer one && (count == 9)) (closes (count + takes one) (slots ++ others)) not in
    or_from (is_closer one && (count == 9)) (closes (count + takes one) slots) both.0 (closes_more (count + takes one) slots others both.1)

-- the points that are closed in these slots give a plane, and no coordinate comes behind the ninth
record ClosesWell (before : List ℤ) (slots : List Slot) (numbers : List ℤ) : Type 0 where
  spans : closes (length before) slots ≡ true → GivePlane (points_of (before ++ numbers))
  few : length before + length numbers ≤ 9

spans_here : (before : List ℤ) (one : Slot) (slots : List Slot) (numbers : List ℤ) → ClosesWell before (one ∷ slots) numbers → SpansAt one before
spans_here before one slots numbers well closer nine =
    let here : (is_closer one && (length before == 9)) ≡ true = and_from (is_closer one) (length before == 9) (ap is_closer closer) (eq-eqb (length before) 9 nine) in
    let few = well.few in
    let none_left : numbers ≡ [] = nil_from_length numbers (omega arith) in
    let whole : before ++ numbers ≡ before = ap (λ (l : List ℤ). before ++ l) none_left ∙ append-nil before in
    subst (λ (l : List ℤ). GivePlane (points_of l)) whole
    (well.spans (or_left (is_closer one && (length before == 9)) (closes (length before + takes one) slots) here))

spans_behind : (before number numbers : List ℤ) (one : Slot) (slots : List Slot) → length number ≡ takes one → ClosesWell before (one ∷ slots) (number ++ numbers) → ClosesWell (before ++ number) slots numbers
spans_behind before number numbers one slots count well =
    let counted : length (before ++ number) ≡ length before + takes one = omega (arith, length-append before number) in
    let few = well.few in
    record {
      spans = λ later. subst (λ (l : List ℤ). GivePlane (points_of l)) (sym (append_assoc before number numbers))
          (well.spans (or_right (is_closer one && (length before == 9)) (closes (length before + takes one) slots) (ap (λ (n : ℕ). closes n slots) (sym counted) ∙ later)));
      few = omega (arith, length-append before number, length-append number numbers);
    }

-- ---- the slots of a mapping

-- a mapping has more than one token
pub mapping_goes_on : (form : Form) (one : Slot) (left : List Slot) → one ∷ left ≡ mapping_slots form → left ≢ []
mapping_goes_on standard one left is ended = absurd cc
mapping_goes_on valve one left is ended = absurd cc

-- a mapping has no coordinate and closes no point
pub mapping_coordinates : (form : Form) → coordinates (mapping_slots form) ≡ 0
mapping_coordinates standard = refl
mapping_coordinates valve = refl

mapping_closes : (form : Form) (count : ℕ) → closes count (mapping_slots form) ≡ false
mapping_closes standard count = refl
mapping_closes valve count = refl

mapping_closes_well : (form : Form) (ns number numbers : List ℤ) (one : Slot) (slots left : List Slot) → length ns ≤ 9 → one ∷ (slots ++ left) ≡ mapping_slots form → length number ≡ takes one → length numbers ≡ coordinates slots → ClosesWell (ns ++ number) slots numbers
mapping_closes_well form ns number numbers one slots left few is first rest =
    let count : coordinates (one ∷ (slots ++ left)) ≡ 0 = ap coordinates is ∙ mapping_coordinates form in
    let parts = coordinates-append slots left in
    let closed : closes (length ns) (one ∷ (slots ++ left)) ≡ false = ap (closes (length ns)) is ∙ mapping_closes form (length ns) in
    let tail : closes (length ns + takes one) (slots ++ left) ≡ false = (or_parts (is_closer one && (length ns == 9)) (closes (length ns + takes one) (slots ++ left)) closed).1 in
    let counted : length (ns ++ number) ≡ length ns + takes one = omega (arith, length-append ns number) in
    let open_points : closes (length (ns ++ number)) slots ≡ false = ap (λ (n : ℕ). closes n slots) counted ∙ closes_more (length ns + takes one) slots left tail in
    record {
      spans = λ later. absurd (both_ways (closes (length (ns ++ number)) slots) open_points later);
      few = omega (arith, length-append ns number);
    }

-- ---- where a begun face stands

-- the slots of a mapping behind those of the head
pub record MappingCut (filled left mapping : List Slot) : Type 0 where
  pub one : Slot
  pub slots : List Slot
  pub joined : filled ≡ head_slots ++ one ∷ slots
  pub rest : one ∷ (slots ++ left) ≡ mapping

mapping_cut_at : (filled left mapping behind : List Slot) → filled ≡ head_slots ++ behind → behind ++ left ≡ mapping → 17 ≤ length filled → MappingCut filled left mapping
mapping_cut_at filled left mapping [] joined rest beyond =
    absurd (let count : length filled ≡ 16 = ap length joined in omega arith)
mapping_cut_at filled left mapping (one ∷ slots) joined rest beyond = record { one = one; slots = slots; joined = joined; rest = rest }

pub mapping_cut : (filled left mapping : List Slot) → filled ++ left ≡ head_slots ++ mapping → 17 ≤ length filled → MappingCut filled left mapping
mapping_cut filled left mapping is beyond =
    let first : take 16 filled ≡ head_slots = sym (take-append-le 16 filled left (omega arith)) ∙ ap (take 16) is ∙ take_at head_slots mapping 16 refl in
    let rest : drop 16 filled ++ left ≡ mapping = sym (drop-append-le 16 filled left (omega arith)) ∙ ap (drop 16) is ∙ drop_at head_slots mapping 16 refl in
    mapping_cut_at filled left mapping (drop 16 filled) (sym (take-append-drop 16 filled) ∙ ap (λ (l : List Slot). l ++ drop 16 filled) first) rest beyond

-- the first fourteen slots of a head close no third point
head_open : (filled left : List Slot) → filled ++ left ≡ head_slots ++ slot.FirstOfMapping ∷ [] → length filled ≤ 14 → closes 0 filled ≡ false
head_open filled left is few =
    let count : 14 ≡ length filled + (14 - length filled) = omega arith in
    let prefix : filled ++ take (14 - length filled) left ≡ take 14 (head_slots ++ slot.FirstOfMapping ∷ []) =
    sym (take-append-add filled left (14 - length filled)) ∙ ap (λ (n : ℕ). take n (filled ++ left)) (sym count) ∙ ap (take 14) is in
    closes_more 0 filled (take (14 - length filled) left) (ap (closes 0) prefix)

head_closes_well : (filled left : List Slot) (numbers : List ℤ) → filled ++ left ≡ head_slots ++ slot.FirstOfMapping ∷ [] → length numbers ≡ coordinates filled → (15 ≤ length filled → GivePlane (points_of numbers)) → ClosesWell [] filled numbers
head_closes_well filled left numbers is count spans =
    let nine : coordinates (filled ++ left) ≡ 9 = ap coordinates is in
    let parts = coordinates-append filled left in
    record {
      spans = λ closed. ⊎_elim
          (λ few. absurd (both_ways (closes 0 filled) (head_open filled left is (omega arith)) closed))
          (λ beyond. spans beyond)
          (cases_lt (length filled) 15);
      few = omega arith;
    }

-- no symbol fills the slot that is open for both forms
no_first_filled : (symbol : Symbol) (number : List ℤ) (text : List (List ℕ)) → Fills slot.FirstOfMapping symbol number text → ⊥
no_first_filled symbol number text fills = elim fills [ ]

no_open_filled : (symbols : List Symbol) (numbers : List ℤ) (texts : List (List ℕ)) → Fill (slot.FirstOfMapping ∷ []) symbols numbers texts → ⊥
no_open_filled symbols numbers texts (more {symbol = symbol} {number = number} {text = text} fills rest) = no_first_filled symbol number text fills

pub head_goes_on : (filled left : List Slot) (symbols : List Symbol) (numbers : List ℤ) (texts : List (List ℕ)) → Fill filled symbols numbers texts → filled ++ left ≡ head_slots ++ slot.FirstOfMapping ∷ [] → left ≢ []
head_goes_on filled left symbols numbers texts fill is none_left =
    let whole : filled ≡ head_slots ++ slot.FirstOfMapping ∷ [] = sym (append-nil filled) ∙ ap (λ (l : List Slot). filled ++ l) (sym none_left) ∙ is in
    let cut = fill_cut head_slots (slot.FirstOfMapping ∷ []) symbols numbers texts (subst (λ (l : List Slot). Fill l symbols numbers texts) whole fill) in
    no_open_filled cut.symbols_then cut.numbers_then cut.texts_then cut.rest

-- the points of a face are its coordinates
pub points_kept : (numbers : List ℤ) (texts : List (List ℕ)) → (face_of numbers texts).points ≡ points_of numbers
points_kept numbers [] = refl
points_kept numbers (name ∷ words) = refl

module _ (es : List Entity) (ps : List Pair) (bs : List Brush) (fs : List Face) where
  -- symbols that fill slots are read through
  fill_run : (ns : List ℤ) (ts : List (List ℕ)) (left : List Slot) (one : Slot) (slots : List Slot) (symbols : List Symbol) (numbers : List ℤ) (texts : List (List ℕ)) → Fill (one ∷ slots) symbols numbers texts → ClosesWell ns (one ∷ slots) numbers → runs (in_face es ps bs fs ns ts (one ∷ (slots ++ left))) symbols ≡ Ok (behind es ps bs fs (ns ++ numbers) (ts ++ texts) left)
  fill_run ns ts left one [] symbols numbers texts (more {symbol = symbol} {number = number} {text = text} fills none) well =
      let spans = spans_here ns one [] (number ++ []) well in
      rw (append-nil number, append-nil text)
      (runs_one (in_face es ps bs fs ns ts (one ∷ left)) (behind es ps bs fs (ns ++ number) (ts ++ text) left) symbol
      (fill_step es ps bs fs ns ts one left symbol number text fills spans))
  fill_run ns ts left one (next ∷ slots) symbols numbers texts (more {symbol = symbol} {symbols = symbols'} {number = number} {numbers = numbers'} {text = text} {texts = texts'} fills rest) well =
      let spans = spans_here ns one (next ∷ slots) (number ++ numbers') well in
      let mid : Prefix = in_face es ps bs fs (ns ++ number) (ts ++ text) (next ∷ (slots ++ left)) in
      runs_step (in_face es ps bs fs ns ts (one ∷ (next ∷ (slots ++ left)))) mid symbol symbols'
      (fill_step es ps bs fs ns ts one (next ∷ (slots ++ left)) symbol number text fills spans)
      ∙ fill_run (ns ++ number) (ts ++ text) left next slots symbols' numbers' texts' rest (spans_behind ns number numbers' one (next ∷ slots) (number_filled fills) well)
      ∙ rw (append_assoc ns number numbers', append_assoc ts text texts') refl

  -- the first parenthesis of a face leads into it
  pub face_begins : (symbol : Symbol) → sort_of symbol ≡ sort.Mark OpenParenthesis → step (in_brush es ps bs fs) symbol ≡ Ok (in_face es ps bs fs [] [] behind_first)
  unfolding step_brush
  face_begins symbol is = step_sorted (in_brush es ps bs fs) symbol (sort.Mark OpenParenthesis) is

  -- symbols that fill slots from the first parenthesis on
  from_first : (left : List Slot) (two : Slot) (slots : List Slot) (symbols : List Symbol) (numbers : List ℤ) (texts : List (List ℕ)) → two ∷ (slots ++ left) ≡ behind_first → Fill (slot.Mark OpenParenthesis ∷ (two ∷ slots)) symbols numbers texts → ClosesWell [] (slot.Mark OpenParenthesis ∷ (two ∷ slots)) numbers → runs (in_brush es ps bs fs) symbols ≡ Ok (behind es ps bs fs numbers texts left)
  from_first left two slots symbols numbers texts is (more {symbol = symbol} {symbols = symbols'} {numbers = numbers'} {texts = texts'} (mark opens) rest) well =
      runs_step (in_brush es ps bs fs) (in_face es ps bs fs [] [] behind_first) symbol symbols' (face_begins symbol opens)
      ∙ ap (λ (l : List Slot). runs (in_face es ps bs fs [] [] l) symbols') (sym is)
      ∙ fill_run [] [] left two slots symbols' numbers' texts' rest (spans_behind [] [] numbers' (slot.Mark OpenParenthesis) (two ∷ slots) refl well)

  -- a slot is left: the face is not ended
  pub behind_open : (ns : List ℤ) (ts : List (List ℕ)) (left : List Slot) → left ≢ [] → behind es ps bs fs ns ts left ≡ in_face es ps bs fs ns ts left
  behind_open ns ts [] some = absurd (some refl)
  behind_open ns ts (next ∷ others) some = refl

  -- ---- the mapping

  mapping_run : (form : Form) (ns : List ℤ) (ts : List (List ℕ)) (left : List Slot) (one : Slot) (slots : List Slot) (symbols : List Symbol) (numbers : List ℤ) (texts : List (List ℕ)) → length ns ≤ 9 → one ∷ (slots ++ left) ≡ mapping_slots form → Fill (one ∷ slots) symbols numbers texts → runs (in_face es ps bs fs ns ts (slot.FirstOfMapping ∷ [])) symbols ≡ Ok (behind es ps bs fs (ns ++ numbers) (ts ++ texts) left)
  mapping_run form ns ts left one [] symbols numbers texts few is (more {symbol = symbol} {number = number} {text = text} fills none) =
      rw (append-nil number, append-nil text)
      (runs_one (in_face es ps bs fs ns ts (slot.FirstOfMapping ∷ [])) (behind es ps bs fs (ns ++ number) (ts ++ text) left) symbol
      (first_step es ps bs fs form ns ts one left symbol number text (sym is) fills
      ∙ ap (λ (f : Prefix). Ok f) (sym (behind_open (ns ++ number) (ts ++ text) left (mapping_goes_on form one left is)))))
  mapping_run form ns ts left one (next ∷ slots) symbols numbers texts few is (more {symbol = symbol} {symbols = symbols'} {number = number} {numbers = numbers'} {text = text} {texts = texts'} fills rest) =
      let mid : Prefix = in_face es ps bs fs (ns ++ number) (ts ++ text) (next ∷ (slots ++ left)) in
      runs_step (in_face es ps bs fs ns ts (slot.FirstOfMapping ∷ [])) mid symbol symbols'
      (first_step es ps bs fs form ns ts one (next ∷ (slots ++ left)) symbol number text (sym is) fills)
      ∙ fill_run (ns ++ number) (ts ++ text) left next slots symbols' numbers' texts' rest
      (mapping_closes_well form ns number numbers' one (next ∷ slots) left few is (number_filled fills) (numbers_filled rest))
      ∙ rw (append_assoc ns number numbers', append_assoc ts text texts') refl

  -- ---- the head

  -- three points and the texture
  head_run : (symbols : List Symbol) (numbers : List ℤ) (texts : List (List ℕ)) → Fill head_slots symbols numbers texts → GivePlane (points_of numbers) → runs (in_brush es ps bs fs) symbols ≡ Ok (in_face es ps bs fs numbers texts (slot.FirstOfMapping ∷ []))
  head_run symbols numbers texts fill spans =
      let count : length numbers ≡ 9 = numbers_filled fill in
      from_first (slot.FirstOfMapping ∷ []) slot.Coordinate (drop 2 head_slots) symbols numbers texts refl fill
      (record { spans = λ _. spans; few = omega arith })

  through_mapping : (form : Form) (one : Slot) (slots left : List Slot) (symbols : List Symbol) (numbers : List ℤ) (texts : List (List ℕ)) → one ∷ (slots ++ left) ≡ mapping_slots form → Fill (head_slots ++ one ∷ slots) symbols numbers texts → GivePlane (points_of numbers) → runs (in_brush es ps bs fs) symbols ≡ Ok (behind es ps bs fs numbers texts left)
  through_mapping form one slots left symbols numbers texts is fill spans =
      let cut : FillParts head_slots (one ∷ slots) symbols numbers texts = fill_cut head_slots (one ∷ slots) symbols numbers texts fill in
      let nine : length cut.numbers_first ≡ 9 = numbers_filled cut.first in
      let rest : length cut.numbers_then ≡ coordinates (one ∷ slots) = numbers_filled cut.rest in
      let count : coordinates (one ∷ (slots ++ left)) ≡ 0 = ap coordinates is ∙ mapping_coordinates form in
      let parts = coordinates-append slots left in
      let none_then : cut.numbers_then ≡ [] = nil_from_length cut.numbers_then (omega arith) in
      let whole : numbers ≡ cut.numbers_first = cut.numbers_are ∙ ap (λ (l : List ℤ). cut.numbers_first ++ l) none_then ∙ append-nil cut.numbers_first in
      ap (runs (in_brush es ps bs fs)) cut.symbols_are
      ∙ runs_then (in_brush es ps bs fs) (in_face es ps bs fs cut.numbers_first cut.texts_first (slot.FirstOfMapping ∷ [])) (behind es ps bs fs (cut.numbers_first ++ cut.numbers_then) (cut.texts_first ++ cut.texts_then) left) cut.symbols_first cut.symbols_then
      (head_run cut.symbols_first cut.numbers_first cut.texts_first cut.first (subst (λ (l : List ℤ). GivePlane (points_of l)) whole spans))
      (mapping_run form cut.numbers_first cut.texts_first left one slots cut.symbols_then cut.numbers_then cut.texts_then (omega arith) is cut.rest)
      ∙ ap₂ (λ (ms : List ℤ) (us : List (List ℕ)). Ok (behind es ps bs fs ms us left)) (sym cut.numbers_are) (sym cut.texts_are)

  -- a whole face
  whole_face : (form : Form) (symbols : List Symbol) (numbers : List ℤ) (texts : List (List ℕ)) → Fill (face_slots form) symbols numbers texts → GivePlane (points_of numbers) → runs (in_brush es ps bs fs) symbols ≡ Ok (in_brush es ps bs (fs ++ face_of numbers texts ∷ []))
  whole_face standard symbols numbers texts fill spans = through_mapping standard slot.Word (drop 1 (mapping_slots standard)) [] symbols numbers texts refl fill spans
  whole_face valve symbols numbers texts fill spans = through_mapping valve (slot.Mark OpenBracket) (drop 1 (mapping_slots valve)) [] symbols numbers texts refl fill spans

  pub face_run : (symbols : List Symbol) (face : Face) → SpellsFace symbols face → runs (in_brush es ps bs fs) symbols ≡ Ok (in_brush es ps bs (fs ++ face ∷ []))
  face_run symbols face spells =
      let points : face.points ≡ points_of spells.numbers = ap (λ (f : Face). f.points) spells.is_face ∙ points_kept spells.numbers spells.texts in
      whole_face spells.form symbols spells.numbers spells.texts spells.filled (subst GivePlane points spells.plane)
      ∙ ap (λ (f : Face). Ok (in_brush es ps bs (fs ++ f ∷ []))) (sym spells.is_face)

  -- ---- a face that is begun

  in_head_one : (one : Slot) (left : List Slot) (symbol : Symbol) {number : List ℤ} {text : List (List ℕ)} → Fills one symbol number text → one ∷ left ≡ head_slots ++ slot.FirstOfMapping ∷ [] → runs (in_brush es ps bs fs) (symbol ∷ []) ≡ Ok (behind es ps bs fs (number ++ []) (text ++ []) left)
  in_head_one one left symbol (mark {m = m} opens) is =
      let first : m ≡ OpenParenthesis = cc in
      let rest : left ≡ behind_first = cc in
      runs_one (in_brush es ps bs fs) (in_face es ps bs fs [] [] behind_first) symbol (face_begins symbol (opens ∙ ap (λ (k : Mark). sort.Mark k) first))
      ∙ ap (λ (l : List Slot). Ok (behind es ps bs fs [] [] l)) (sym rest)
  in_head_one one left symbol (coordinate opens spells) is = absurd cc
  in_head_one one left symbol (texture opens) is = absurd cc
  in_head_one one left symbol (quoted_texture opens) is = absurd cc
  in_head_one one left symbol (word opens) is = absurd cc

  -- the first of the slots, up to a place in the head
  in_head_run : (filled left : List Slot) (symbols : List Symbol) (numbers : List ℤ) (texts : List (List ℕ)) → Fill filled symbols numbers texts → filled ≢ [] → filled ++ left ≡ head_slots ++ slot.FirstOfMapping ∷ [] → ClosesWell [] filled numbers → runs (in_brush es ps bs fs) symbols ≡ Ok (behind es ps bs fs numbers texts left)
  in_head_run [] left symbols numbers texts fill some is well = absurd (some refl)
  in_head_run (one ∷ []) left symbols numbers texts (more {symbol = symbol} fills none) some is well = in_head_one one left symbol fills is
  in_head_run (one ∷ (two ∷ slots)) left symbols numbers texts fill some is well =
      let first : one ≡ slot.Mark OpenParenthesis = cc in
      let rest : two ∷ (slots ++ left) ≡ behind_first = cc in
      from_first left two slots symbols numbers texts rest
      (subst (λ (s : Slot). Fill (s ∷ (two ∷ slots)) symbols numbers texts) first fill)
      (subst (λ (s : Slot). ClosesWell [] (s ∷ (two ∷ slots)) numbers) first well)

  pub begun_run : (symbols : List Symbol) (numbers : List ℤ) (texts : List (List ℕ)) (left : List Slot) → IsBegunFace symbols numbers texts left → runs (in_brush es ps bs fs) symbols ≡ Ok (in_face es ps bs fs numbers texts left)
  begun_run symbols numbers texts left (in_head {filled = filled} fill some is spans) =
      in_head_run filled left symbols numbers texts fill some is (head_closes_well filled left numbers is (numbers_filled fill) spans)
      ∙ ap (λ (f : Prefix). Ok f) (behind_open numbers texts left (head_goes_on filled left symbols numbers texts fill is))
  begun_run symbols numbers texts left (in_mapping form {filled = filled} fill beyond some is spans) =
      let cut : MappingCut filled left (mapping_slots form) = mapping_cut filled left (mapping_slots form) is beyond in
      through_mapping form cut.one cut.slots left symbols numbers texts cut.rest (subst (λ (l : List Slot). Fill l symbols numbers texts) cut.joined fill) spans
      ∙ ap (λ (f : Prefix). Ok f) (behind_open numbers texts left some)
