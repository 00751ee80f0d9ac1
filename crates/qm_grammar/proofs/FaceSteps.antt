-- How one symbol of a face is read.
use Rattle.std.proofs.Common.{◌≡◌, ℕ, Bool, true, false, not, ◌&&◌, ◌==◌, ℤ, List, [], ◌∷◌, ◌++◌, length, Some, Ok, refl, sym, ap, ◌∙◌, ⊎_elim, append-nil}
use Rattle.std.proofs.lemmas.Bool.{cases_eq, eq-eqb, ne_eqb, eqb-true, and_left, and_right, and_parts, and_cases, not_from_true, not-false, not-true, both_ways}
use Rattle.qm_mapfile.specs.declared.face.Face.{Face}
use Rattle.qm_mapfile.specs.declared.entity.Brush.{Brush}
use Rattle.qm_mapfile.specs.declared.entity.Pair.{Pair}
use Rattle.qm_mapfile.specs.declared.entity.Entity.{Entity}
use Rattle.qm_mapfile.specs.Face.{GivePlane}
use Rattle.qm_grammar.specs.declared.mark.Mark.{Mark}
use Rattle.qm_grammar.specs.declared.mark.Mark.TheVariants.{OpenBrace, CloseBrace, OpenParenthesis, CloseParenthesis, OpenBracket, CloseBracket}
use Rattle.qm_grammar.specs.declared.mark.Sort.{Sort}
use Rattle.qm_grammar.specs.declared.mark.Sort.TheVariants as sort
use Rattle.qm_grammar.specs.declared.slot.Slot.{Slot}
use Rattle.qm_grammar.specs.declared.slot.Slot.TheVariants as slot
use Rattle.qm_grammar.specs.Symbol.{Symbol, sort_of, mark_of_byte}
use Rattle.qm_grammar.specs.Slots.{Form, standard, valve, mapping_slots, Fills, mark, coordinate, texture, quoted_texture, word, points_of, face_of}
use Rattle.qm_grammar.specs.Prefix.{Prefix, in_brush, in_face}
use Rattle.qm_grammar.specs.inner.Machine.{mark_byte, is_same_mark, give_plane, plane_refusal, step, step_at, step_slot, step_mark, with_left}
use Rattle.qm_grammar.proofs.Planes.{IsRefusedPlane, give_true, true_give, give_false}
use Rattle.qm_grammar.proofs.Numbers.{spelled_coordinate}

-- a step goes by the context and the symbol's sort
pub step_sorted : (prefix : Prefix) (symbol : Symbol) (s : Sort) → sort_of symbol ≡ s → step prefix symbol ≡ step_at prefix.context prefix s symbol.bytes
unfolding step
step_sorted prefix symbol s is = ap (λ (t : Sort). step_at prefix.context prefix t symbol.bytes) is

-- ---- the same mark

pub same_mark : (m : Mark) → is_same_mark m m ≡ true
same_mark OpenBrace = refl
same_mark CloseBrace = refl
same_mark OpenParenthesis = refl
same_mark CloseParenthesis = refl
same_mark OpenBracket = refl
same_mark CloseBracket = refl

mark_by_byte : (m : Mark) → mark_of_byte (mark_byte m) ≡ Some m
unfolding mark_of_byte
mark_by_byte OpenBrace = refl
mark_by_byte CloseBrace = refl
mark_by_byte OpenParenthesis = refl
mark_by_byte CloseParenthesis = refl
mark_by_byte OpenBracket = refl
mark_by_byte CloseBracket = refl

pub mark_same : (m other : Mark) → is_same_mark m other ≡ true → m ≡ other
mark_same m other tested =
    let bytes = eqb-true (mark_byte m) (mark_byte other) tested in
    let both : Some m ≡ Some other = sym (mark_by_byte m) ∙ ap mark_of_byte bytes ∙ mark_by_byte other in
    cc

-- ---- three points that are closed

-- a slot that closes the third point closes points that give a plane
abbrev pub SpansAt : Slot → List ℤ → Type 0
SpansAt one numbers = one ≡ slot.Mark CloseParenthesis → length numbers ≡ 9 → GivePlane (points_of numbers)

-- the machine's test for points that give none
abbrev pub is_flat : List ℤ → Bool
is_flat numbers = length numbers == 9 && not (give_plane (points_of numbers))

not_flat : (numbers : List ℤ) → (length numbers ≡ 9 → GivePlane (points_of numbers)) → is_flat numbers ≡ false
not_flat numbers spans =
    ⊎_elim
    (λ nine. and_right (length numbers == 9) (not (give_plane (points_of numbers))) (not_from_true (give_plane (points_of numbers)) (give_true (points_of numbers) (spans nine))))
    (λ other. and_left (length numbers == 9) (not (give_plane (points_of numbers))) (ne_eqb (length numbers) 9 other))
    (cases_eq (length numbers) 9)

pub flat_not : (numbers : List ℤ) → is_flat numbers ≡ false → length numbers ≡ 9 → GivePlane (points_of numbers)
flat_not numbers tested nine =
    ⊎_elim
    (λ other. absurd (both_ways (length numbers == 9) other (eq-eqb (length numbers) 9 nine)))
    (λ gives. true_give (points_of numbers) (not-false (give_plane (points_of numbers)) gives))
    (and_cases (length numbers == 9) (not (give_plane (points_of numbers))) tested)

pub flat_is : (numbers : List ℤ) → is_flat numbers ≡ true → (length numbers ≡ 9) × IsRefusedPlane (points_of numbers) (plane_refusal (points_of numbers))
flat_is numbers tested =
    let both = and_parts (length numbers == 9) (not (give_plane (points_of numbers))) tested in
    (eqb-true (length numbers) 9 both.0, give_false (points_of numbers) (not-true (give_plane (points_of numbers)) both.1))

-- ---- one symbol in one slot

-- behind a token of a face: in the face, or behind it where no slot is left
abbrev pub behind : List Entity → List Pair → List Brush → List Face → List ℤ → List (List ℕ) → List Slot → Prefix
behind es ps bs fs ns ts [] = in_brush es ps bs (fs ++ face_of ns ts ∷ [])
behind es ps bs fs ns ts (next ∷ others) = in_face es ps bs fs ns ts (next ∷ others)

module _ (es : List Entity) (ps : List Pair) (bs : List Brush) (fs : List Face) where
  pub left_behind : (ns : List ℤ) (ts : List (List ℕ)) (left others : List Slot) → with_left (in_face es ps bs fs ns ts left) others ≡ behind es ps bs fs ns ts others
  left_behind ns ts left [] = refl
  left_behind ns ts left (next ∷ others) = refl

  mark_stepped : (ns : List ℤ) (ts : List (List ℕ)) (m : Mark) (left others : List Slot) → SpansAt (slot.Mark m) ns → step_mark (in_face es ps bs fs ns ts left) m others ≡ Ok (behind es ps bs fs ns ts others)
  unfolding step_mark
  mark_stepped ns ts CloseParenthesis left others spans = rw (not_flat ns (spans refl)) (ap (λ (f : Prefix). Ok f) (left_behind ns ts left others))
  mark_stepped ns ts OpenBrace left others spans = ap (λ (f : Prefix). Ok f) (left_behind ns ts left others)
  mark_stepped ns ts CloseBrace left others spans = ap (λ (f : Prefix). Ok f) (left_behind ns ts left others)
  mark_stepped ns ts OpenParenthesis left others spans = ap (λ (f : Prefix). Ok f) (left_behind ns ts left others)
  mark_stepped ns ts OpenBracket left others spans = ap (λ (f : Prefix). Ok f) (left_behind ns ts left others)
  mark_stepped ns ts CloseBracket left others spans = ap (λ (f : Prefix). Ok f) (left_behind ns ts left others)

  -- a symbol that fills the slot is read
  pub fill_step : (ns : List ℤ) (ts : List (List ℕ)) (one : Slot) (others : List Slot) (symbol : Symbol) (number : List ℤ) (text : List (List ℕ)) → Fills one symbol number text → SpansAt one ns → step (in_face es ps bs fs ns ts (one ∷ others)) symbol ≡ Ok (behind es ps bs fs (ns ++ number) (ts ++ text) others)
  unfolding step_slot
  fill_step ns ts (slot.Mark m) others symbol number text (mark is) spans =
      step_sorted (in_face es ps bs fs ns ts (slot.Mark m ∷ others)) symbol (sort.Mark m) is
      ∙ rw (same_mark m, append-nil ns, append-nil ts) (mark_stepped ns ts m (slot.Mark m ∷ others) others spans)
  fill_step ns ts one others symbol number text (coordinate {number = c} is spells) spans =
      step_sorted (in_face es ps bs fs ns ts (slot.Coordinate ∷ others)) symbol sort.Name is
      ∙ rw (spelled_coordinate symbol.bytes c spells, append-nil ts) (ap (λ (f : Prefix). Ok f) (left_behind (ns ++ c ∷ []) ts (slot.Coordinate ∷ others) others))
  fill_step ns ts one others symbol number text (texture is) spans =
      step_sorted (in_face es ps bs fs ns ts (slot.Texture ∷ others)) symbol sort.Name is
      ∙ rw (append-nil ns) (ap (λ (f : Prefix). Ok f) (left_behind ns (ts ++ symbol.bytes ∷ []) (slot.Texture ∷ others) others))
  fill_step ns ts one others symbol number text (quoted_texture is) spans =
      step_sorted (in_face es ps bs fs ns ts (slot.Texture ∷ others)) symbol sort.Quoted is
      ∙ rw (append-nil ns) (ap (λ (f : Prefix). Ok f) (left_behind ns (ts ++ symbol.bytes ∷ []) (slot.Texture ∷ others) others))
  fill_step ns ts one others symbol number text (word is) spans =
      step_sorted (in_face es ps bs fs ns ts (slot.Word ∷ others)) symbol sort.Name is
      ∙ rw (append-nil ns) (ap (λ (f : Prefix). Ok f) (left_behind ns (ts ++ symbol.bytes ∷ []) (slot.Word ∷ others) others))

  -- the first symbol of a mapping tells its form
  pub first_step : (form : Form) (ns : List ℤ) (ts : List (List ℕ)) (one : Slot) (others : List Slot) (symbol : Symbol) (number : List ℤ) (text : List (List ℕ)) → mapping_slots form ≡ one ∷ others → Fills one symbol number text → step (in_face es ps bs fs ns ts (slot.FirstOfMapping ∷ [])) symbol ≡ Ok (in_face es ps bs fs (ns ++ number) (ts ++ text) others)
  unfolding step_slot
  first_step standard ns ts one others symbol number text form (word is) =
      step_sorted (in_face es ps bs fs ns ts (slot.FirstOfMapping ∷ [])) symbol sort.Name is
      ∙ rw (append-nil ns) (ap (λ (l : List Slot). Ok (in_face es ps bs fs ns (ts ++ symbol.bytes ∷ []) l)) cc)
  first_step standard ns ts one others symbol number text form (mark is) = absurd cc
  first_step standard ns ts one others symbol number text form (coordinate is spells) = absurd cc
  first_step standard ns ts one others symbol number text form (texture is) = absurd cc
  first_step standard ns ts one others symbol number text form (quoted_texture is) = absurd cc
  first_step valve ns ts one others symbol number text form (mark {m = m} is) =
      let bracket : OpenBracket ≡ m = cc in
      step_sorted (in_face es ps bs fs ns ts (slot.FirstOfMapping ∷ [])) symbol (sort.Mark OpenBracket) (is ∙ ap (λ (k : Mark). sort.Mark k) (sym bracket))
      ∙ rw (append-nil ns, append-nil ts) (ap (λ (l : List Slot). Ok (in_face es ps bs fs ns ts l)) cc)
  first_step valve ns ts one others symbol number text form (word is) = absurd cc
  first_step valve ns ts one others symbol number text form (coordinate is spells) = absurd cc
  first_step valve ns ts one others symbol number text form (texture is) = absurd cc
  first_step valve ns ts one others symbol number text form (quoted_texture is) = absurd cc
