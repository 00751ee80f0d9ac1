-- The lines of brushes and entities spell these brushes and entities.
use Rattle.std.proofs.Common.{◌≡◌, List, [], ◌∷◌, ◌++◌, lit<, refl, sym, ap, subst, ◌∙◌, append_assoc, arith, flat_map, map}
use Rattle.std.specs.Prelude.{All}
use Rattle.std.specs.List.{AllByRecursion}
use Rattle.std.proofs.lemmas.List.Concat.{flat_map-cons}
use Rattle.std.proofs.lemmas.List.Elements.{All-head, All-tail}
use Rattle.std.proofs.lemmas.Grind.{flat_map-append}
use Rattle.qm_mapfile.specs.declared.face.Face.{Face}
use Rattle.qm_mapfile.specs.declared.entity.Brush.{Brush}
use Rattle.qm_mapfile.specs.declared.entity.Pair.{Pair}
use Rattle.qm_mapfile.specs.declared.entity.Entity.{Entity}
use Rattle.qm_grammar.specs.declared.mark.Mark.TheVariants.{OpenBrace, CloseBrace}
use Rattle.qm_grammar.specs.declared.mark.Sort.TheVariants as sort
use Rattle.qm_grammar.specs.Symbol.{Symbol, mark_of_byte, sort_of}
use Rattle.qm_grammar.specs.Grammar.{SpellsFaces, SpellsBrush, SpellsParts, SpellsEntity, SpellsEntities, IsBraced}
use Rattle.qm_grammar.specs.Grammar as grammar
use Rattle.qm_grammar.specs.Valid.{IsValidFace, IsValidBrush, IsValidPair, IsValidEntity}
use Rattle.qm_lists.proofs.Elements.{AllByRecursion-append}
use Rattle.qm_grammar.specs.Lines.{TokenLine, symbols_of_line, symbols_of}
use Rattle.qm_grammar.specs.Printed.{open_brace, close_brace, brace_line, pair_line, face_line, brush_lines, entity_lines}
use Rattle.qm_mapout.proofs.LinesLexed.{IsWritableLine}
use Rattle.qm_mapout.proofs.FacesAgain.{face_again, quotable, quoted_sort, mark_can_stand}

symbols-cons : (line : TokenLine) (lines : List TokenLine) → symbols_of (line ∷ lines) ≡ symbols_of_line line ++ symbols_of lines
symbols-cons line lines = flat_map-cons symbols_of_line line lines

symbols-append : (xs ys : List TokenLine) → symbols_of (xs ++ ys) ≡ symbols_of xs ++ symbols_of ys
symbols-append xs ys = flat_map-append symbols_of_line xs ys

faces_spelled : (faces : List Face) → All IsValidFace faces → SpellsFaces (symbols_of (map face_line faces)) faces
faces_spelled [] valid = grammar.SpellsFaces.none
faces_spelled (face ∷ faces) valid =
    let P : List Symbol → Type 0 = λ ss. SpellsFaces ss (face ∷ faces) in
    subst P (sym (symbols-cons (face_line face) (map face_line faces)))
    (grammar.SpellsFaces.more (face_again face (All-head IsValidFace face faces valid)).spelled (faces_spelled faces (All-tail IsValidFace face faces valid)))

faces_writable : (faces : List Face) → All IsValidFace faces → AllByRecursion IsWritableLine (map face_line faces)
faces_writable [] valid = tt
faces_writable (face ∷ faces) valid =
    ((face_again face (All-head IsValidFace face faces valid)).writable, faces_writable faces (All-tail IsValidFace face faces valid))

open_sort : sort_of open_brace ≡ sort.Mark OpenBrace
unfolding sort_of mark_of_byte
open_sort = refl

close_sort : sort_of close_brace ≡ sort.Mark CloseBrace
unfolding sort_of mark_of_byte
close_sort = refl

-- lines between braces
braced_lines : List TokenLine → List TokenLine
braced_lines lines = brace_line open_brace ∷ (lines ++ brace_line close_brace ∷ [])

braced_symbols : (lines : List TokenLine) → symbols_of (braced_lines lines) ≡ open_brace ∷ (symbols_of lines ++ close_brace ∷ [])
unfolding braced_lines
braced_symbols lines =
    symbols-cons (brace_line open_brace) (lines ++ brace_line close_brace ∷ [])
    ∙ ap (λ ss. open_brace ∷ ss) (symbols-append lines (brace_line close_brace ∷ []))

is_braced : (lines : List TokenLine) → IsBraced (symbols_of (braced_lines lines)) (symbols_of lines)
is_braced lines = record {
  open_brace = open_brace;
  close_brace = close_brace;
  opens = open_sort;
  closes = close_sort;
  spelled = braced_symbols lines;
}

brace_writable : IsWritableLine (brace_line open_brace) × IsWritableLine (brace_line close_brace)
brace_writable = ((mark_can_stand 123 (lit< tt) (λ e. omega (arith, e)), tt), (mark_can_stand 125 (lit< tt) (λ e. omega (arith, e)), tt))

braced_writable : (lines : List TokenLine) → AllByRecursion IsWritableLine lines → AllByRecursion IsWritableLine (braced_lines lines)
unfolding braced_lines
braced_writable lines all =
    (brace_writable.0, AllByRecursion-append IsWritableLine lines (brace_line close_brace ∷ []) all (brace_writable.1, tt))

brush_spelled : (brush : Brush) → IsValidBrush brush → SpellsBrush (symbols_of (brush_lines brush)) brush
unfolding brush_lines braced_lines
brush_spelled brush valid = record {
  inner = symbols_of (map face_line brush.faces);
  braced = is_braced (map face_line brush.faces);
  faces = faces_spelled brush.faces valid.faces;
  some = valid.some;
}

brush_writable : (brush : Brush) → IsValidBrush brush → AllByRecursion IsWritableLine (brush_lines brush)
unfolding brush_lines braced_lines
brush_writable brush valid = braced_writable (map face_line brush.faces) (faces_writable brush.faces valid.faces)

brushes_spelled : (brushes : List Brush) → All IsValidBrush brushes → SpellsParts (symbols_of (flat_map brush_lines brushes)) [] brushes
brushes_spelled [] valid = grammar.SpellsParts.none
brushes_spelled (brush ∷ brushes) valid =
    let P : List Symbol → Type 0 = λ ss. SpellsParts ss [] (brush ∷ brushes) in
    subst P (sym (ap symbols_of (flat_map-cons brush_lines brush brushes) ∙ symbols-append (brush_lines brush) (flat_map brush_lines brushes)))
    (grammar.SpellsParts.brush (brush_spelled brush (All-head IsValidBrush brush brushes valid)) (brushes_spelled brushes (All-tail IsValidBrush brush brushes valid)))

brushes_writable : (brushes : List Brush) → All IsValidBrush brushes → AllByRecursion IsWritableLine (flat_map brush_lines brushes)
brushes_writable [] valid = tt
brushes_writable (brush ∷ brushes) valid =
    let P : List TokenLine → Type 0 = AllByRecursion IsWritableLine in
    subst P (sym (flat_map-cons brush_lines brush brushes))
    (AllByRecursion-append IsWritableLine (brush_lines brush) (flat_map brush_lines brushes)
    (brush_writable brush (All-head IsValidBrush brush brushes valid)) (brushes_writable brushes (All-tail IsValidBrush brush brushes valid)))

parts_spelled : (pairs : List Pair) (brushes : List Brush) → All IsValidBrush brushes →
    SpellsParts (symbols_of (map pair_line pairs ++ flat_map brush_lines brushes)) pairs brushes
unfolding pair_line
parts_spelled [] brushes valid = brushes_spelled brushes valid
parts_spelled (pair ∷ pairs) brushes valid =
    let P : List Symbol → Type 0 = λ ss. SpellsParts ss (pair ∷ pairs) brushes in
    subst P (sym (symbols-cons (pair_line pair) (map pair_line pairs ++ flat_map brush_lines brushes)))
    (grammar.SpellsParts.pair (record { key_quoted = quoted_sort pair.key; value_quoted = quoted_sort pair.value; is_pair = refl })
    (parts_spelled pairs brushes valid))

pairs_writable : (pairs : List Pair) → All IsValidPair pairs → AllByRecursion IsWritableLine (map pair_line pairs)
unfolding pair_line
pairs_writable [] valid = tt
pairs_writable (pair ∷ pairs) valid =
    let head = All-head IsValidPair pair pairs valid in
    ((quotable pair.key head.key, (quotable pair.value head.value, tt)), pairs_writable pairs (All-tail IsValidPair pair pairs valid))

entity_as_braced : (entity : Entity) → entity_lines entity ≡ braced_lines (map pair_line entity.pairs ++ flat_map brush_lines entity.brushes)
unfolding entity_lines braced_lines
entity_as_braced entity =
    ap (λ lines. brace_line open_brace ∷ lines)
    (sym (append_assoc (map pair_line entity.pairs) (flat_map brush_lines entity.brushes) (brace_line close_brace ∷ [])))

entity_spelled : (entity : Entity) → IsValidEntity entity → SpellsEntity (symbols_of (entity_lines entity)) entity
entity_spelled entity valid =
    let lines : List TokenLine = map pair_line entity.pairs ++ flat_map brush_lines entity.brushes in
    let P : List TokenLine → Type 0 = λ ls. SpellsEntity (symbols_of ls) entity in
    subst P (sym (entity_as_braced entity)) (record {
      inner = symbols_of lines;
      braced = is_braced lines;
      parts = parts_spelled entity.pairs entity.brushes valid.brushes;
    })

entity_writable : (entity : Entity) → IsValidEntity entity → AllByRecursion IsWritableLine (entity_lines entity)
entity_writable entity valid =
    let lines : List TokenLine = map pair_line entity.pairs ++ flat_map brush_lines entity.brushes in
    let P : List TokenLine → Type 0 = AllByRecursion IsWritableLine in
    subst P (sym (entity_as_braced entity))
    (braced_writable lines (AllByRecursion-append IsWritableLine (map pair_line entity.pairs) (flat_map brush_lines entity.brushes)
    (pairs_writable entity.pairs valid.pairs) (brushes_writable entity.brushes valid.brushes)))

pub entities_spelled : (entities : List Entity) → All IsValidEntity entities → SpellsEntities (symbols_of (flat_map entity_lines entities)) entities
entities_spelled [] valid = grammar.SpellsEntities.none
entities_spelled (entity ∷ entities) valid =
    let P : List Symbol → Type 0 = λ ss. SpellsEntities ss (entity ∷ entities) in
    subst P (sym (ap symbols_of (flat_map-cons entity_lines entity entities) ∙ symbols-append (entity_lines entity) (flat_map entity_lines entities)))
    (grammar.SpellsEntities.more (entity_spelled entity (All-head IsValidEntity entity entities valid))
    (entities_spelled entities (All-tail IsValidEntity entity entities valid)))

pub entities_writable : (entities : List Entity) → All IsValidEntity entities → AllByRecursion IsWritableLine (flat_map entity_lines entities)
entities_writable [] valid = tt
entities_writable (entity ∷ entities) valid =
    let P : List TokenLine → Type 0 = AllByRecursion IsWritableLine in
    subst P (sym (flat_map-cons entity_lines entity entities))
    (AllByRecursion-append IsWritableLine (entity_lines entity) (flat_map entity_lines entities)
    (entity_writable entity (All-head IsValidEntity entity entities valid)) (entities_writable entities (All-tail IsValidEntity entity entities valid)))
