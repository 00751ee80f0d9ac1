-- What is spelled is read through: from the grammar, and from prefixes of it, to runs of the machine.
use Rattle.std.proofs.Common.{◌≡◌, ◌≢◌, ℕ, true, false, not, ◌&&◌, ◌==◌, List, [], ◌∷◌, ◌++◌, length, IfSome, Option, Some, None, is_none, bytes_eq, Ok, refl, sym, ap, subst, ◌∙◌, ⊎_elim, append_assoc, append-nil}
use Rattle.std.proofs.lemmas.Bool.{cases_Bool, eq-eqb, ne_eqb, both_ways, and_parts, false_from_ne_true, not-true}
use Rattle.std.proofs.lemmas.List.{nil_from_length}
use Rattle.std.proofs.lemmas.List.Elements.{All-append, All-nil, All-cons, All-head}
use Rattle.qm_lists.proofs.Elements.{All-last_part}
use Rattle.qm_lists.proofs.Options.{none_from_is_none}
use Rattle.qm_mapfile.specs.declared.face.Face.{Face}
use Rattle.qm_mapfile.specs.declared.entity.Brush.{Brush}
use Rattle.qm_mapfile.specs.declared.entity.Pair.{Pair}
use Rattle.qm_mapfile.specs.declared.entity.Entity.{Entity}
use Rattle.qm_grammar.specs.declared.mark.Mark.TheVariants.{OpenBrace, CloseBrace}
use Rattle.qm_grammar.specs.declared.mark.Sort.TheVariants as sort
use Rattle.qm_grammar.specs.Symbol.{Symbol, sort_of}
use Rattle.qm_grammar.specs.Origin.{origin_key, value_of, IsOriginText, HasGoodOrigin, OriginsAreGood}
use Rattle.qm_grammar.specs.Grammar.{SpellsFaces, none, more, SpellsBrush, SpellsParts, pair, brush, SpellsEntity, SpellsEntities}
use Rattle.qm_grammar.specs.Prefix.{Prefix, between_entities, in_entity, behind_key, in_brush, in_face, IsOutside, IsInEntity, IsInBrush, IsPrefix, outside_prefix, entity_prefix, key_prefix, brush_prefix, face_prefix}
use Rattle.qm_grammar.specs.inner.Machine.{step, step_outside, step_entity, step_value, step_brush, is_bad_origin, origin_of, runs}
use Rattle.qm_grammar.proofs.Parts.{all_prefix}
use Rattle.qm_grammar.proofs.Runs.{runs_step, runs_then, runs_one}
use Rattle.qm_grammar.proofs.OriginTexts.{none_no_origin}
use Rattle.qm_grammar.proofs.FaceSteps.{step_sorted}
use Rattle.qm_grammar.proofs.FaceRuns.{face_run, begun_run}

-- ---- single steps

pub entity_opens : (es : List Entity) (symbol : Symbol) → sort_of symbol ≡ sort.Mark OpenBrace → step (between_entities es) symbol ≡ Ok (in_entity es [] [])
unfolding step_outside
entity_opens es symbol is = step_sorted (between_entities es) symbol (sort.Mark OpenBrace) is

module _ (es : List Entity) (ps : List Pair) (bs : List Brush) where
  pub brush_opens : (symbol : Symbol) → sort_of symbol ≡ sort.Mark OpenBrace → step (in_entity es ps bs) symbol ≡ Ok (in_brush es ps bs [])
  unfolding step_entity
  brush_opens symbol is = step_sorted (in_entity es ps bs) symbol (sort.Mark OpenBrace) is

  pub entity_closes : (symbol : Symbol) → sort_of symbol ≡ sort.Mark CloseBrace → step (in_entity es ps bs) symbol ≡ Ok (between_entities (es ++ (record { pairs = ps; brushes = bs }) ∷ []))
  unfolding step_entity
  entity_closes symbol is = step_sorted (in_entity es ps bs) symbol (sort.Mark CloseBrace) is

  pub key_read : (symbol : Symbol) → sort_of symbol ≡ sort.Quoted → step (in_entity es ps bs) symbol ≡ Ok (behind_key es ps bs symbol.bytes)
  unfolding step_entity
  key_read symbol is = step_sorted (in_entity es ps bs) symbol sort.Quoted is

  pub value_read : (key : List ℕ) (symbol : Symbol) → sort_of symbol ≡ sort.Quoted → is_bad_origin (behind_key es ps bs key) symbol.bytes ≡ false → step (behind_key es ps bs key) symbol ≡ Ok (in_entity es (ps ++ (record { key = key; value = symbol.bytes }) ∷ []) bs)
  unfolding step_value
  value_read key symbol is good = step_sorted (behind_key es ps bs key) symbol sort.Quoted is ∙ rw good refl

  pub brush_closes : (faces : List Face) (symbol : Symbol) → faces ≢ [] → sort_of symbol ≡ sort.Mark CloseBrace → step (in_brush es ps bs faces) symbol ≡ Ok (in_entity es ps (bs ++ (record { faces = faces }) ∷ []))
  unfolding step_brush
  brush_closes faces symbol some is =
      step_sorted (in_brush es ps bs faces) symbol (sort.Mark CloseBrace) is
      ∙ rw (ne_eqb (length faces) 0 (λ e. some (nil_from_length faces e))) refl

  -- ---- faces and brushes

  pub faces_run : (fs : List Face) (symbols : List Symbol) (faces : List Face) → SpellsFaces symbols faces → runs (in_brush es ps bs fs) symbols ≡ Ok (in_brush es ps bs (fs ++ faces))
  faces_run fs symbols faces none = ap (λ (l : List Face). Ok (in_brush es ps bs l)) (sym (append-nil fs))
  faces_run fs symbols faces (more {symbols = first} {others = others} {face = face} {faces = rest} spells spell_rest) =
      runs_then (in_brush es ps bs fs) (in_brush es ps bs (fs ++ face ∷ [])) (in_brush es ps bs ((fs ++ face ∷ []) ++ rest)) first others
      (face_run es ps bs fs first face spells)
      (faces_run (fs ++ face ∷ []) others rest spell_rest)
      ∙ ap (λ (l : List Face). Ok (in_brush es ps bs l)) (append_assoc fs (face ∷ []) rest)

  pub brush_run : (symbols : List Symbol) (one : Brush) → SpellsBrush symbols one → runs (in_entity es ps bs) symbols ≡ Ok (in_entity es ps (bs ++ one ∷ []))
  brush_run symbols one spells =
      ap (runs (in_entity es ps bs)) (spells.braced).spelled
      ∙ runs_step (in_entity es ps bs) (in_brush es ps bs []) (spells.braced).open_brace (spells.inner ++ (spells.braced).close_brace ∷ []) (brush_opens (spells.braced).open_brace (spells.braced).opens)
      ∙ runs_then (in_brush es ps bs []) (in_brush es ps bs one.faces) (in_entity es ps (bs ++ one ∷ [])) spells.inner ((spells.braced).close_brace ∷ [])
      (faces_run [] spells.inner one.faces spells.faces)
      (runs_one (in_brush es ps bs one.faces) (in_entity es ps (bs ++ one ∷ [])) (spells.braced).close_brace
      (brush_closes one.faces (spells.braced).close_brace spells.some (spells.braced).closes))

-- ---- origins

-- the rule of origins for an entity behind others
abbrev pub IsGoodBehind : List Entity → List Pair → Type 0
IsGoodBehind es pairs = es ≢ [] → HasGoodOrigin pairs

pub good_last : (es : List Entity) (last : Entity) → OriginsAreGood (es ++ last ∷ []) → IsGoodBehind es last.pairs
good_last [] last good some = absurd (some refl)
good_last (world ∷ others) last good some =
    let P : Entity → Type 0 = λ entity. HasGoodOrigin entity.pairs in
    All-head P last [] (All-last_part P others (last ∷ []) good)

good_prefix : (es others : List Entity) → OriginsAreGood (es ++ others) → OriginsAreGood es
good_prefix [] others good = tt
good_prefix (world ∷ es) others good = all_prefix (λ (entity : Entity). HasGoodOrigin entity.pairs) es others good

pub good_before : (es : List Entity) (last : Entity) → OriginsAreGood (es ++ last ∷ []) → OriginsAreGood es
good_before es last good = good_prefix es (last ∷ []) good

pub good_more : (es : List Entity) (last : Entity) → OriginsAreGood es → IsGoodBehind es last.pairs → OriginsAreGood (es ++ last ∷ [])
good_more [] last good behind = All-nil (λ (entity : Entity). HasGoodOrigin entity.pairs)
good_more (world ∷ others) last good behind =
    let P : Entity → Type 0 = λ entity. HasGoodOrigin entity.pairs in
    All-append P others (last ∷ []) good (All-cons P last [] (behind (λ none. cc)) (All-nil P))

-- the first value under a key stays the first
pub value_first : (key : List ℕ) (ps : List Pair) (one : Pair) (others : List Pair) → value_of key ps ≡ None → bytes_eq one.key key ≡ true → value_of key (ps ++ one ∷ others) ≡ Some one.value
value_first key [] one others absent same = rw same refl
value_first key (first ∷ ps) one others absent same =
    ⊎_elim
    (λ here. absurd (let never : Some first.value ≡ None = rw here at absent in cc))
    (λ other. let later : value_of key ps ≡ None = rw other at absent in rw other (value_first key ps one others later same))
    (cases_Bool (bytes_eq first.key key))

-- where the first origin gives a point, its value is read
pub good_value : (es : List Entity) (ps : List Pair) (bs : List Brush) (key value : List ℕ) (others : List Pair) → IsGoodBehind es (ps ++ (record { key = key; value = value }) ∷ others) → is_bad_origin (behind_key es ps bs key) value ≡ false
unfolding is_bad_origin
good_value es ps bs key value others good =
    false_from_ne_true (is_bad_origin (behind_key es ps bs key) value) (λ bad.
    let four = and_parts (not (length es == 0) && bytes_eq key origin_key && is_none (value_of origin_key ps)) (is_none (origin_of value)) bad in
    let three = and_parts (not (length es == 0) && bytes_eq key origin_key) (is_none (value_of origin_key ps)) four.0 in
    let two = and_parts (not (length es == 0)) (bytes_eq key origin_key) three.0 in
    let some : es ≢ [] = λ none. both_ways (length es == 0) (not-true (length es == 0) two.0) (eq-eqb (length es) 0 (ap length none)) in
    let first = value_first origin_key ps (record { key = key; value = value }) others (none_from_is_none (value_of origin_key ps) three.1) two.1 in
    let point : IsOriginText value = subst (λ (o : Option (List ℕ)). IfSome o IsOriginText) first (good some) in
    none_no_origin value four.1 point)

-- ---- parts of an entity

parts_run : (es : List Entity) (ps : List Pair) (bs : List Brush) (symbols : List Symbol) (pairs : List Pair) (brushes : List Brush) → SpellsParts symbols pairs brushes → IsGoodBehind es (ps ++ pairs) → runs (in_entity es ps bs) symbols ≡ Ok (in_entity es (ps ++ pairs) (bs ++ brushes))
parts_run es ps bs symbols pairs brushes none good = rw (append-nil ps, append-nil bs) refl
parts_run es ps bs symbols pairs brushes (pair {key = key} {value = value} {others = others} {pair = one} {pairs = rest} spells spell_rest) good =
    let made : Pair = record { key = key.bytes; value = value.bytes } in
    let good_here : IsGoodBehind es (ps ++ made ∷ rest) = subst (λ (p : Pair). IsGoodBehind es (ps ++ p ∷ rest)) spells.is_pair good in
    let good_there : IsGoodBehind es ((ps ++ made ∷ []) ++ rest) = subst (λ (l : List Pair). IsGoodBehind es l) (sym (append_assoc ps (made ∷ []) rest)) good_here in
    runs_step (in_entity es ps bs) (behind_key es ps bs key.bytes) key (value ∷ others) (key_read es ps bs key spells.key_quoted)
    ∙ runs_step (behind_key es ps bs key.bytes) (in_entity es (ps ++ made ∷ []) bs) value others
    (value_read es ps bs key.bytes value spells.value_quoted (good_value es ps bs key.bytes value.bytes rest good_here))
    ∙ parts_run es (ps ++ made ∷ []) bs others rest brushes spell_rest good_there
    ∙ ap (λ (l : List Pair). Ok (in_entity es l (bs ++ brushes))) (append_assoc ps (made ∷ []) rest ∙ ap (λ (p : Pair). ps ++ p ∷ rest) (sym spells.is_pair))
parts_run es ps bs symbols pairs brushes (brush {symbols = first} {others = others} {brush = one} {brushes = rest} spells spell_rest) good =
    runs_then (in_entity es ps bs) (in_entity es ps (bs ++ one ∷ [])) (in_entity es (ps ++ pairs) ((bs ++ one ∷ []) ++ rest)) first others
    (brush_run es ps bs first one spells)
    (parts_run es ps (bs ++ one ∷ []) others pairs rest spell_rest good)
    ∙ ap (λ (l : List Brush). Ok (in_entity es (ps ++ pairs) l)) (append_assoc bs (one ∷ []) rest)

-- ---- entities

entity_run : (es : List Entity) (symbols : List Symbol) (one : Entity) → SpellsEntity symbols one → IsGoodBehind es one.pairs → runs (between_entities es) symbols ≡ Ok (between_entities (es ++ one ∷ []))
entity_run es symbols one spells good =
    ap (runs (between_entities es)) (spells.braced).spelled
    ∙ runs_step (between_entities es) (in_entity es [] []) (spells.braced).open_brace (spells.inner ++ (spells.braced).close_brace ∷ []) (entity_opens es (spells.braced).open_brace (spells.braced).opens)
    ∙ runs_then (in_entity es [] []) (in_entity es one.pairs one.brushes) (between_entities (es ++ one ∷ [])) spells.inner ((spells.braced).close_brace ∷ [])
    (parts_run es [] [] spells.inner one.pairs one.brushes spells.parts good)
    (runs_one (in_entity es one.pairs one.brushes) (between_entities (es ++ one ∷ [])) (spells.braced).close_brace
    (entity_closes es one.pairs one.brushes (spells.braced).close_brace (spells.braced).closes))

entities_run : (es : List Entity) (symbols : List Symbol) (entities : List Entity) → SpellsEntities symbols entities → OriginsAreGood (es ++ entities) → runs (between_entities es) symbols ≡ Ok (between_entities (es ++ entities))
entities_run es symbols entities none good = ap (λ (l : List Entity). Ok (between_entities l)) (sym (append-nil es))
entities_run es symbols entities (more {symbols = first} {others = others} {entity = one} {entities = rest} spells spell_rest) good =
    let moved : OriginsAreGood ((es ++ one ∷ []) ++ rest) = subst OriginsAreGood (sym (append_assoc es (one ∷ []) rest)) good in
    let here : IsGoodBehind es one.pairs = good_last es one (good_prefix (es ++ one ∷ []) rest moved) in
    runs_then (between_entities es) (between_entities (es ++ one ∷ [])) (between_entities ((es ++ one ∷ []) ++ rest)) first others
    (entity_run es first one spells here)
    (entities_run (es ++ one ∷ []) others rest spell_rest moved)
    ∙ ap (λ (l : List Entity). Ok (between_entities l)) (append_assoc es (one ∷ []) rest)

-- ---- prefixes

outside_runs : (symbols : List Symbol) (es : List Entity) → IsOutside symbols es → runs (between_entities []) symbols ≡ Ok (between_entities es)
outside_runs symbols es is = entities_run [] symbols es is.spelled is.origins

entity_runs : (symbols : List Symbol) (es : List Entity) (ps : List Pair) (bs : List Brush) → IsInEntity symbols es ps bs → runs (between_entities []) symbols ≡ Ok (in_entity es ps bs)
entity_runs symbols es ps bs is =
    let last : Entity = record { pairs = ps; brushes = bs } in
    ap (runs (between_entities [])) is.split
    ∙ runs_then (between_entities []) (between_entities es) (in_entity es ps bs) is.before (is.open_brace ∷ is.inner)
    (entities_run [] is.before es is.spelled (good_before es last is.origins))
    (runs_step (between_entities es) (in_entity es [] []) is.open_brace is.inner (entity_opens es is.open_brace is.opens)
    ∙ parts_run es [] [] is.inner ps bs is.parts (good_last es last is.origins))

brush_runs : (symbols : List Symbol) (es : List Entity) (ps : List Pair) (bs : List Brush) (fs : List Face) → IsInBrush symbols es ps bs fs → runs (between_entities []) symbols ≡ Ok (in_brush es ps bs fs)
brush_runs symbols es ps bs fs is =
    ap (runs (between_entities [])) is.split
    ∙ runs_then (between_entities []) (in_entity es ps bs) (in_brush es ps bs fs) is.before (is.open_brace ∷ is.inner)
    (entity_runs is.before es ps bs is.entity)
    (runs_step (in_entity es ps bs) (in_brush es ps bs []) is.open_brace is.inner (brush_opens es ps bs is.open_brace is.opens)
    ∙ faces_run es ps bs [] is.inner fs is.spelled)

-- what is a prefix is read through, and gives what it has spelled
pub prefix_runs : (symbols : List Symbol) (prefix : Prefix) → IsPrefix symbols prefix → runs (between_entities []) symbols ≡ Ok prefix
prefix_runs symbols prefix (outside_prefix {entities = es} is) = outside_runs symbols es is
prefix_runs symbols prefix (entity_prefix {entities = es} {pairs = ps} {brushes = bs} is) = entity_runs symbols es ps bs is
prefix_runs symbols prefix (key_prefix {entities = es} {pairs = ps} {brushes = bs} {key = key} is) =
    ap (runs (between_entities [])) is.split
    ∙ runs_then (between_entities []) (in_entity es ps bs) (behind_key es ps bs key) is.before (is.key_symbol ∷ [])
    (entity_runs is.before es ps bs is.entity)
    (runs_one (in_entity es ps bs) (behind_key es ps bs key) is.key_symbol
    (key_read es ps bs is.key_symbol is.quoted ∙ ap (λ (k : List ℕ). Ok (behind_key es ps bs k)) (sym is.is_key)))
prefix_runs symbols prefix (brush_prefix {entities = es} {pairs = ps} {brushes = bs} {faces = fs} is) = brush_runs symbols es ps bs fs is
prefix_runs symbols prefix (face_prefix {entities = es} {pairs = ps} {brushes = bs} {faces = fs} {numbers = ns} {texts = ts} {left = left} is) =
    ap (runs (between_entities [])) is.split
    ∙ runs_then (between_entities []) (in_brush es ps bs fs) (in_face es ps bs fs ns ts left) is.before is.begun
    (brush_runs is.before es ps bs fs is.brush)
    (begun_run es ps bs fs is.begun ns ts left is.begins)
