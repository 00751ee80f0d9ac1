-- What is read is a prefix of the grammar: each symbol leads from one prefix to the next.
use Rattle.std.proofs.Common.{◌≡◌, ◌≢◌, ℕ, Bool, true, false, not, ◌&&◌, ◌==◌, ℤ, List, [], ◌∷◌, ◌++◌, length, IfSome, Option, Some, None, is_none, bytes_eq, Result, Ok, Err, refl, sym, ap, subst, ◌∙◌, ⊎_elim, append_assoc, append-nil, arith}
use Rattle.std.proofs.lemmas.Bool.{cases_Bool, eq-eqb, ne_eqb, both_ways, and_from, and_cases, not_from_false}
use Rattle.std.proofs.lemmas.List.{nil_from_length}
use Rattle.qm_lists.proofs.Cases.{by_option, by_result}
use Rattle.qm_mapfile.specs.declared.face.Face.{Face}
use Rattle.qm_mapfile.specs.declared.entity.Brush.{Brush}
use Rattle.qm_mapfile.specs.declared.entity.Pair.{Pair}
use Rattle.qm_mapfile.specs.declared.entity.Entity.{Entity}
use Rattle.qm_grammar.specs.declared.mark.Mark.TheVariants.{OpenBrace, CloseBrace, OpenParenthesis}
use Rattle.qm_grammar.specs.declared.mark.Sort.{Sort}
use Rattle.qm_grammar.specs.declared.mark.Sort.TheVariants as sort
use Rattle.qm_grammar.specs.declared.slot.Slot.{Slot}
use Rattle.qm_grammar.specs.declared.slot.Slot.TheVariants as slot
use Rattle.qm_grammar.specs.declared.refusal.Refusal.{Refusal}
use Rattle.qm_grammar.specs.declared.refusal.Refusal.TheVariants as refusal
use Rattle.qm_grammar.specs.Symbol.{Symbol, sort_of}
use Rattle.qm_grammar.specs.Slots.{mark, none, more}
use Rattle.qm_grammar.specs.Origin.{origin_key, value_of, IsOriginText}
use Rattle.qm_grammar.specs.Grammar.{SpellsBrush, SpellsEntity, SpellsEntities}
use Rattle.qm_grammar.specs.Prefix.{Prefix, between_entities, in_entity, behind_key, in_brush, in_face, IsOutside, IsInEntity, IsInBrush, IsInFace, IsBehindKey, IsPrefix, outside_prefix, entity_prefix, key_prefix, brush_prefix, face_prefix, in_head}
use Rattle.qm_grammar.specs.inner.Machine.{step, step_at, step_outside, step_entity, step_value, step_brush, is_bad_origin, origin_of, runs, behind_first}
use Rattle.qm_grammar.proofs.Runs.{runs_step, runs_refused, not_both}
use Rattle.qm_grammar.proofs.OriginTexts.{some_origin}
use Rattle.qm_grammar.proofs.FaceSteps.{step_sorted}
use Rattle.qm_grammar.proofs.Pushes.{no_faces_spelled, no_parts_spelled, no_entities_spelled, faces_push, pair_push, brush_push, entities_push}
use Rattle.qm_grammar.proofs.FaceReads.{IsFaceNext, goes_on, ends, begun_next}
use Rattle.qm_grammar.proofs.PrefixRuns.{IsGoodBehind, good_last, good_before, good_more}

-- ---- origins

-- a value that is found stays the first
value_kept : (key : List ℕ) (ps others : List Pair) (value : List ℕ) → value_of key ps ≡ Some value → value_of key (ps ++ others) ≡ Some value
value_kept key [] others value found = absurd cc
value_kept key (first ∷ ps) others value found =
    ⊎_elim
    (λ here. rw here (rw here at found))
    (λ other. rw other (value_kept key ps others value (rw other at found)))
    (cases_Bool (bytes_eq first.key key))

-- where none is found, the next pair is the first
value_next : (key : List ℕ) (ps others : List Pair) → value_of key ps ≡ None → value_of key (ps ++ others) ≡ value_of key others
value_next key [] others absent = refl
value_next key (first ∷ ps) others absent =
    ⊎_elim
    (λ here. absurd (let never : Some first.value ≡ None = rw here at absent in cc))
    (λ other. rw other (value_next key ps others (rw other at absent)))
    (cases_Bool (bytes_eq first.key key))

-- a value that is read under the key `origin`, as the first of an entity that is not the first, gives a point
read_is_point : (es : List Entity) (ps : List Pair) (bs : List Brush) (key value : List ℕ) → is_bad_origin (behind_key es ps bs key) value ≡ false → es ≢ [] → bytes_eq key origin_key ≡ true → value_of origin_key ps ≡ None → IsOriginText value
unfolding is_bad_origin
read_is_point es ps bs key value good some same absent =
    some_origin value (⊎_elim
    (λ before. absurd (both_ways (not (length es == 0) && bytes_eq key origin_key && is_none (value_of origin_key ps)) before
    (and_from (not (length es == 0) && bytes_eq key origin_key) (is_none (value_of origin_key ps))
    (and_from (not (length es == 0)) (bytes_eq key origin_key)
    (not_from_false (length es == 0) (ne_eqb (length es) 0 (λ e. some (nil_from_length es e)))) same)
    (ap is_none absent))))
    (λ found. found)
    (and_cases (not (length es == 0) && bytes_eq key origin_key && is_none (value_of origin_key ps)) (is_none (origin_of value)) good))

good_pushed : (es : List Entity) (ps : List Pair) (bs : List Brush) (key value : List ℕ) → is_bad_origin (behind_key es ps bs key) value ≡ false → IsGoodBehind es ps → IsGoodBehind es (ps ++ (record { key = key; value = value }) ∷ [])
good_pushed es ps bs key value good before some =
    let one : Pair = record { key = key; value = value } in
    by_option (value_of origin_key ps)
    (λ absent. subst (λ (o : Option (List ℕ)). IfSome o IsOriginText) (sym (value_next origin_key ps (one ∷ []) absent))
    (⊎_elim
    (λ same. rw same (read_is_point es ps bs key value good some same absent))
    (λ other. rw other tt)
    (cases_Bool (bytes_eq key origin_key))))
    (λ found is.
    let point : IsOriginText found = subst (λ (o : Option (List ℕ)). IfSome o IsOriginText) is (before some) in
    subst (λ (o : Option (List ℕ)). IfSome o IsOriginText) (sym (value_kept origin_key ps (one ∷ []) found is)) point)

-- ---- one more symbol in each context

-- the prefix behind a symbol is the one that was read
next_is : (symbols : List Symbol) (prefix next : Prefix) → ◌≡◌ {A = Result Prefix Refusal} (Ok prefix) (Ok next) → IsPrefix symbols prefix → IsPrefix symbols next
next_is symbols prefix next same is = let e : prefix ≡ next = cc in subst (IsPrefix symbols) e is

-- between a prefix's parts, and behind the symbols
reassoc : (before inner : List Symbol) (opens symbol : Symbol) → (before ++ opens ∷ inner) ++ symbol ∷ [] ≡ before ++ opens ∷ (inner ++ symbol ∷ [])
reassoc before inner opens symbol = append_assoc before (opens ∷ inner) (symbol ∷ [])

outside_next : (symbols : List Symbol) (es : List Entity) (symbol : Symbol) (next : Prefix) (s : Sort) → sort_of symbol ≡ s → IsOutside symbols es → step_at (between_entities es).context (between_entities es) s symbol.bytes ≡ Ok next → IsPrefix (symbols ++ symbol ∷ []) next
unfolding step_outside
outside_next symbols es symbol next (sort.Mark OpenBrace) opens is read =
    next_is (symbols ++ symbol ∷ []) (in_entity es [] []) next read
    (entity_prefix (record {
      before = symbols;
      open_brace = symbol;
      inner = [];
      split = refl;
      spelled = is.spelled;
      opens = opens;
      parts = no_parts_spelled;
      origins = good_more es (record { pairs = []; brushes = [] }) is.origins (λ some. tt);
    }))
outside_next symbols es symbol next s opens is read = absurd cc

-- the entity that a closing brace ends
closed_entity : (symbols : List Symbol) (es : List Entity) (ps : List Pair) (bs : List Brush) (symbol : Symbol) → sort_of symbol ≡ sort.Mark CloseBrace → IsInEntity symbols es ps bs → IsOutside (symbols ++ symbol ∷ []) (es ++ (record { pairs = ps; brushes = bs }) ∷ [])
closed_entity symbols es ps bs symbol closes is =
    let last : Entity = record { pairs = ps; brushes = bs } in
    let joined : symbols ++ symbol ∷ [] ≡ is.before ++ is.open_brace ∷ (is.inner ++ symbol ∷ []) = ap (λ (l : List Symbol). l ++ symbol ∷ []) is.split ∙ reassoc is.before is.inner is.open_brace symbol in
    let one : SpellsEntity (is.open_brace ∷ (is.inner ++ symbol ∷ [])) last = record {
      inner = is.inner;
      braced = record { open_brace = is.open_brace; close_brace = symbol; opens = is.opens; closes = closes; spelled = refl };
      parts = is.parts;
    } in
    record { spelled = subst (λ (l : List Symbol). SpellsEntities l (es ++ last ∷ [])) (sym joined) (entities_push is.spelled one); origins = is.origins }

entity_next : (symbols : List Symbol) (es : List Entity) (ps : List Pair) (bs : List Brush) (symbol : Symbol) (next : Prefix) (s : Sort) → sort_of symbol ≡ s → IsInEntity symbols es ps bs → step_at (in_entity es ps bs).context (in_entity es ps bs) s symbol.bytes ≡ Ok next → IsPrefix (symbols ++ symbol ∷ []) next
unfolding step_entity
entity_next symbols es ps bs symbol next sort.Quoted sorted is read =
    next_is (symbols ++ symbol ∷ []) (behind_key es ps bs symbol.bytes) next read
    (key_prefix (record { before = symbols; key_symbol = symbol; split = refl; entity = is; quoted = sorted; is_key = refl }))
entity_next symbols es ps bs symbol next (sort.Mark OpenBrace) sorted is read =
    next_is (symbols ++ symbol ∷ []) (in_brush es ps bs []) next read
    (brush_prefix (record { before = symbols; open_brace = symbol; inner = []; split = refl; entity = is; opens = sorted; spelled = no_faces_spelled }))
entity_next symbols es ps bs symbol next (sort.Mark CloseBrace) sorted is read =
    next_is (symbols ++ symbol ∷ []) (between_entities (es ++ (record { pairs = ps; brushes = bs }) ∷ [])) next read
    (outside_prefix (closed_entity symbols es ps bs symbol sorted is))
entity_next symbols es ps bs symbol next s sorted is read = absurd cc

-- an entity with one more pair
paired_entity : (symbols : List Symbol) (es : List Entity) (ps : List Pair) (bs : List Brush) (key : List ℕ) (symbol : Symbol) → sort_of symbol ≡ sort.Quoted → IsBehindKey symbols es ps bs key → is_bad_origin (behind_key es ps bs key) symbol.bytes ≡ false → IsInEntity (symbols ++ symbol ∷ []) es (ps ++ (record { key = key; value = symbol.bytes }) ∷ []) bs
paired_entity symbols es ps bs key symbol quoted is good =
    let entity = is.entity in
    let one : Pair = record { key = key; value = symbol.bytes } in
    let inner : List Symbol = entity.inner ++ is.key_symbol ∷ (symbol ∷ []) in
    let last : Entity = record { pairs = ps; brushes = bs } in
    record {
      before = entity.before;
      open_brace = entity.open_brace;
      inner = inner;
      split = ap (λ (l : List Symbol). l ++ symbol ∷ []) is.split
          ∙ append_assoc is.before (is.key_symbol ∷ []) (symbol ∷ [])
          ∙ ap (λ (l : List Symbol). l ++ is.key_symbol ∷ (symbol ∷ [])) entity.split
          ∙ append_assoc entity.before (entity.open_brace ∷ entity.inner) (is.key_symbol ∷ (symbol ∷ []));
      spelled = entity.spelled;
      opens = entity.opens;
      parts = pair_push entity.parts (record { key_quoted = is.quoted; value_quoted = quoted; is_pair = ap (λ (k : List ℕ). record { key = k; value = symbol.bytes }) is.is_key });
      origins = good_more es (record { pairs = ps ++ one ∷ []; brushes = bs }) (good_before es last entity.origins)
          (good_pushed es ps bs key symbol.bytes good (good_last es last entity.origins));
    }

value_next_by : (symbols : List Symbol) (es : List Entity) (ps : List Pair) (bs : List Brush) (key : List ℕ) (symbol : Symbol) (next : Prefix) → sort_of symbol ≡ sort.Quoted → IsBehindKey symbols es ps bs key → (t : Bool) → is_bad_origin (behind_key es ps bs key) symbol.bytes ≡ t → step_value (behind_key es ps bs key) sort.Quoted symbol.bytes ≡ Ok next → IsPrefix (symbols ++ symbol ∷ []) next
unfolding step_value
value_next_by symbols es ps bs key symbol next sorted is true bad read = absurd (let never : Err refusal.BadOrigin ≡ Ok next = rw bad at read in cc)
value_next_by symbols es ps bs key symbol next sorted is false good read =
    next_is (symbols ++ symbol ∷ []) (in_entity es (ps ++ (record { key = key; value = symbol.bytes }) ∷ []) bs) next (rw good at read)
    (entity_prefix (paired_entity symbols es ps bs key symbol sorted is good))

key_next : (symbols : List Symbol) (es : List Entity) (ps : List Pair) (bs : List Brush) (key : List ℕ) (symbol : Symbol) (next : Prefix) (s : Sort) → sort_of symbol ≡ s → IsBehindKey symbols es ps bs key → step_at (behind_key es ps bs key).context (behind_key es ps bs key) s symbol.bytes ≡ Ok next → IsPrefix (symbols ++ symbol ∷ []) next
unfolding step_value
key_next symbols es ps bs key symbol next sort.Quoted sorted is read =
    value_next_by symbols es ps bs key symbol next sorted is (is_bad_origin (behind_key es ps bs key) symbol.bytes) refl read
key_next symbols es ps bs key symbol next s sorted is read = absurd cc

-- an entity with one more brush
brushed_entity : (symbols : List Symbol) (es : List Entity) (ps : List Pair) (bs : List Brush) (fs : List Face) (symbol : Symbol) → sort_of symbol ≡ sort.Mark CloseBrace → fs ≢ [] → IsInBrush symbols es ps bs fs → IsInEntity (symbols ++ symbol ∷ []) es ps (bs ++ (record { faces = fs }) ∷ [])
brushed_entity symbols es ps bs fs symbol closes some is =
    let entity = is.entity in
    let made : Brush = record { faces = fs } in
    let tokens : List Symbol = is.open_brace ∷ (is.inner ++ symbol ∷ []) in
    let one : SpellsBrush tokens made = record {
      inner = is.inner;
      braced = record { open_brace = is.open_brace; close_brace = symbol; opens = is.opens; closes = closes; spelled = refl };
      faces = is.spelled;
      some = some;
    } in
    let last : Entity = record { pairs = ps; brushes = bs } in
    record {
      before = entity.before;
      open_brace = entity.open_brace;
      inner = entity.inner ++ tokens;
      split = ap (λ (l : List Symbol). l ++ symbol ∷ []) is.split
          ∙ reassoc is.before is.inner is.open_brace symbol
          ∙ ap (λ (l : List Symbol). l ++ tokens) entity.split
          ∙ append_assoc entity.before (entity.open_brace ∷ entity.inner) tokens;
      spelled = entity.spelled;
      opens = entity.opens;
      parts = brush_push entity.parts one;
      origins = good_more es (record { pairs = ps; brushes = bs ++ made ∷ [] }) (good_before es last entity.origins) (good_last es last entity.origins);
    }

brush_closed : (symbols : List Symbol) (es : List Entity) (ps : List Pair) (bs : List Brush) (fs : List Face) (symbol : Symbol) (next : Prefix) → sort_of symbol ≡ sort.Mark CloseBrace → IsInBrush symbols es ps bs fs → (t : Bool) → (length fs == 0) ≡ t → step_brush (in_brush es ps bs fs) (sort.Mark CloseBrace) ≡ Ok next → IsPrefix (symbols ++ symbol ∷ []) next
unfolding step_brush
brush_closed symbols es ps bs fs symbol next sorted is true empty read = absurd (let never : Err refusal.NoFaces ≡ Ok next = rw empty at read in cc)
brush_closed symbols es ps bs fs symbol next sorted is false some read =
    next_is (symbols ++ symbol ∷ []) (in_entity es ps (bs ++ (record { faces = fs }) ∷ [])) next (rw some at read)
    (entity_prefix (brushed_entity symbols es ps bs fs symbol sorted (λ none_yet. both_ways (length fs == 0) some (eq-eqb (length fs) 0 (ap length none_yet))) is))

brush_next : (symbols : List Symbol) (es : List Entity) (ps : List Pair) (bs : List Brush) (fs : List Face) (symbol : Symbol) (next : Prefix) (s : Sort) → sort_of symbol ≡ s → IsInBrush symbols es ps bs fs → step_at (in_brush es ps bs fs).context (in_brush es ps bs fs) s symbol.bytes ≡ Ok next → IsPrefix (symbols ++ symbol ∷ []) next
unfolding step_brush
brush_next symbols es ps bs fs symbol next (sort.Mark OpenParenthesis) sorted is read =
    next_is (symbols ++ symbol ∷ []) (in_face es ps bs fs [] [] behind_first) next read
    (face_prefix (record {
      before = symbols;
      begun = symbol ∷ [];
      split = refl;
      brush = is;
      begins = in_head {filled = slot.Mark OpenParenthesis ∷ []} (more (mark sorted) none) (λ never. absurd cc) refl (λ beyond. absurd (omega arith));
    }))
brush_next symbols es ps bs fs symbol next (sort.Mark CloseBrace) sorted is read = brush_closed symbols es ps bs fs symbol next sorted is (length fs == 0) refl read
brush_next symbols es ps bs fs symbol next s sorted is read = absurd cc

face_next : (symbols : List Symbol) (es : List Entity) (ps : List Pair) (bs : List Brush) (fs : List Face) (ns : List ℤ) (ts : List (List ℕ)) (left : List Slot) (symbol : Symbol) (next : Prefix) → (is : IsInFace symbols es ps bs fs ns ts left) → IsFaceNext es ps bs fs (is.begun ++ symbol ∷ []) next → IsPrefix (symbols ++ symbol ∷ []) next
face_next symbols es ps bs fs ns ts left symbol next is (goes_on {ns = ms} {ts = us} {left = more_left} begins next_prefix) =
    subst (IsPrefix (symbols ++ symbol ∷ [])) (sym next_prefix)
    (face_prefix (record {
      before = is.before;
      begun = is.begun ++ symbol ∷ [];
      split = ap (λ (l : List Symbol). l ++ symbol ∷ []) is.split ∙ append_assoc is.before is.begun (symbol ∷ []);
      brush = is.brush;
      begins = begins;
    }))
face_next symbols es ps bs fs ns ts left symbol next is (ends {face = face} spells next_prefix) =
    let brush = is.brush in
    subst (IsPrefix (symbols ++ symbol ∷ [])) (sym next_prefix)
    (brush_prefix (record {
      before = brush.before;
      open_brace = brush.open_brace;
      inner = brush.inner ++ (is.begun ++ symbol ∷ []);
      split = ap (λ (l : List Symbol). l ++ symbol ∷ []) is.split
          ∙ append_assoc is.before is.begun (symbol ∷ [])
          ∙ ap (λ (l : List Symbol). l ++ (is.begun ++ symbol ∷ [])) brush.split
          ∙ append_assoc brush.before (brush.open_brace ∷ brush.inner) (is.begun ++ symbol ∷ []);
      entity = brush.entity;
      opens = brush.opens;
      spelled = faces_push brush.spelled spells;
    }))

-- ---- prefixes

sorted : (prefix : Prefix) (symbol : Symbol) (next : Prefix) → step prefix symbol ≡ Ok next → step_at prefix.context prefix (sort_of symbol) symbol.bytes ≡ Ok next
sorted prefix symbol next read = sym (step_sorted prefix symbol (sort_of symbol) refl) ∙ read

-- a symbol that is read behind a prefix makes a prefix
pub prefix_next : (symbols : List Symbol) (prefix next : Prefix) (symbol : Symbol) → IsPrefix symbols prefix → step prefix symbol ≡ Ok next → IsPrefix (symbols ++ symbol ∷ []) next
prefix_next symbols prefix next symbol (outside_prefix {entities = es} is) read =
    outside_next symbols es symbol next (sort_of symbol) refl is (sorted (between_entities es) symbol next read)
prefix_next symbols prefix next symbol (entity_prefix {entities = es} {pairs = ps} {brushes = bs} is) read =
    entity_next symbols es ps bs symbol next (sort_of symbol) refl is (sorted (in_entity es ps bs) symbol next read)
prefix_next symbols prefix next symbol (key_prefix {entities = es} {pairs = ps} {brushes = bs} {key = key} is) read =
    key_next symbols es ps bs key symbol next (sort_of symbol) refl is (sorted (behind_key es ps bs key) symbol next read)
prefix_next symbols prefix next symbol (brush_prefix {entities = es} {pairs = ps} {brushes = bs} {faces = fs} is) read =
    brush_next symbols es ps bs fs symbol next (sort_of symbol) refl is (sorted (in_brush es ps bs fs) symbol next read)
prefix_next symbols prefix next symbol (face_prefix {entities = es} {pairs = ps} {brushes = bs} {faces = fs} {numbers = ns} {texts = ts} {left = left} is) read =
    face_next symbols es ps bs fs ns ts left symbol next is (begun_next es ps bs fs is.begun ns ts left symbol next is.begins read)

runs_prefix_from : (before symbols : List Symbol) (prefix next : Prefix) → IsPrefix before prefix → runs prefix symbols ≡ Ok next → IsPrefix (before ++ symbols) next
runs_prefix_from before [] prefix next is read =
    let same : prefix ≡ next = cc in
    subst (λ (l : List Symbol). IsPrefix l next) (sym (append-nil before)) (subst (IsPrefix before) same is)
runs_prefix_from before (symbol ∷ symbols) prefix next is read =
    by_result (step prefix symbol)
    (λ mid one. subst (λ (l : List Symbol). IsPrefix l next) (append_assoc before (symbol ∷ []) symbols)
    (runs_prefix_from (before ++ symbol ∷ []) symbols mid next (prefix_next before prefix mid symbol is one) (sym (runs_step prefix mid symbol symbols one) ∙ read)))
    (λ reason refused. not_both (runs prefix (symbol ∷ symbols)) next reason read (runs_refused prefix symbol symbols reason refused))

-- what is read through is a prefix
pub runs_prefix : (symbols : List Symbol) (prefix : Prefix) → runs (between_entities []) symbols ≡ Ok prefix → IsPrefix symbols prefix
runs_prefix symbols prefix read =
    runs_prefix_from [] symbols (between_entities []) prefix (outside_prefix (record { spelled = no_entities_spelled; origins = tt })) read
