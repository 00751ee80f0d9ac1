-- A map that a text means is valid.
use Rattle.std.proofs.Common.{◌≡◌, ℕ, ◌≤◌, suc, List, [], ◌∷◌, ◌++◌, length, map, sum_by, sym, ap, subst, length-append, arith}
use Rattle.std.specs.Prelude.{All}
use Rattle.std.proofs.lemmas.List.Elements.{All-nil, All-cons, All-head, All-tail}
use Rattle.std.proofs.lemmas.List.Sums.{sum_by-cons}
use Rattle.qm_lists.proofs.Elements.{All-last_part}
use Rattle.qm_mapfile.specs.declared.face.Face.{Face}
use Rattle.qm_mapfile.specs.declared.entity.Brush.{Brush}
use Rattle.qm_mapfile.specs.declared.entity.Pair.{Pair}
use Rattle.qm_mapfile.specs.declared.entity.Entity.{Entity}
use Rattle.qm_mapfile.specs.declared.entity.MapFile.{MapFile}
use Rattle.qm_grammar.specs.Symbol.{Symbol, symbol_of}
use Rattle.qm_grammar.specs.Grammar.{SpellsFaces, none, more, IsBraced, SpellsBrush, SpellsPair, SpellsParts, pair, brush, SpellsEntity, SpellsEntities, SpellsMap}
use Rattle.qm_grammar.specs.Meaning.{IsMapText}
use Rattle.qm_grammar.specs.Valid.{IsValidFace, IsValidBrush, IsValidPair, IsValidEntity, face_count, IsValidMap, face_limit}
use Rattle.qm_grammar.proofs.Parts.{all_prefix}
use Rattle.qm_grammar.proofs.TokenTexts.{IsTokenText, quoted_text, lexing_texts, lexing_counted}
use Rattle.qm_grammar.proofs.ValidFaces.{face_valid, face_counted}

-- ---- faces and brushes

faces_valid : {symbols : List Symbol} {faces : List Face} → SpellsFaces symbols faces → All IsTokenText symbols → All IsValidFace faces
faces_valid none tokens = All-nil IsValidFace
faces_valid (more {symbols = first} {others = others} {face = face} {faces = faces} spells rest) tokens =
    All-cons IsValidFace face faces
    (face_valid first face spells (all_prefix IsTokenText first others tokens))
    (faces_valid rest (All-last_part IsTokenText first others tokens))

faces_counted : {symbols : List Symbol} {faces : List Face} → SpellsFaces symbols faces → length faces ≤ length symbols
faces_counted none = omega arith
faces_counted (more {symbols = first} {others = others} {face = face} spells rest) =
    let one = face_counted first face spells in
    let few = faces_counted rest in
    omega (arith, length-append first others)

-- the tokens between two braces
braced_inner : (symbols inner : List Symbol) → IsBraced symbols inner → All IsTokenText symbols → All IsTokenText inner
braced_inner symbols inner braced tokens =
    let all : All IsTokenText (braced.open_brace ∷ (inner ++ braced.close_brace ∷ [])) = subst (All IsTokenText) braced.spelled tokens in
    all_prefix IsTokenText inner (braced.close_brace ∷ []) (All-tail IsTokenText braced.open_brace (inner ++ braced.close_brace ∷ []) all)

braced_counted : (symbols inner : List Symbol) → IsBraced symbols inner → length inner ≤ length symbols
braced_counted symbols inner braced =
    let whole : length symbols ≡ suc (length (inner ++ braced.close_brace ∷ [])) = ap length braced.spelled in
    omega (arith, length-append inner (braced.close_brace ∷ []))

brush_valid : (symbols : List Symbol) (one : Brush) → SpellsBrush symbols one → All IsTokenText symbols → IsValidBrush one
brush_valid symbols one spells tokens =
    record { some = spells.some; faces = faces_valid spells.faces (braced_inner symbols spells.inner spells.braced tokens) }

brush_counted : (symbols : List Symbol) (one : Brush) → SpellsBrush symbols one → length one.faces ≤ length symbols
brush_counted symbols one spells =
    let inside = braced_counted symbols spells.inner spells.braced in
    let few = faces_counted spells.faces in
    omega arith

-- ---- entities

pair_valid : (key value : Symbol) (one : Pair) → SpellsPair key value one → IsTokenText key → IsTokenText value → IsValidPair one
pair_valid key value one spells key_token value_token =
    subst IsValidPair (sym spells.is_pair)
    (record { key = quoted_text key key_token spells.key_quoted; value = quoted_text value value_token spells.value_quoted })

pairs_valid : {symbols : List Symbol} {pairs : List Pair} {brushes : List Brush} → SpellsParts symbols pairs brushes → All IsTokenText symbols → All IsValidPair pairs
pairs_valid none tokens = All-nil IsValidPair
pairs_valid (pair {key = key} {value = value} {others = others} {pair = one} {pairs = pairs} spells rest) tokens =
    let behind = All-tail IsTokenText key (value ∷ others) tokens in
    All-cons IsValidPair one pairs
    (pair_valid key value one spells (All-head IsTokenText key (value ∷ others) tokens) (All-head IsTokenText value others behind))
    (pairs_valid rest (All-tail IsTokenText value others behind))
pairs_valid (brush {symbols = first} {others = others} spells rest) tokens = pairs_valid rest (All-last_part IsTokenText first others tokens)

brushes_valid : {symbols : List Symbol} {pairs : List Pair} {brushes : List Brush} → SpellsParts symbols pairs brushes → All IsTokenText symbols → All IsValidBrush brushes
brushes_valid none tokens = All-nil IsValidBrush
brushes_valid (pair {key = key} {value = value} {others = others} spells rest) tokens =
    brushes_valid rest (All-tail IsTokenText value others (All-tail IsTokenText key (value ∷ others) tokens))
brushes_valid (brush {symbols = first} {others = others} {brush = one} {brushes = brushes} spells rest) tokens =
    All-cons IsValidBrush one brushes
    (brush_valid first one spells (all_prefix IsTokenText first others tokens))
    (brushes_valid rest (All-last_part IsTokenText first others tokens))

brushes_counted : {symbols : List Symbol} {pairs : List Pair} {brushes : List Brush} → SpellsParts symbols pairs brushes → sum_by (λ one. length one.faces) brushes ≤ length symbols
brushes_counted none = omega arith
brushes_counted (pair spells rest) = let few = brushes_counted rest in omega arith
brushes_counted (brush {symbols = first} {others = others} {brush = one} {brushes = brushes} spells rest) =
    let here = brush_counted first one spells in
    let few = brushes_counted rest in
    omega (arith, length-append first others, sum_by-cons (λ (b : Brush). length b.faces) one brushes)

entity_valid : (symbols : List Symbol) (one : Entity) → SpellsEntity symbols one → All IsTokenText symbols → IsValidEntity one
entity_valid symbols one spells tokens =
    let inside = braced_inner symbols spells.inner spells.braced tokens in
    record { pairs = pairs_valid spells.parts inside; brushes = brushes_valid spells.parts inside }

entity_counted : (symbols : List Symbol) (one : Entity) → SpellsEntity symbols one → face_count one ≤ length symbols
entity_counted symbols one spells =
    let inside = braced_counted symbols spells.inner spells.braced in
    let few = brushes_counted spells.parts in
    omega arith

entities_valid : {symbols : List Symbol} {entities : List Entity} → SpellsEntities symbols entities → All IsTokenText symbols → All IsValidEntity entities
entities_valid none tokens = All-nil IsValidEntity
entities_valid (more {symbols = first} {others = others} {entity = one} {entities = entities} spells rest) tokens =
    All-cons IsValidEntity one entities
    (entity_valid first one spells (all_prefix IsTokenText first others tokens))
    (entities_valid rest (All-last_part IsTokenText first others tokens))

entities_counted : {symbols : List Symbol} {entities : List Entity} → SpellsEntities symbols entities → sum_by face_count entities ≤ length symbols
entities_counted none = omega arith
entities_counted (more {symbols = first} {others = others} {entity = one} {entities = entities} spells rest) =
    let here = entity_counted first one spells in
    let few = entities_counted rest in
    omega (arith, length-append first others, sum_by-cons face_count one entities)

-- ---- the map

-- a map that a text means is valid
pub map_valid : (text : List ℕ) (one : MapFile) → IsMapText text one → IsValidMap one
unfolding IsValidMap
map_valid text one is =
    let spells : SpellsMap (map symbol_of is.lexing.lexemes) one = is.spelled in
    let tokens = lexing_counted text is.lexing is.is_lexing in
    let faces = entities_counted spells.entities in
    let short = is.short in
    let few : sum_by face_count one.entities ≤ face_limit = omega arith in
    (spells.some, entities_valid spells.entities (lexing_texts text is.lexing is.is_lexing), spells.origins, few)
