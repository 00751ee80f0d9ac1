-- The parts of a text that are put one after another.
use Rattle.std.proofs.Common.{◌≡◌, ℕ, ℤ, pos, List, [], ◌∷◌, ◌++◌, length, get_or, map, flat_map, sym, ap, ◌∙◌, append_assoc, append-nil, arith}
use Rattle.std.proofs.lemmas.Grind.{flat_map-append}
use Rattle.std.proofs.lemmas.List.Concat.{flat_map-cons}
use Rattle.std.proofs.lemmas.List.Folds.{flat_map-map}
use Rattle.qm_mapfile.specs.declared.face.Face.{Face}
use Rattle.qm_mapfile.specs.declared.entity.Brush.{Brush}
use Rattle.qm_mapfile.specs.declared.entity.Pair.{Pair}
use Rattle.qm_mapfile.specs.declared.entity.Entity.{Entity}
use Rattle.qm_lists.proofs.FlatMaps.{flat_map-flat_map}
use Rattle.qm_grammar.specs.Symbol.{Symbol}
use Rattle.qm_grammar.specs.Lines.{TokenLine, line_text, text_of_lines, spaced, spelling}
use Rattle.qm_grammar.specs.Printed.{brace_line, open_brace, close_brace, pair_line, face_line, brush_lines, entity_lines, number_symbol, open_parenthesis, close_parenthesis, point_symbols, texture_symbol, mapping_prefix, mapping_last}

-- a line before others
text_cons : (line : TokenLine) (lines : List TokenLine) → text_of_lines (line ∷ lines) ≡ line_text line ++ text_of_lines lines
text_cons line lines = flat_map-cons line_text line lines

-- what stands between braces
braced : (inner : List TokenLine) → text_of_lines (brace_line open_brace ∷ (inner ++ brace_line close_brace ∷ [])) ≡ line_text (brace_line open_brace) ++ (text_of_lines inner ++ line_text (brace_line close_brace))
braced inner =
    text_cons (brace_line open_brace) (inner ++ brace_line close_brace ∷ [])
    ∙ ap (λ t. line_text (brace_line open_brace) ++ t) (flat_map-append line_text inner (brace_line close_brace ∷ [])
    ∙ ap (λ t. text_of_lines inner ++ t) (text_cons (brace_line close_brace) [] ∙ append-nil (line_text (brace_line close_brace))))

faces_text : (faces : List Face) → text_of_lines (map face_line faces) ≡ flat_map (λ face. line_text (face_line face)) faces
faces_text faces = flat_map-map line_text face_line faces

-- a text, and behind it the parts between braces
pub brush_put : (brush : Brush) (start first second : List ℕ) → first ≡ start ++ line_text (brace_line open_brace) → second ≡ first ++ flat_map (λ face. line_text (face_line face)) brush.faces → start ++ text_of_lines (brush_lines brush) ≡ second ++ line_text (brace_line close_brace)
unfolding brush_lines
brush_put brush start first second opens puts =
    let faces = flat_map (λ face. line_text (face_line face)) brush.faces in
    ap (λ t. start ++ t) (braced (map face_line brush.faces) ∙ ap (λ t. line_text (brace_line open_brace) ++ (t ++ line_text (brace_line close_brace))) (faces_text brush.faces))
    ∙ sym (append_assoc start (line_text (brace_line open_brace)) (faces ++ line_text (brace_line close_brace)))
    ∙ sym (ap (λ t. t ++ (faces ++ line_text (brace_line close_brace))) opens)
    ∙ sym (append_assoc first faces (line_text (brace_line close_brace)))
    ∙ sym (ap (λ t. t ++ line_text (brace_line close_brace)) puts)

-- an entity's pairs and then its brushes
entity_inner : (pairs : List Pair) (brushes : List Brush) → text_of_lines (map pair_line pairs ++ flat_map brush_lines brushes) ≡ flat_map (λ pair. line_text (pair_line pair)) pairs ++ flat_map (λ brush. text_of_lines (brush_lines brush)) brushes
entity_inner pairs brushes =
    flat_map-append line_text (map pair_line pairs) (flat_map brush_lines brushes)
    ∙ ap (λ t. t ++ text_of_lines (flat_map brush_lines brushes)) (flat_map-map line_text pair_line pairs)
    ∙ ap (λ t. flat_map (λ pair. line_text (pair_line pair)) pairs ++ t) (flat_map-flat_map line_text brush_lines brushes)

pub entity_put : (entity : Entity) (start first second third : List ℕ) → first ≡ start ++ line_text (brace_line open_brace) → second ≡ first ++ flat_map (λ pair. line_text (pair_line pair)) entity.pairs → third ≡ second ++ flat_map (λ brush. text_of_lines (brush_lines brush)) entity.brushes → start ++ text_of_lines (entity_lines entity) ≡ third ++ line_text (brace_line close_brace)
unfolding entity_lines
entity_put entity start first second third opens puts_pairs puts_brushes =
    let pairs = flat_map (λ pair. line_text (pair_line pair)) entity.pairs in
    let brushes = flat_map (λ brush. text_of_lines (brush_lines brush)) entity.brushes in
    let opened = line_text (brace_line open_brace) in
    let closed = line_text (brace_line close_brace) in
    ap (λ ls. start ++ text_of_lines (brace_line open_brace ∷ ls)) (sym (append_assoc (map pair_line entity.pairs) (flat_map brush_lines entity.brushes) (brace_line close_brace ∷ [])))
    ∙ ap (λ t. start ++ t) (braced (map pair_line entity.pairs ++ flat_map brush_lines entity.brushes) ∙ ap (λ t. opened ++ (t ++ closed)) (entity_inner entity.pairs entity.brushes))
    ∙ sym (append_assoc start opened ((pairs ++ brushes) ++ closed))
    ∙ sym (ap (λ t. t ++ ((pairs ++ brushes) ++ closed)) opens)
    ∙ ap (λ t. first ++ t) (append_assoc pairs brushes closed)
    ∙ sym (append_assoc first pairs (brushes ++ closed))
    ∙ sym (ap (λ t. t ++ (brushes ++ closed)) puts_pairs)
    ∙ sym (append_assoc second brushes closed)
    ∙ sym (ap (λ t. t ++ closed) puts_brushes)

-- ( x y z ), token by token
pub point_put : (point : List ℤ) (start first second third fourth : List ℕ) → length point ≡ 3 → first ≡ start ++ spaced open_parenthesis → second ≡ first ++ spaced (number_symbol (get_or point 0 (pos 0))) → third ≡ second ++ spaced (number_symbol (get_or point 1 (pos 0))) → fourth ≡ third ++ spaced (number_symbol (get_or point 2 (pos 0))) → start ++ flat_map spaced (point_symbols point) ≡ fourth ++ spaced close_parenthesis
unfolding point_symbols
point_put [] start first second third fourth three opens x y z = absurd (omega arith)
point_put (a ∷ []) start first second third fourth three opens x y z = absurd (omega arith)
point_put (a ∷ b ∷ []) start first second third fourth three opens x y z = absurd (omega arith)
point_put (a ∷ b ∷ c ∷ d ∷ more) start first second third fourth three opens x y z = absurd (omega arith)
point_put (a ∷ b ∷ c ∷ []) start first second third fourth three opens x y z =
    rw (z, y, x, opens) (simp append_assoc)

-- three points, the texture and the mapping of a face
pub face_put : (face : Face) (start first second third fourth : List ℕ) → length face.points ≡ 3 → first ≡ start ++ flat_map spaced (point_symbols (get_or face.points 0 [])) → second ≡ first ++ flat_map spaced (point_symbols (get_or face.points 1 [])) → third ≡ second ++ flat_map spaced (point_symbols (get_or face.points 2 [])) → fourth ≡ third ++ spaced (texture_symbol face.texture) → start ++ line_text (face_line face) ≡ fourth ++ (flat_map spaced (mapping_prefix face.mapping) ++ (spelling (mapping_last face.mapping) ++ 10 ∷ []))
unfolding face_line line_text
face_put face start first second third fourth three a b c t =
    ap (λ s. start ++ s) (parts face.points three)
    ∙ rw (t, c, b, a) (simp append_assoc)
  where
    rest : List ℕ
    rest = spelling (mapping_last face.mapping) ++ 10 ∷ []

    prefix : List Symbol
    prefix = mapping_prefix face.mapping

    tail : flat_map spaced (texture_symbol face.texture ∷ prefix) ≡ spaced (texture_symbol face.texture) ++ flat_map spaced prefix
    tail = flat_map-cons spaced (texture_symbol face.texture) prefix

    parts : (points : List (List ℤ)) → length points ≡ 3 → flat_map spaced (flat_map point_symbols points ++ texture_symbol face.texture ∷ prefix) ++ rest ≡ (flat_map spaced (point_symbols (get_or points 0 [])) ++ (flat_map spaced (point_symbols (get_or points 1 [])) ++ (flat_map spaced (point_symbols (get_or points 2 [])) ++ (spaced (texture_symbol face.texture) ++ flat_map spaced prefix)))) ++ rest
    parts [] e = absurd (omega arith)
    parts (p ∷ []) e = absurd (omega arith)
    parts (p ∷ q ∷ []) e = absurd (omega arith)
    parts (p ∷ q ∷ r ∷ s ∷ more) e = absurd (omega arith)
    parts (p ∷ q ∷ r ∷ []) e =
        rw (flat_map-append spaced (flat_map point_symbols (p ∷ q ∷ r ∷ [])) (texture_symbol face.texture ∷ prefix), tail, flat_map-flat_map spaced point_symbols (p ∷ q ∷ r ∷ [])) (simp (append_assoc, append-nil))
