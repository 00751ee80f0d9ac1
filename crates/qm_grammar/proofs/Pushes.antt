-- One more part behind parts that are spelled.
use Rattle.std.proofs.Common.{List, [], ◌∷◌, ◌++◌, sym, subst, append_assoc, append-nil}
use Rattle.qm_mapfile.specs.declared.face.Face.{Face}
use Rattle.qm_mapfile.specs.declared.entity.Brush.{Brush}
use Rattle.qm_mapfile.specs.declared.entity.Pair.{Pair}
use Rattle.qm_mapfile.specs.declared.entity.Entity.{Entity}
use Rattle.qm_grammar.specs.Symbol.{Symbol}
use Rattle.qm_grammar.specs.Grammar.{SpellsFace, SpellsFaces, none, more, SpellsBrush, SpellsPair, SpellsParts, pair, brush, SpellsEntity, SpellsEntities}

pub no_faces_spelled : SpellsFaces [] []
no_faces_spelled = none

pub no_parts_spelled : SpellsParts [] [] []
no_parts_spelled = none

pub no_entities_spelled : SpellsEntities [] []
no_entities_spelled = none

pub faces_push : {symbols others : List Symbol} {faces : List Face} {face : Face} → SpellsFaces symbols faces → SpellsFace others face → SpellsFaces (symbols ++ others) (faces ++ face ∷ [])
faces_push {others = others} {face = face} none spells = subst (λ (l : List Symbol). SpellsFaces l (face ∷ [])) (append-nil others) (more spells none)
faces_push {others = others} {face = face} (more {symbols = first} {others = rest} {face = one} {faces = faces} spells_one spells_rest) spells =
    subst (λ (l : List Symbol). SpellsFaces l (one ∷ (faces ++ face ∷ []))) (sym (append_assoc first rest others)) (more spells_one (faces_push spells_rest spells))

pub pair_push : {symbols : List Symbol} {pairs : List Pair} {brushes : List Brush} {key value : Symbol} {one : Pair} → SpellsParts symbols pairs brushes → SpellsPair key value one → SpellsParts (symbols ++ key ∷ (value ∷ [])) (pairs ++ one ∷ []) brushes
pair_push none spells = pair spells none
pair_push (pair first rest) spells = pair first (pair_push rest spells)
pair_push {key = key} {value = value} {one = one} (brush {symbols = first} {others = others} {brush = b} {pairs = pairs} {brushes = brushes} spells_one rest) spells =
    subst (λ (l : List Symbol). SpellsParts l (pairs ++ one ∷ []) (b ∷ brushes)) (sym (append_assoc first others (key ∷ (value ∷ [])))) (brush spells_one (pair_push rest spells))

pub brush_push : {symbols others : List Symbol} {pairs : List Pair} {brushes : List Brush} {one : Brush} → SpellsParts symbols pairs brushes → SpellsBrush others one → SpellsParts (symbols ++ others) pairs (brushes ++ one ∷ [])
brush_push {others = others} {one = one} none spells = subst (λ (l : List Symbol). SpellsParts l [] (one ∷ [])) (append-nil others) (brush spells none)
brush_push (pair first rest) spells = pair first (brush_push rest spells)
brush_push {others = others} {one = one} (brush {symbols = first} {others = rest} {brush = b} {pairs = pairs} {brushes = brushes} spells_one spells_rest) spells =
    subst (λ (l : List Symbol). SpellsParts l pairs (b ∷ (brushes ++ one ∷ []))) (sym (append_assoc first rest others)) (brush spells_one (brush_push spells_rest spells))

pub entities_push : {symbols others : List Symbol} {entities : List Entity} {one : Entity} → SpellsEntities symbols entities → SpellsEntity others one → SpellsEntities (symbols ++ others) (entities ++ one ∷ [])
entities_push {others = others} {one = one} none spells = subst (λ (l : List Symbol). SpellsEntities l (one ∷ [])) (append-nil others) (more spells none)
entities_push {others = others} {one = one} (more {symbols = first} {others = rest} {entity = e} {entities = entities} spells_one spells_rest) spells =
    subst (λ (l : List Symbol). SpellsEntities l (e ∷ (entities ++ one ∷ []))) (sym (append_assoc first rest others)) (more spells_one (entities_push spells_rest spells))
