use Rattle.std.proofs.Common.{◌≡◌, suc, ◌<◌, ◌≤◌, ◌^◌, List, [], ◌∷◌, length, All, refl, arith}
use Rattle.std.specs.Prelude.{sum_by}
use Rattle.std.proofs.lemmas.List.Sums.{sum_by-cons}
use Rattle.qm_mapfile.specs.declared.face.Face.{Face}
use Rattle.qm_mapfile.specs.declared.entity.Brush.{Brush}
use Rattle.qm_mapfile.specs.declared.entity.Entity.{Entity}
use Rattle.qm_mapfile.specs.declared.entity.MapFile.{MapFile}
use Rattle.qm_grammar.specs.Valid.{IsValidMap, IsValidEntity, IsValidBrush, face_count}
use Rattle.qm_statement.specs.Summary.{brush_count}

-- A map has no more brushes than faces.

some_face : (faces : List Face) → (faces ≡ [] → ⊥) → 1 ≤ length faces
some_face [] some = absurd (some refl)
some_face (face ∷ faces) some = omega arith

all_rest : {A : Type 0} (P : A → Type 0) (first : A) (rest : List A) → All P (first ∷ rest) → All P rest
all_rest P first rest all = λ k d within. all (suc k) d (omega arith)

few_brushes : (brushes : List Brush) → All IsValidBrush brushes → length brushes ≤ sum_by (λ brush. length brush.faces) brushes
few_brushes [] valid = omega arith
few_brushes (brush ∷ brushes) valid =
    let here = some_face brush.faces (valid 0 brush (omega arith)).some in
    let rest = few_brushes brushes (all_rest IsValidBrush brush brushes valid) in
    omega (arith, here, rest, sum_by-cons (λ (b : Brush). length b.faces) brush brushes)

few_of_entities : (entities : List Entity) → All IsValidEntity entities → sum_by (λ entity. length entity.brushes) entities ≤ sum_by face_count entities
few_of_entities [] valid = omega arith
few_of_entities (entity ∷ entities) valid =
    let here = few_brushes entity.brushes (valid 0 entity (omega arith)).brushes in
    let rest = few_of_entities entities (all_rest IsValidEntity entity entities valid) in
    omega (arith, here, rest, sum_by-cons (λ (e : Entity). length e.brushes) entity entities, sum_by-cons face_count entity entities)

pub brush_count-few : (map : MapFile) → IsValidMap map → brush_count map < 2 ^ 64
unfolding IsValidMap
brush_count-few map valid = let few = few_of_entities map.entities valid.1 in omega (arith, few, valid.3)
