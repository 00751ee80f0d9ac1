-- What a valid map says of the brushes of its entities.
use Rattle.std.proofs.Common.{◌≡◌, ℕ, ◌<◌, ◌≤◌, List, [], ◌∷◌, length, get_or, All, sym, subst, arith}
use Rattle.std.specs.Prelude.{sum_by}
use Rattle.std.proofs.lemmas.List.Sums.{get_or-le-sum_by}
use Rattle.qm_mapfile.specs.declared.entity.Brush.{Brush}
use Rattle.qm_mapfile.specs.declared.entity.Entity.{Entity}
use Rattle.qm_mapfile.specs.declared.entity.MapFile.{MapFile}
use Rattle.qm_grammar.specs.Valid.{IsValidMap, IsValidFace, IsValidEntity, face_count, face_limit}
use Rattle.qm_drawn.specs.Brushes.{brushes_of_first, world_brushes, entity_brushes}
use Rattle.qm_brush.specs.inner.ValidFaces.{HaveValidFaces}

-- the faces of a brush of a valid map
pub record HasValidFaces (brush : Brush) : Type 0 where
  pub few : length brush.faces ≤ face_limit
  pub faces : All IsValidFace brush.faces

-- one of some brushes, by its place
pub valid_brush_at : (brushes : List Brush) → HaveValidFaces brushes → (k : ℕ) (brush : Brush) → k < length brushes → brush ≡ get_or brushes k brush → HasValidFaces brush
valid_brush_at brushes valid k brush within is =
    let few = get_or-le-sum_by (λ (b : Brush). length b.faces) brushes k brush within in
    let all = valid.few in
    subst HasValidFaces (sym is) (record { few = omega (arith, few, all); faces = valid.each k brush within })

-- the brushes of an entity have valid faces
pub valid_brushes : (entities : List Entity) → All IsValidEntity entities → sum_by face_count entities ≤ face_limit → (e : ℕ) (d : Entity) → e < length entities → HaveValidFaces (get_or entities e d).brushes
valid_brushes entities valid limit e d within =
    let few = get_or-le-sum_by face_count entities e d within in
    record { each = λ k b there. ((valid e d within).brushes k b there).faces; few = omega (arith, few, limit) }

valid_first : (entities : List Entity) → All IsValidEntity entities → sum_by face_count entities ≤ face_limit → HaveValidFaces (brushes_of_first entities)
valid_first [] valid limit = record { each = λ k d within. absurd (omega arith); few = omega arith }
valid_first (world ∷ others) valid limit = valid_brushes (world ∷ others) valid limit 0 world (omega arith)

pub valid_world : (map : MapFile) → IsValidMap map → HaveValidFaces (world_brushes map)
unfolding IsValidMap
valid_world map valid = valid_first map.entities valid.1 valid.3

pub valid_entity : (map : MapFile) → IsValidMap map → (e : ℕ) → e < length map.entities → HaveValidFaces (entity_brushes map e)
unfolding IsValidMap
valid_entity map valid e there = valid_brushes map.entities valid.1 valid.3 e (record { pairs = []; brushes = [] }) there
