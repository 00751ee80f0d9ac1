-- A token that is refused stands in the table with its reason.
use Rattle.std.proofs.Common.{◌≡◌, ◌≢◌, Bool, true, false, not, ◌&&◌, ◌==◌, ℤ, List, [], ◌∷◌, length, is_none, bytes_eq, Result, Ok, Err, refl, sym, ap, subst, ◌∙◌}
use Rattle.std.proofs.lemmas.Bool.{and_parts, not-true, both_ways, eq-eqb, eqb-true}
use Rattle.std.proofs.lemmas.List.{nil_from_length}
use Rattle.std.proofs.lemmas.Slice.Eq.{bytes_eq-Decides}
use Rattle.qm_lists.proofs.Options.{IsNone_from_is_none}
use Rattle.qm_mapfile.specs.declared.entity.Entity.{Entity}
use Rattle.qm_grammar.specs.declared.mark.Mark.{Mark}
use Rattle.qm_grammar.specs.declared.mark.Mark.TheVariants.{OpenBrace, CloseBrace, OpenParenthesis, CloseParenthesis, OpenBracket}
use Rattle.qm_grammar.specs.declared.mark.Sort.{Sort}
use Rattle.qm_grammar.specs.declared.mark.Sort.TheVariants as sort
use Rattle.qm_grammar.specs.declared.slot.Slot.{Slot}
use Rattle.qm_grammar.specs.declared.slot.Slot.TheVariants as slot
use Rattle.qm_grammar.specs.declared.context.Context.{Context}
use Rattle.qm_grammar.specs.declared.context.Context.TheVariants as context
use Rattle.qm_grammar.specs.declared.refusal.Refusal.{Refusal}
use Rattle.qm_grammar.specs.declared.refusal.Refusal.TheVariants as refusal
use Rattle.qm_grammar.specs.Symbol.{Symbol, sort_of}
use Rattle.qm_grammar.specs.Origin.{origin_key, value_of}
use Rattle.qm_grammar.specs.Slots.{points_of}
use Rattle.qm_grammar.specs.Prefix.{Prefix}
use Rattle.qm_grammar.specs.Table.{Allows, mark, Refuses, unexpected, bad_number, fraction, too_large, out_of_range, no_normal, too_fine, no_faces, bad_origin, IsAtCoordinate, ClosesThirdPoint}
use Rattle.qm_grammar.specs.inner.Machine.{is_same_mark, coordinate_of, origin_of, is_bad_origin, plane_refusal, step, step_at, step_outside, step_entity, step_value, step_brush, step_face, step_slot, step_mark, with_value, without_brush, with_left, with_number}
use Rattle.qm_grammar.proofs.Numbers.{IsBadCoordinate, no_number, fraction, too_large, outside, coordinate_bad}
use Rattle.qm_grammar.proofs.OriginTexts.{none_no_origin}
use Rattle.qm_grammar.proofs.Planes.{IsRefusedPlane, on_line, fine}
use Rattle.qm_grammar.proofs.FaceSteps.{step_sorted, same_mark, mark_same, is_flat, flat_is}

-- ---- what the tests of an origin say

pub some_entities : (es : List Entity) → not (length es == 0) ≡ true → es ≢ []
some_entities es some none = both_ways (length es == 0) (not-true (length es == 0) some) (eq-eqb (length es) 0 (ap length none))

-- ---- refused for its sort

-- the mark that is due is the one that is allowed
pub allowed_mark : {due m : Mark} {others : List Slot} → Allows context.Face (slot.Mark due ∷ others) (sort.Mark m) → due ≡ m
allowed_mark mark = refl

-- a step by the context, the slots that are left and the sort
pub step_in_context : (prefix : Prefix) (symbol : Symbol) (p : Context) (s : Sort) → prefix.context ≡ p → sort_of symbol ≡ s → step prefix symbol ≡ step_at p prefix s symbol.bytes
step_in_context prefix symbol p s origin_point sorted =
    step_sorted prefix symbol s sorted ∙ ap (λ (q : Context). step_at q prefix s symbol.bytes) origin_point

module _ (prefix : Prefix) (symbol : Symbol) where
  pub allows_at : (p : Context) (left : List Slot) (s : Sort) → prefix.context ≡ p → prefix.left ≡ left → sort_of symbol ≡ s → Allows prefix.context prefix.left (sort_of symbol) → Allows p left s
  allows_at p left s origin_point lefts sorted is =
      subst (Allows p left) sorted (subst (λ (l : List Slot). Allows p l (sort_of symbol)) lefts (subst (λ (q : Context). Allows q prefix.left (sort_of symbol)) origin_point is))

  not_allowed : (p : Context) (left : List Slot) (s : Sort) (reason : Refusal) → prefix.context ≡ p → prefix.left ≡ left → sort_of symbol ≡ s → (Allows p left s → ⊥) → ◌≡◌ {A = Result Prefix Refusal} (Err refusal.Unexpected) (Err reason) → Refuses prefix symbol reason
  not_allowed p left s reason origin_point lefts sorted never refused =
      let same : refusal.Unexpected ≡ reason = cc in
      subst (Refuses prefix symbol) same (unexpected (λ is. never (allows_at p left s origin_point lefts sorted is)))

  outside_refused : (s : Sort) (reason : Refusal) → prefix.context ≡ context.Outside → sort_of symbol ≡ s → step_outside prefix s ≡ Err reason → Refuses prefix symbol reason
  unfolding step_outside
  outside_refused (sort.Mark OpenBrace) reason origin_point sorted refused = absurd cc
  outside_refused s reason origin_point sorted refused = not_allowed context.Outside prefix.left s reason origin_point refl sorted (λ is. elim is [ ]) refused

  entity_refused : (s : Sort) (reason : Refusal) → prefix.context ≡ context.Entity → sort_of symbol ≡ s → step_entity prefix s symbol.bytes ≡ Err reason → Refuses prefix symbol reason
  unfolding step_entity
  entity_refused sort.Quoted reason origin_point sorted refused = absurd cc
  entity_refused (sort.Mark OpenBrace) reason origin_point sorted refused = absurd cc
  entity_refused (sort.Mark CloseBrace) reason origin_point sorted refused = absurd cc
  entity_refused s reason origin_point sorted refused = not_allowed context.Entity prefix.left s reason origin_point refl sorted (λ is. elim is [ ]) refused

  bad_value : prefix.context ≡ context.Value → sort_of symbol ≡ sort.Quoted → is_bad_origin prefix symbol.bytes ≡ true → Refuses prefix symbol refusal.BadOrigin
  unfolding is_bad_origin
  bad_value origin_point sorted bad =
      let four = and_parts (not (length prefix.entities == 0) && bytes_eq prefix.key origin_key && is_none (value_of origin_key prefix.pairs)) (is_none (origin_of symbol.bytes)) bad in
      let three = and_parts (not (length prefix.entities == 0) && bytes_eq prefix.key origin_key) (is_none (value_of origin_key prefix.pairs)) four.0 in
      let two = and_parts (not (length prefix.entities == 0)) (bytes_eq prefix.key origin_key) three.0 in
      bad_origin
      (record {
        behind_key = origin_point;
        is_quoted = sorted;
        not_world = some_entities prefix.entities two.0;
        key_is = (bytes_eq-Decides prefix.key origin_key).0 two.1;
        first = IsNone_from_is_none (value_of origin_key prefix.pairs) three.1;
      })
      (none_no_origin symbol.bytes four.1)

  value_refused : (t : Bool) (reason : Refusal) → prefix.context ≡ context.Value → sort_of symbol ≡ sort.Quoted → is_bad_origin prefix symbol.bytes ≡ t → step_value prefix sort.Quoted symbol.bytes ≡ Err reason → Refuses prefix symbol reason
  unfolding step_value
  value_refused true reason origin_point sorted bad refused =
      let both : Err refusal.BadOrigin ≡ Err reason = rw bad at refused in
      let same : refusal.BadOrigin ≡ reason = cc in
      subst (Refuses prefix symbol) same (bad_value origin_point sorted bad)
  value_refused false reason origin_point sorted good refused = absurd (let never : Ok (with_value prefix symbol.bytes) ≡ Err reason = rw good at refused in cc)

  key_refused : (s : Sort) (reason : Refusal) → prefix.context ≡ context.Value → sort_of symbol ≡ s → step_value prefix s symbol.bytes ≡ Err reason → Refuses prefix symbol reason
  unfolding step_value
  key_refused sort.Quoted reason origin_point sorted refused = value_refused (is_bad_origin prefix symbol.bytes) reason origin_point sorted refl refused
  key_refused s reason origin_point sorted refused = not_allowed context.Value prefix.left s reason origin_point refl sorted (λ is. elim is [ ]) refused

  closing_refused : (t : Bool) (reason : Refusal) → prefix.context ≡ context.Brush → sort_of symbol ≡ sort.Mark CloseBrace → (length prefix.faces == 0) ≡ t → step_brush prefix (sort.Mark CloseBrace) ≡ Err reason → Refuses prefix symbol reason
  unfolding step_brush
  closing_refused true reason origin_point sorted empty refused =
      let both : Err refusal.NoFaces ≡ Err reason = rw empty at refused in
      let same : refusal.NoFaces ≡ reason = cc in
      subst (Refuses prefix symbol) same
      (no_faces (record { in_brush = origin_point; closes = sorted; no_faces = nil_from_length prefix.faces (eqb-true (length prefix.faces) 0 empty) }))
  closing_refused false reason origin_point sorted some refused = absurd (let never : Ok (without_brush prefix) ≡ Err reason = rw some at refused in cc)

  brush_refused : (s : Sort) (reason : Refusal) → prefix.context ≡ context.Brush → sort_of symbol ≡ s → step_brush prefix s ≡ Err reason → Refuses prefix symbol reason
  unfolding step_brush
  brush_refused (sort.Mark OpenParenthesis) reason origin_point sorted refused = absurd cc
  brush_refused (sort.Mark CloseBrace) reason origin_point sorted refused = closing_refused (length prefix.faces == 0) reason origin_point sorted refl refused
  brush_refused s reason origin_point sorted refused = not_allowed context.Brush prefix.left s reason origin_point refl sorted (λ is. elim is [ ]) refused

  -- ---- in a face

  plane_in_table : (reason : Refusal) → ClosesThirdPoint prefix symbol → IsRefusedPlane (points_of prefix.numbers) reason → Refuses prefix symbol reason
  plane_in_table reason closes (on_line flat) = no_normal closes flat
  plane_in_table reason closes (fine found) = too_fine closes found

  flat_refused : (others : List Slot) (t : Bool) (reason : Refusal) → prefix.context ≡ context.Face → prefix.left ≡ slot.Mark CloseParenthesis ∷ others → sort_of symbol ≡ sort.Mark CloseParenthesis → is_flat prefix.numbers ≡ t → step_mark prefix CloseParenthesis others ≡ Err reason → Refuses prefix symbol reason
  unfolding step_mark
  flat_refused others true reason origin_point lefts sorted flat refused =
      let why : Refusal = plane_refusal (points_of prefix.numbers) in
      let both : Err why ≡ Err reason = rw flat at refused in
      let same : why ≡ reason = cc in
      let points = flat_is prefix.numbers flat in
      subst (Refuses prefix symbol) same
      (plane_in_table why (record { others = others; in_face = origin_point; next = lefts; three_points = points.0; closes = sorted }) points.1)
  flat_refused others false reason origin_point lefts sorted spans refused = absurd (let never : Ok (with_left prefix others) ≡ Err reason = rw spans at refused in cc)

  mark_refused : (due m : Mark) (others : List Slot) (reason : Refusal) → prefix.context ≡ context.Face → prefix.left ≡ slot.Mark due ∷ others → sort_of symbol ≡ sort.Mark due → step_mark prefix due others ≡ Err reason → Refuses prefix symbol reason
  unfolding step_mark
  mark_refused CloseParenthesis m others reason origin_point lefts sorted refused = flat_refused others (is_flat prefix.numbers) reason origin_point lefts sorted refl refused
  mark_refused due m others reason origin_point lefts sorted refused = absurd cc

  due_refused : (due m : Mark) (others : List Slot) (t : Bool) (reason : Refusal) → prefix.context ≡ context.Face → prefix.left ≡ slot.Mark due ∷ others → sort_of symbol ≡ sort.Mark m → is_same_mark due m ≡ t → step_slot prefix (slot.Mark due) others (sort.Mark m) symbol.bytes ≡ Err reason → Refuses prefix symbol reason
  unfolding step_slot
  due_refused due m others true reason origin_point lefts sorted same refused =
      mark_refused due m others reason origin_point lefts (sorted ∙ ap (λ (k : Mark). sort.Mark k) (sym (mark_same due m same))) (rw same at refused)
  due_refused due m others false reason origin_point lefts sorted other refused =
      not_allowed context.Face (slot.Mark due ∷ others) (sort.Mark m) reason origin_point lefts sorted
      (λ is. both_ways (is_same_mark due m) other (ap (is_same_mark due) (sym (allowed_mark is)) ∙ same_mark due))
      (rw other at refused)

  bad_in_table : (reason : Refusal) → IsAtCoordinate prefix symbol → IsBadCoordinate symbol.bytes reason → Refuses prefix symbol reason
  bad_in_table reason at (no_number is) = bad_number at is
  bad_in_table reason at (fraction is) = fraction at is
  bad_in_table reason at (too_large is) = too_large at is
  bad_in_table reason at (outside is) = out_of_range at is

  coordinate_refused : (others : List Slot) (r : Result ℤ Refusal) (reason : Refusal) → prefix.context ≡ context.Face → prefix.left ≡ slot.Coordinate ∷ others → sort_of symbol ≡ sort.Name → coordinate_of symbol.bytes ≡ r → step_slot prefix slot.Coordinate others sort.Name symbol.bytes ≡ Err reason → Refuses prefix symbol reason
  unfolding step_slot
  coordinate_refused others (Ok c) reason origin_point lefts sorted read refused = absurd (let never : with_number prefix others (Ok c) ≡ Err reason = rw read at refused in cc)
  coordinate_refused others (Err why) reason origin_point lefts sorted read refused =
      let both : Err why ≡ Err reason = rw read at refused in
      let same : why ≡ reason = cc in
      subst (Refuses prefix symbol) same
      (bad_in_table why (record { others = others; in_face = origin_point; next = lefts; is_name = sorted }) (coordinate_bad symbol.bytes why read))

  slot_refused : (one : Slot) (others : List Slot) (s : Sort) (reason : Refusal) → prefix.context ≡ context.Face → prefix.left ≡ one ∷ others → sort_of symbol ≡ s → step_slot prefix one others s symbol.bytes ≡ Err reason → Refuses prefix symbol reason
  unfolding step_slot
  slot_refused (slot.Mark due) others (sort.Mark m) reason origin_point lefts sorted refused = due_refused due m others (is_same_mark due m) reason origin_point lefts sorted refl refused
  slot_refused slot.Coordinate others sort.Name reason origin_point lefts sorted refused = coordinate_refused others (coordinate_of symbol.bytes) reason origin_point lefts sorted refl refused
  slot_refused slot.Texture others sort.Name reason origin_point lefts sorted refused = absurd cc
  slot_refused slot.Texture others sort.Quoted reason origin_point lefts sorted refused = absurd cc
  slot_refused slot.FirstOfMapping others sort.Name reason origin_point lefts sorted refused = absurd cc
  slot_refused slot.FirstOfMapping others (sort.Mark OpenBracket) reason origin_point lefts sorted refused = absurd cc
  slot_refused slot.Word others sort.Name reason origin_point lefts sorted refused = absurd cc
  slot_refused one others s reason origin_point lefts sorted refused = not_allowed context.Face (one ∷ others) s reason origin_point lefts sorted (λ is. elim is [ ]) refused

  face_refused : (left : List Slot) (s : Sort) (reason : Refusal) → prefix.context ≡ context.Face → prefix.left ≡ left → sort_of symbol ≡ s → step_face prefix left s symbol.bytes ≡ Err reason → Refuses prefix symbol reason
  face_refused [] s reason origin_point lefts sorted refused = not_allowed context.Face [] s reason origin_point lefts sorted (λ is. elim is [ ]) refused
  face_refused (one ∷ others) s reason origin_point lefts sorted refused = slot_refused one others s reason origin_point lefts sorted refused

  -- ---- in each context

  context_refused : (p : Context) (reason : Refusal) → prefix.context ≡ p → step_at p prefix (sort_of symbol) symbol.bytes ≡ Err reason → Refuses prefix symbol reason
  context_refused context.Outside reason origin_point refused = outside_refused (sort_of symbol) reason origin_point refl refused
  context_refused context.Entity reason origin_point refused = entity_refused (sort_of symbol) reason origin_point refl refused
  context_refused context.Value reason origin_point refused = key_refused (sort_of symbol) reason origin_point refl refused
  context_refused context.Brush reason origin_point refused = brush_refused (sort_of symbol) reason origin_point refl refused
  context_refused context.Face reason origin_point refused = face_refused prefix.left (sort_of symbol) reason origin_point refl refl refused

  -- what the machine refuses, the table refuses
  pub step_refused : (reason : Refusal) → step prefix symbol ≡ Err reason → Refuses prefix symbol reason
  step_refused reason refused = context_refused prefix.context reason refl (sym (step_sorted prefix symbol (sort_of symbol) refl) ∙ refused)
