-- A token that stands in the table with a reason is refused for it, and no token stands there with two.
use Rattle.std.proofs.Common.{◌≡◌, ℕ, true, not, ◌&&◌, ◌==◌, ℤ, List, [], ◌∷◌, length, is_none, bytes_eq, Result, Err, refl, ap, subst, ◌∙◌}
use Rattle.std.proofs.lemmas.Bool.{and_from, not_from_false, eq-eqb, ne_eqb, true_from_ne_false, false_from_ne_true}
use Rattle.std.proofs.lemmas.List.{nil_from_length}
use Rattle.std.proofs.lemmas.Slice.Eq.{bytes_eq-Decides}
use Rattle.qm_lists.proofs.Options.{is_none_from_IsNone}
use Rattle.qm_grammar.specs.declared.mark.Mark.{Mark}
use Rattle.qm_grammar.specs.declared.mark.Mark.TheVariants.{OpenBrace, CloseBrace, OpenParenthesis, CloseParenthesis, OpenBracket}
use Rattle.qm_grammar.specs.declared.mark.Sort.{Sort}
use Rattle.qm_grammar.specs.declared.mark.Sort.TheVariants as sort
use Rattle.qm_grammar.specs.declared.slot.Slot.{Slot}
use Rattle.qm_grammar.specs.declared.slot.Slot.TheVariants as slot
use Rattle.qm_grammar.specs.declared.context.Context.{Context}
use Rattle.qm_grammar.specs.declared.context.Context.TheVariants as context
use Rattle.qm_grammar.specs.declared.refusal.Refusal.{Refusal}
use Rattle.qm_grammar.specs.declared.refusal.Refusal.TheVariants as refusal
use Rattle.qm_grammar.specs.Symbol.{Symbol, sort_of}
use Rattle.qm_grammar.specs.Origin.{origin_key, value_of, IsOriginText}
use Rattle.qm_grammar.specs.Slots.{points_of}
use Rattle.qm_grammar.specs.Prefix.{Prefix}
use Rattle.qm_grammar.specs.Table.{Allows, entity_opens, key, brush_opens, entity_closes, value, face_begins, brush_closes, mark, coordinate, texture, quoted_texture, word_of_mapping, axis_opens, word, IsAtCoordinate, ClosesThirdPoint, IsOriginValue, ClosesEmptyBrush, Refuses, unexpected, bad_number, fraction, too_large, out_of_range, no_normal, too_fine, no_faces, bad_origin}
use Rattle.qm_grammar.specs.inner.Machine.{is_same_mark, origin_of, is_bad_origin, give_plane, step, step_at, step_outside, step_entity, step_value, step_brush, step_face, step_slot, step_mark, with_number}
use Rattle.qm_grammar.proofs.Planes.{IsRefusedPlane, on_line, fine, false_give}
use Rattle.qm_grammar.proofs.Numbers.{IsBadCoordinate, bad_coordinate}
use Rattle.qm_grammar.proofs.Numbers.{no_number, fraction, too_large, outside}
use Rattle.qm_grammar.proofs.OriginTexts.{some_origin}
use Rattle.qm_grammar.proofs.FaceSteps.{mark_same, is_flat}
use Rattle.qm_grammar.proofs.Refused.{step_in_context}

-- ---- tokens of a sort that no context allows

outside_refuses : (prefix : Prefix) (left : List Slot) (s : Sort) → (Allows context.Outside left s → ⊥) → step_outside prefix s ≡ Err refusal.Unexpected
unfolding step_outside
outside_refuses prefix left (sort.Mark OpenBrace) never = absurd (never entity_opens)
outside_refuses prefix left s never = refl

entity_refuses : (prefix : Prefix) (left : List Slot) (s : Sort) (bytes : List ℕ) → (Allows context.Entity left s → ⊥) → step_entity prefix s bytes ≡ Err refusal.Unexpected
unfolding step_entity
entity_refuses prefix left sort.Quoted bytes never = absurd (never key)
entity_refuses prefix left (sort.Mark OpenBrace) bytes never = absurd (never brush_opens)
entity_refuses prefix left (sort.Mark CloseBrace) bytes never = absurd (never entity_closes)
entity_refuses prefix left s bytes never = refl

value_refuses : (prefix : Prefix) (left : List Slot) (s : Sort) (bytes : List ℕ) → (Allows context.Value left s → ⊥) → step_value prefix s bytes ≡ Err refusal.Unexpected
unfolding step_value
value_refuses prefix left sort.Quoted bytes never = absurd (never value)
value_refuses prefix left s bytes never = refl

brush_refuses : (prefix : Prefix) (left : List Slot) (s : Sort) → (Allows context.Brush left s → ⊥) → step_brush prefix s ≡ Err refusal.Unexpected
unfolding step_brush
brush_refuses prefix left (sort.Mark OpenParenthesis) never = absurd (never face_begins)
brush_refuses prefix left (sort.Mark CloseBrace) never = absurd (never brush_closes)
brush_refuses prefix left s never = refl

slot_refuses : (prefix : Prefix) (one : Slot) (others : List Slot) (s : Sort) (bytes : List ℕ) → (Allows context.Face (one ∷ others) s → ⊥) → step_slot prefix one others s bytes ≡ Err refusal.Unexpected
unfolding step_slot
slot_refuses prefix (slot.Mark due) others (sort.Mark m) bytes never =
    rw (false_from_ne_true (is_same_mark due m) (λ same. never (subst (λ (k : Mark). Allows context.Face (slot.Mark due ∷ others) (sort.Mark k)) (mark_same due m same) mark))) refl
slot_refuses prefix slot.Coordinate others sort.Name bytes never = absurd (never coordinate)
slot_refuses prefix slot.Texture others sort.Name bytes never = absurd (never texture)
slot_refuses prefix slot.Texture others sort.Quoted bytes never = absurd (never quoted_texture)
slot_refuses prefix slot.FirstOfMapping others sort.Name bytes never = absurd (never word_of_mapping)
slot_refuses prefix slot.FirstOfMapping others (sort.Mark OpenBracket) bytes never = absurd (never axis_opens)
slot_refuses prefix slot.Word others sort.Name bytes never = absurd (never word)
slot_refuses prefix one others s bytes never = refl

face_refuses : (prefix : Prefix) (left : List Slot) (s : Sort) (bytes : List ℕ) → (Allows context.Face left s → ⊥) → step_face prefix left s bytes ≡ Err refusal.Unexpected
face_refuses prefix [] s bytes never = refl
face_refuses prefix (one ∷ others) s bytes never = slot_refuses prefix one others s bytes never

context_refuses : (prefix : Prefix) (p : Context) (s : Sort) (bytes : List ℕ) → (Allows p prefix.left s → ⊥) → step_at p prefix s bytes ≡ Err refusal.Unexpected
context_refuses prefix context.Outside s bytes never = outside_refuses prefix prefix.left s never
context_refuses prefix context.Entity s bytes never = entity_refuses prefix prefix.left s bytes never
context_refuses prefix context.Value s bytes never = value_refuses prefix prefix.left s bytes never
context_refuses prefix context.Brush s bytes never = brush_refuses prefix prefix.left s never
context_refuses prefix context.Face s bytes never = face_refuses prefix prefix.left s bytes never

-- ---- the other reasons

module _ (prefix : Prefix) (symbol : Symbol) where
  coordinate_refuses : (reason : Refusal) → IsAtCoordinate prefix symbol → IsBadCoordinate symbol.bytes reason → step prefix symbol ≡ Err reason
  unfolding step_slot
  coordinate_refuses reason at bad =
      step_in_context prefix symbol context.Face sort.Name at.in_face at.is_name
      ∙ ap (λ (l : List Slot). step_face prefix l sort.Name symbol.bytes) at.next
      ∙ ap (λ (r : Result ℤ Refusal). with_number prefix at.others r) (bad_coordinate symbol.bytes reason bad)

  flat_points : (reason : Refusal) → ClosesThirdPoint prefix symbol → IsRefusedPlane (points_of prefix.numbers) reason → is_flat prefix.numbers ≡ true
  flat_points reason closes refused =
      and_from (length prefix.numbers == 9) (not (give_plane (points_of prefix.numbers))) (eq-eqb (length prefix.numbers) 9 closes.three_points)
      (not_from_false (give_plane (points_of prefix.numbers)) (false_give (points_of prefix.numbers) reason refused).0)

  plane_refuses : (reason : Refusal) → ClosesThirdPoint prefix symbol → IsRefusedPlane (points_of prefix.numbers) reason → step prefix symbol ≡ Err reason
  unfolding step_slot step_mark
  plane_refuses reason closes refused =
      step_in_context prefix symbol context.Face (sort.Mark CloseParenthesis) closes.in_face closes.closes
      ∙ ap (λ (l : List Slot). step_face prefix l (sort.Mark CloseParenthesis) symbol.bytes) closes.next
      ∙ rw (flat_points reason closes refused) (rw ((false_give (points_of prefix.numbers) reason refused).1) refl)

  faces_refuses : ClosesEmptyBrush prefix symbol → step prefix symbol ≡ Err refusal.NoFaces
  unfolding step_brush
  faces_refuses closes =
      step_in_context prefix symbol context.Brush (sort.Mark CloseBrace) closes.in_brush closes.closes
      ∙ rw (eq-eqb (length prefix.faces) 0 (ap length closes.no_faces)) refl

  bad_value : IsOriginValue prefix symbol → (IsOriginText symbol.bytes → ⊥) → is_bad_origin prefix symbol.bytes ≡ true
  unfolding is_bad_origin
  bad_value at no_point =
      and_from (not (length prefix.entities == 0) && bytes_eq prefix.key origin_key && is_none (value_of origin_key prefix.pairs)) (is_none (origin_of symbol.bytes))
      (and_from (not (length prefix.entities == 0) && bytes_eq prefix.key origin_key) (is_none (value_of origin_key prefix.pairs))
      (and_from (not (length prefix.entities == 0)) (bytes_eq prefix.key origin_key)
      (not_from_false (length prefix.entities == 0) (ne_eqb (length prefix.entities) 0 (λ e. at.not_world (nil_from_length prefix.entities e))))
      ((bytes_eq-Decides prefix.key origin_key).1 at.key_is))
      (is_none_from_IsNone (value_of origin_key prefix.pairs) at.first))
      (true_from_ne_false (is_none (origin_of symbol.bytes)) (λ found. no_point (some_origin symbol.bytes found)))

  origin_refuses : IsOriginValue prefix symbol → (IsOriginText symbol.bytes → ⊥) → step prefix symbol ≡ Err refusal.BadOrigin
  unfolding step_value
  origin_refuses at no_point =
      step_in_context prefix symbol context.Value sort.Quoted at.behind_key at.is_quoted ∙ rw (bad_value at no_point) refl

  -- what the table refuses, the machine refuses
  pub refused_step : (reason : Refusal) → Refuses prefix symbol reason → step prefix symbol ≡ Err reason
  refused_step reason (unexpected never) =
      step_in_context prefix symbol prefix.context (sort_of symbol) refl refl ∙ context_refuses prefix prefix.context (sort_of symbol) symbol.bytes never
  refused_step reason (bad_number at is) = coordinate_refuses refusal.BadNumber at (no_number is)
  refused_step reason (fraction at is) = coordinate_refuses refusal.Fraction at (fraction is)
  refused_step reason (too_large at is) = coordinate_refuses refusal.CoordinateRange at (too_large is)
  refused_step reason (out_of_range at is) = coordinate_refuses refusal.CoordinateRange at (outside is)
  refused_step reason (no_normal closes flat) = plane_refuses refusal.NoNormal closes (on_line flat)
  refused_step reason (too_fine closes found) = plane_refuses refusal.PlaneTooFine closes (fine found)
  refused_step reason (no_faces closes) = faces_refuses closes
  refused_step reason (bad_origin at no_point) = origin_refuses at no_point
