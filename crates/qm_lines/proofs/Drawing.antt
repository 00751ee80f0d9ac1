-- Lines that are drawn one after another.
use Rattle.std.proofs.Common.{◌≡◌, ◌∙◌, ◌<◌, ℕ, Bool, List, length, sym, subst}
use Rattle.qm_contacts.specs.NumberedLeaves.{numbered_leaves}
use Rattle.qm_contacts.specs.World.{World}
use Rattle.qm_sight.specs.WordInSight.{LieWithin}
use Rattle.qm_sight.specs.InCeiling.{IsInCeiling}
use Rattle.qm_lines.specs.declared.first_portal.FirstPortal.{FirstPortal}
use Rattle.qm_lines.specs.inner.Drawing.{MayDraw, HasGainedFrom, HasDrawn}
use Rattle.qm_lines.proofs.Traces.{gains_none, gains_on}

module _ (first : FirstPortal) where
  pub gained_none : (ceilings : List (List Bool)) (row : List Bool) → HasGainedFrom first ceilings row row
  gained_none ceilings row = gains_none first.world.now.portals (IsInCeiling ceilings) first.portal row

  -- what is gained later, over smaller ceilings, is gained
  pub gained_on : (more less : List (List Bool)) (a b c : List Bool) → LieWithin less more → HasGainedFrom first more a b → HasGainedFrom first less b c → HasGainedFrom first more a c
  gained_on more less a b c lie before later = gains_on first.world.now.portals more less first.portal a b c lie before later

module _ {first : FirstPortal} where
  -- a source that answers about the same world may be asked still, for a row as long
  pub may_draw_on : {answered later : World} {old new : List Bool} → MayDraw first answered old → later ≡ answered → length new ≡ length old → MayDraw first later new
  may_draw_on may same long = record {
    portal = may.portal;
    own_portals = may.own_portals;
    same_world = same ∙ may.same_world;
    wide = long ∙ may.wide;
  }

  -- so it may after lines were drawn
  pub may_draw_after : {answered later : World} {WentOn : Type 0} {ceilings : List (List Bool)} {old new : List Bool} → MayDraw first answered old → (WentOn → later ≡ answered) → HasDrawn first ceilings WentOn old new → MayDraw first later new
  may_draw_after may same drawn = may_draw_on may (same drawn.on) drawn.shown.same_length

  -- a leaf has a place in each row as long
  pub has_place : {answered : World} {old : List Bool} {leaf : ℕ} (new : List Bool) → MayDraw first answered old → length new ≡ length old → leaf < length (numbered_leaves first.world.now.tree) → leaf < length new
  has_place {leaf = leaf} new may long within = subst (λ (n : ℕ). leaf < n) (sym (long ∙ may.wide)) within

  -- no line was drawn
  pub drawn_none : {WentOn : Type 0} {ceilings : List (List Bool)} {row : List Bool} → WentOn → HasDrawn first ceilings WentOn row row
  drawn_none {ceilings = ceilings} {row = row} on = record { shown = gained_none first ceilings row; on = on }

  -- lines were drawn, and then more of them, over smaller ceilings
  pub drawn_on : {Before Later WentOn : Type 0} {more less : List (List Bool)} {a b c : List Bool} → (Before → LieWithin less more) → (Before → Later → WentOn) →
      HasDrawn first more Before a b → HasDrawn first less Later b c → HasDrawn first more WentOn a c
  drawn_on {more = more} {less = less} {a = a} {b = b} {c = c} narrower in_turn before later = record {
    shown = gained_on first more less a b c (narrower before.on) before.shown later.shown;
    on = in_turn before.on later.on;
  }
