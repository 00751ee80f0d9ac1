-- A walk as it stands when its rounds begin: its first frame, what lines show besides, and portals that are barred.
use Rattle.std.proofs.Common.{◌≡◌, ◌⊎◌, inl, inr, ⊎_elim, ℕ, true, false, Bool, List, [], ◌∷◌, ◌++◌, length, replicate, set, refl, sym, ap, ◌∙◌, subst}
use Rattle.qm_lists.specs.WorkList.{IsIn}
use Rattle.qm_contacts.specs.NumberedLeaves.{numbered_leaves}
use Rattle.qm_contacts.specs.OwnPortals.{HasOwnPortals}
use Rattle.qm_contacts.specs.Portals.{Portal}
use Rattle.qm_contacts.specs.World.{World}
use Rattle.qm_sight.specs.WordInSight.{ceiling_of, LieWithin}
use Rattle.qm_sight.specs.InCeiling.{IsInCeiling}
use Rattle.qm_lines.specs.Gained.{HasGainedShown}
use Rattle.qm_lines.proofs.Traces.{shown_wider}
use Rattle.qm_chains.specs.Shown.{IsAt}
use Rattle.qm_chains.specs.inner.Cone.{with_mask}
use Rattle.qm_chains.specs.inner.Frame.{Frame}
use Rattle.qm_chains.specs.inner.Pairs.{Pairs}
use Rattle.qm_chains.specs.inner.Walk.{IsBegun, IsWalk}
use Rattle.qm_chains.proofs.Beginnings.{begins}
use Rattle.qm_chains.proofs.TriedPortals.{same_portal}
use Rattle.qm_chains.proofs.Walks.{walk_begins}
use Rattle.qm_flow.specs.declared.frame_stack.FrameStack.{FrameStack}
use Rattle.qm_flow.specs.inner.BegunPairs.{ArePairsBegun}
use Rattle.qm_flow.specs.inner.FirstFrame.{IsFirstFrame}
use Rattle.qm_flow.specs.inner.FirstMask.{IsFirstMask}
use Rattle.qm_flow.specs.inner.PairsGoOn.{PairsGoOn}
use Rattle.qm_flow.specs.inner.WalkSoFar.{IsWalkSoFar}
use Rattle.qm_flow.proofs.LastElements.{pushed_to}
use Rattle.qm_flow.proofs.OwnAnswers.{fresh_within}

-- the first frame is pushed with its mask
pub first_pushed : (was stack : FrameStack) (mask : List Bool) (frames : List Frame) → was ≡ stack → frames ≡ was.frames.items ++ with_mask mask was.room.next ∷ [] → stack.frames.items ≡ [] →
    frames ≡ with_mask mask stack.room.next ∷ []
first_pushed was stack mask frames same is none =
    pushed_to [] stack.frames.items frames (with_mask mask stack.room.next) (is ∙ ap (λ (s : FrameStack). s.frames.items ++ with_mask mask s.room.next ∷ []) same) none

-- the first frame has its mask, and the leaf that its portal enters is found, where the mask has it
pub first_begun : (world : World) → HasOwnPortals world → (ceilings : List (List Bool)) (p : ℕ) (fresh : Frame) → IsFirstFrame world p fresh →
    (mask seen clear row : List Bool) (entered : ℕ) → mask ≡ seen → IsFirstMask world ceilings p seen → clear ≡ replicate (length (numbered_leaves world.tree)) false →
    (portal : Portal) × IsAt world.portals p portal × (entered ≡ portal.to) →
    (IsIn seen entered × (row ≡ set clear entered true)) ⊎ ((IsIn seen entered → ⊥) × (row ≡ clear)) → IsBegun world (IsInCeiling ceilings) p (with_mask mask fresh) row
first_begun world own ceilings p fresh its mask seen clear row entered same narrowed clear_is to found =
    let leaves = length (numbered_leaves world.tree) in
    let to_is = to.2 ∙ ap (λ (r : Portal). r.to) (same_portal world.portals p to.0 its.first to.1 its.first_is) in
    begins world own p its.first its.first_is (IsInCeiling ceilings) (with_mask mask fresh) leaves refl its.from_within its.to_within its.state_is its.met_is its.leaving
    (IsIn (ceiling_of ceilings p))
    (subst (IsFirstMask world ceilings p) (sym same) narrowed)
    (λ n has. has) row
    (subst (λ (all : List Bool). (IsIn all its.first.to × (row ≡ set (replicate leaves false) its.first.to true)) ⊎ ((IsIn all its.first.to → ⊥) × (row ≡ replicate leaves false))) (sym same)
    (subst (λ (n : ℕ). (IsIn seen n × (row ≡ set (replicate leaves false) n true)) ⊎ ((IsIn seen n → ⊥) × (row ≡ replicate leaves false))) to_is
    (subst (λ (none : List Bool). (IsIn seen entered × (row ≡ set none entered true)) ⊎ ((IsIn seen entered → ⊥) × (row ≡ none))) clear_is found)))

begun_with_more : (world : World) (more less : List (List Bool)) (p : ℕ) (frame : Frame) (old new : List Bool) → LieWithin less more →
    IsBegun world (IsInCeiling more) p frame old → HasGainedShown world.portals (IsInCeiling less) p old new → IsBegun world (IsInCeiling more) p frame new
begun_with_more world more less p frame old new lie begun gained = record {
  sees = begun.sees;
  wide = gained.same_length ∙ begun.wide;
  chain = begun.chain;
  shown = λ n is. ⊎_elim (λ before. begun.shown n before) (λ shown. shown_wider world.portals less more p n lie shown) (gained.gained n is);
  none_missed = λ first at n sight. ⊎_elim (λ is. inl (gained.stays n is)) (λ awaited. inr awaited) (begun.none_missed first at n sight);
}

-- over ceilings that have what the source could answer before lines were drawn, and so what it can answer afterwards
pub rounds_begin : (world : World) (ceilings now later : List (List Bool)) (p : ℕ) (frame : Frame) (frames : List Frame) (old row : List Bool) (before pairs : Pairs) →
    frames ≡ frame ∷ [] → LieWithin now ceilings → LieWithin later now →
    IsBegun world (IsInCeiling ceilings) p frame old → HasGainedShown world.portals (IsInCeiling now) p old row →
    ArePairsBegun world p before → PairsGoOn world later row before pairs → IsWalkSoFar world ceilings p pairs frames row
rounds_begin world ceilings now later p frame frames old row before pairs one lie narrower begun gained fresh go = record {
  walk = subst (λ (all : List Frame). IsWalk world (IsInCeiling ceilings) p all row) (sym one)
      (walk_begins world (IsInCeiling ceilings) p frame row (begun_with_more world ceilings now p frame old row lie begun gained));
  pairs_are = go.are;
  first = go.same_first ∙ fresh.first_is;
  within = go.within ceilings (λ place n is. lie place n (narrower place n is))
      (fresh_within before.own (length world.portals) fresh.no_rows (IsInCeiling ceilings));
}
