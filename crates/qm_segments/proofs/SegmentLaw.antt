-- The law of segments: a generic segment in leaves of one contents that is not solid goes by portals, enters no leaf twice,
-- and has its last leaf in sight of each of these portals.
use Rattle.std.proofs.Common.{◌≡◌, ◌≢◌, ℕ, List, [], ◌∷◌, All, map, Some, slice_get, sym, ap, ◌∙◌, subst, inr}
use Rattle.std.specs.List.{AllZip}
use Rattle.std.proofs.lemmas.List.Elements.{All-nil, All-cons, All-head, All-tail}
use Rattle.qm_lists.proofs.EachPair.{EachPair, pairs_by_place}
use Rattle.qm_lists.proofs.Elements.{Contains-first}
use Rattle.qm_space.specs.Point.{Point}
use Rattle.qm_space.specs.Line.{IsBetween}
use Rattle.qm_contents.specs.declared.contents.Contents.{Contents}
use Rattle.qm_contents.specs.declared.contents.Contents.TheVariants.{Solid}
use Rattle.qm_partition.specs.Tree.{Tree}
use Rattle.qm_partition.specs.Counting.{node_planes}
use Rattle.qm_partition.specs.LeafOfPoint.{leaf_at}
use Rattle.qm_partition.specs.Ways.{HasPoints}
use Rattle.qm_contacts.specs.Meeting.{meetings}
use Rattle.qm_contacts.specs.Touching.{Touching, AreTouchings}
use Rattle.qm_contacts.specs.NumberedLeaves.{numbered_leaves}
use Rattle.qm_contacts.specs.Portals.{Portal, leaf_number, portals_of}
use Rattle.qm_contacts.proofs.Numbers.{number_at_leaf}
use Rattle.qm_segments.specs.Segment.{Segment}
use Rattle.qm_segments.specs.Generic.{IsGeneric}
use Rattle.qm_segments.specs.Clear.{IsClear, LeafHas}
use Rattle.qm_segments.specs.Passes.{Passes, within, onward}
use Rattle.qm_segments.specs.LedByPortals.{IsLedByPortals}
use Rattle.qm_segments.specs.GoesBy.{GoesBy, ends, through}
use Rattle.qm_segments.specs.Sight.{IsInSight}
use Rattle.qm_segments.proofs.Betweenness.{farther_between}
use Rattle.qm_segments.proofs.LeavesPassed.{NoneHasBoth, none_from}
use Rattle.qm_segments.proofs.EndLeaves.{end_in_leaf, first_leaf}
use Rattle.qm_segments.proofs.LeavesOnce.{leaves_once}
use Rattle.qm_segments.proofs.GenericSegments.{generic_none, generic_passes, passed_contents}
use Rattle.qm_segments.proofs.PortalsListed.{number_of_leaf}
use Rattle.qm_segments.specs.LeafNumber.{IsNumberOf}
use Rattle.qm_segments.proofs.EnteredLeaves.{EntersNext, portal_entered, goes_through_entered, next_in_sight}

-- numbers of different leaves are different
module _ (tree : Tree) where
  differs : (n k : ℕ) (numbers leaves : List ℕ) → IsNumberOf tree n k → AllZip (IsNumberOf tree) numbers leaves → All (λ l. k ≢ l) leaves → All (λ m. n ≢ m) numbers
  differs n k [] leaves is zip apart = All-nil (λ m. n ≢ m)
  differs n k (m ∷ numbers) [] is zip apart = absurd zip
  differs n k (m ∷ numbers) (l ∷ leaves) is zip apart =
      All-cons (λ m. n ≢ m) m numbers
      (λ same. All-head (λ l. k ≢ l) l leaves apart (let e : Some k ≡ Some l = sym is ∙ ap (slice_get (numbered_leaves tree)) same ∙ zip.0 in cc))
      (differs n k numbers leaves is zip.1 (All-tail (λ l. k ≢ l) l leaves apart))

  pub numbers_differ : (numbers leaves : List ℕ) → AllZip (IsNumberOf tree) numbers leaves → EachPair (λ a b. a ≢ b) leaves → EachPair (λ a b. a ≢ b) numbers
  numbers_differ [] leaves zip each = tt
  numbers_differ (n ∷ numbers) [] zip each = absurd zip
  numbers_differ (n ∷ numbers) (k ∷ leaves) zip each = (differs n k numbers leaves zip.0 zip.1 each.0, numbers_differ numbers leaves zip.1 each.1)

module _ (tree : Tree) (have : HasPoints tree) (touchings : List Touching) (are : AreTouchings tree.planes (meetings tree) touchings) (s : Segment) (generic : IsGeneric tree s) (contents : Contents) (not_solid : contents ≢ Solid) (clear : IsClear (LeafHas tree) tree s contents) where
  abbrev portals : List Portal
  portals = portals_of tree touchings

  -- from a point of the segment on
  pub record IsLed (x : Point) (k : ℕ) (rest : List ℕ) : Type 0 where
    pub chain : List Portal
    pub to : ℕ
    pub goes : GoesBy (portals_of tree touchings) s x (leaf_number tree k) chain to
    pub numbers : AllZip (IsNumberOf tree) (leaf_number tree k ∷ map (λ q. q.to) chain) (k ∷ rest)
    pub to_is : IsNumberOf tree to (leaf_at tree.planes tree.shape s.to)
    pub sight : All (λ q. IsInSight tree q to) chain

  -- through the portal at m, in sight of which the rest is
  led_on : (x m : Point) (k n : ℕ) (rest : List ℕ) → EntersNext tree s x m k n rest → IsLed m n rest → IsLed x k (n ∷ rest)
  led_on x m k n rest enters after =
      let p = portal_entered tree have touchings are s generic contents not_solid clear x m k n rest enters in
      let from = (number_at_leaf tree p.portal.from k p.from_is).3 in
      let to = (number_at_leaf tree p.portal.to n p.to_is).3 in
      record {
        chain = p.portal ∷ after.chain;
        to = after.to;
        goes = through p.listed (sym from) enters.at (goes_through_entered tree have touchings are s generic contents not_solid clear x m k n rest enters p) (subst (λ (j : ℕ). GoesBy (portals_of tree touchings) s m j after.chain after.to) to after.goes);
        numbers = (subst (λ (j : ℕ). IsNumberOf tree j k) (sym from) p.from_is, subst (λ (j : ℕ). AllZip (IsNumberOf tree) (j ∷ map (λ q. q.to) after.chain) (n ∷ rest)) to after.numbers);
        to_is = after.to_is;
        sight = All-cons (λ q. IsInSight tree q after.to) p.portal after.chain (next_in_sight tree s generic contents not_solid clear x m k n rest enters p.portal after.to p.from_is p.to_is after.to_is) after.sight;
      }

  pub led : (x : Point) (k : ℕ) (rest : List ℕ) → Passes tree x s.to (k ∷ rest) → NoneHasBoth tree (node_planes tree.shape) x s.to → ((y : Point) → IsBetween y x s.to → IsBetween y s.from s.to) → IsLed x k rest
  led x k rest (within inside) none near =
      let has = passed_contents tree x s.to contents k [] k none (λ y b off. clear y (inr (inr (near y b))) off) (within inside) (Contains-first k []) in
      let number = number_of_leaf tree contents k not_solid (record { found = has.0; leaf_is = has.1; contents_are = has.2 }) in
      record {
        chain = [];
        to = leaf_number tree k;
        goes = ends;
        numbers = (number, tt);
        to_is = number ∙ ap Some (sym (end_in_leaf tree x s.to k generic.to_off inside));
        sight = All-nil (λ q. IsInSight tree q (leaf_number tree k));
      }
  led x k rest (onward {m = m} {n = n} {rest = others} at inside apart more) none near =
      led_on x m k n others (record { at = at; inside = inside; apart = apart; more = more; none = none; near = near })
      (led m n others more (none_from tree (node_planes tree.shape) x m s.to at none) (λ y b. near y (farther_between x s.to m y at b)))

  -- from the first leaf to the last
  pub record IsLedWhole : Type 0 where
    pub from : ℕ
    pub to : ℕ
    pub chain : List Portal
    pub from_is : IsNumberOf tree from (leaf_at tree.planes tree.shape s.from)
    pub to_is : IsNumberOf tree to (leaf_at tree.planes tree.shape s.to)
    pub goes : GoesBy (portals_of tree touchings) s s.from from chain to
    pub once : EachPair (λ a b. a ≢ b) (from ∷ map (λ q. q.to) chain)
    pub sight : All (λ q. IsInSight tree q to) chain

  pub segment_law : IsLedWhole
  segment_law =
      let passed = generic_passes tree s generic in
      let whole = led s.from passed.0 passed.1 passed.2 (generic_none tree s generic) (λ y b. b) in
      record {
        from = leaf_number tree passed.0;
        to = whole.to;
        chain = whole.chain;
        from_is = whole.numbers.0 ∙ ap Some (sym (first_leaf tree s.from s.to passed.0 passed.1 generic.from_off passed.2));
        to_is = whole.to_is;
        goes = whole.goes;
        once = numbers_differ tree (leaf_number tree passed.0 ∷ map (λ q. q.to) whole.chain) (passed.0 ∷ passed.1) whole.numbers (leaves_once tree s.from s.to passed.0 passed.1 passed.2);
        sight = whole.sight;
      }

  -- the same by the word for it
  pub is_led_by_portals : IsLedByPortals tree (portals_of tree touchings) s
  is_led_by_portals =
      let is = segment_law in
      record { from = is.from; to = is.to; chain = is.chain; from_is = is.from_is; to_is = is.to_is; goes = is.goes; once = pairs_by_place (λ a b. a ≢ b) (is.from ∷ map (λ q. q.to) is.chain) is.once; sight = is.sight }
