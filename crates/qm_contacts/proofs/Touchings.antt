-- The list of touching pairs: which pairs it has, that it ascends, and that it has each pair once.
use Rattle.std.proofs.Common.{◌≡◌, ℕ, ◌<◌, List, [], All, Contains, sym, ◌∙◌, subst, arith, ◌⊎◌, inl, inr, ⊎_elim, ◌↔◌}
use Rattle.std.proofs.lemmas.List.Elements.{All-nil, All-cons, All-head, All-tail, All-contains, Contains-get_or}
use Rattle.std.specs.Prelude.{slice_index_or}
use Rattle.qm_lists.proofs.Elements.{Contains-first, Contains-later, Contains-cons_cases}
use Rattle.qm_lists.proofs.EachPair.{EachPair}
use Rattle.qm_space.specs.Point.{Point}
use Rattle.qm_space.specs.Plane.{Plane}
use Rattle.qm_space.proofs.Cubes.{cube_in_closed}
use Rattle.qm_convex.specs.World.{IsInWorld}
use Rattle.qm_convex.proofs.Central.{has_a_point}
use Rattle.qm_partition.specs.Tree.{Tree}
use Rattle.qm_partition.specs.Counting.{leaf_count}
use Rattle.qm_partition.specs.Numbering.{nodes_after, leaves_after}
use Rattle.qm_partition.proofs.Counts.{leaves_after-count}
use Rattle.qm_contacts.specs.Meeting.{Meeting, meetings}
use Rattle.qm_contacts.specs.Contact.{IsContact, TouchAcross, Touch}
use Rattle.qm_contacts.specs.Touching.{Touching, IsTouching, AreTouchings, none, touching, apart}
use Rattle.qm_contacts.specs.Contacts.{Contacts, AreContacts, AreNeighbours}
use Rattle.qm_contacts.specs.inner.Others.{IsPair, IsOther, AreOthers}
use Rattle.qm_contacts.proofs.Meetings.{IsBefore, IsBetween, meetings_between, meetings_ascend}

-- a polygon of contact lies in the world
pub touching_in_world : (planes : List Plane) (meeting : Meeting) (found : Touching) → IsTouching planes meeting found → IsInWorld found.winding
touching_in_world planes meeting found is = record { convex = is.convex; inside = λ x r. cube_in_closed x ((is.points x).0 r).in_cube }

-- a meeting with a contact is in the list
pub touching_of_meeting : (planes : List Plane) (all : List Meeting) (touchings : List Touching) (meeting : Meeting) (x : Point) → AreTouchings planes all touchings → Contains all meeting → IsContact planes meeting x → (found : Touching) × Contains touchings found × IsTouching planes meeting found
touching_of_meeting planes all touchings meeting x none listed contact = absurd (let within = listed.1 in omega arith)
touching_of_meeting planes all touchings meeting x (touching {meeting = first} {found = one} {meetings = rest} {touchings = others} is have) listed contact = ⊎_elim
    (λ same. (one, Contains-first one others, subst (λ (m : Meeting). IsTouching planes m one) same is))
    (λ later. let found = touching_of_meeting planes rest others meeting x have later contact in (found.0, Contains-later one found.0 others found.1, found.2))
    (Contains-cons_cases first meeting rest listed)
touching_of_meeting planes all touchings meeting x (apart {meeting = first} {meetings = rest} never have) listed contact = ⊎_elim
    (λ same. absurd (never x (subst (λ (m : Meeting). IsContact planes m x) (sym same) contact)))
    (λ later. touching_of_meeting planes rest touchings meeting x have later contact)
    (Contains-cons_cases first meeting rest listed)

-- and each of the list is that of a meeting
pub meeting_of_touching : (planes : List Plane) (all : List Meeting) (touchings : List Touching) (found : Touching) → AreTouchings planes all touchings → Contains touchings found → (meeting : Meeting) × Contains all meeting × IsTouching planes meeting found
meeting_of_touching planes all touchings found none listed = absurd (let within = listed.1 in omega arith)
meeting_of_touching planes all touchings found (touching {meeting = first} {found = one} {meetings = rest} {touchings = others} is have) listed = ⊎_elim
    (λ same. (first, Contains-first first rest, subst (λ (t : Touching). IsTouching planes first t) same is))
    (λ later. let meeting = meeting_of_touching planes rest others found have later in (meeting.0, Contains-later first meeting.0 rest meeting.1, meeting.2))
    (Contains-cons_cases one found others listed)
meeting_of_touching planes all touchings found (apart {meeting = first} {meetings = rest} never have) listed =
    let meeting = meeting_of_touching planes rest touchings found have listed in
    (meeting.0, Contains-later first meeting.0 rest meeting.1, meeting.2)

-- ---- which leaves touch

module _ (tree : Tree) (touchings : List Touching) (are : AreTouchings tree.planes (meetings tree) touchings) where
  across_listed : (a b : ℕ) → TouchAcross tree a b → (found : Touching) × Contains touchings found × IsPair found a b
  across_listed a b across =
      let found = touching_of_meeting tree.planes (meetings tree) touchings across.meeting across.point are across.listed across.contact in
      (found.0, found.1, record { front = found.2.front ∙ across.front; back = found.2.back ∙ across.back })

  across_from : (found : Touching) → Contains touchings found → (a b : ℕ) → IsPair found a b → TouchAcross tree a b
  across_from found listed a b pair =
      let meeting = meeting_of_touching tree.planes (meetings tree) touchings found are listed in
      let point = has_a_point found.winding meeting.2.convex in
      record {
        meeting = meeting.0;
        listed = meeting.1;
        front = sym meeting.2.front ∙ pair.front;
        back = sym meeting.2.back ∙ pair.back;
        point = point.0;
        contact = (meeting.2.points point.0).0 point.1;
      }

  -- leaves touch exactly where the list has their pair
  pub touch_listed : (a b : ℕ) → Touch tree a b ↔ ((found : Touching) × Contains touchings found × IsOther found a b)
  touch_listed a b = (
    (λ touch. ⊎_elim
        (λ across. let found = across_listed a b across in (found.0, found.1, inl found.2))
        (λ across. let found = across_listed b a across in (found.0, found.1, inr found.2))
        touch),
    (λ found. ⊎_elim
        (λ pair. inl (across_from found.0 found.1 a b pair))
        (λ pair. inr (across_from found.0 found.1 b a pair))
        found.2),
  )

-- the leaf in front has the lesser number
pub across_order : (tree : Tree) (a b : ℕ) → TouchAcross tree a b → a < b
across_order tree a b across =
    let Between = IsBetween 0 (nodes_after tree.shape 0) 0 (leaves_after tree.shape 0) in
    let is = All-contains Between (meetings tree) across.meeting (meetings_between tree.shape 0 0 []) across.listed in
    omega (arith, is.leaf_order, across.front, across.back)

-- so no leaf touches itself
pub no_touch_itself : (tree : Tree) (a : ℕ) → Touch tree a a → ⊥
no_touch_itself tree a touch = ⊎_elim (λ across. let o = across_order tree a a across in absurd (omega arith)) (λ across. let o = across_order tree a a across in absurd (omega arith)) touch

-- to touch goes both ways
pub touch_back : (tree : Tree) (a b : ℕ) → Touch tree a b → Touch tree b a
touch_back tree a b touch = ⊎_elim (λ across. inr across) (λ across. inl across) touch

-- ---- the order of the list

-- a pair comes before another: by its node, its leaf in front, its leaf behind; and it is another pair
pub record ComesBefore (s t : Touching) : Type 0 where
  pub order : (s.node < t.node) ⊎ ((s.node ≡ t.node) × ((s.front < t.front) ⊎ ((s.front ≡ t.front) × (s.back < t.back))))
  pub apart : s.front ≡ t.front → s.back ≡ t.back → ⊥

before : (planes : List Plane) (m l : Meeting) (s t : Touching) → IsTouching planes m s → IsTouching planes l t → IsBefore m l → ComesBefore s t
before planes m l s t is it b = record {
  order = ⊎_elim
      (λ less. inl (omega (arith, less, is.node, it.node)))
      (λ same. ⊎_elim
      (λ less. inr (is.node ∙ same.0 ∙ sym it.node, inl (omega (arith, less, is.front, it.front))))
      (λ both. inr (is.node ∙ same.0 ∙ sym it.node, inr (is.front ∙ both.0 ∙ sym it.front, omega (arith, both.1, is.back, it.back))))
      same.1)
      b.order;
  apart = λ front back. b.apart (sym is.front ∙ front ∙ it.front) (sym is.back ∙ back ∙ it.back);
}

later : (planes : List Plane) (m : Meeting) (s : Touching) (all : List Meeting) (touchings : List Touching) → IsTouching planes m s → AreTouchings planes all touchings → All (IsBefore m) all → All (ComesBefore s) touchings
later planes m s all touchings is none each = All-nil (ComesBefore s)
later planes m s all touchings is (touching {meeting = first} {found = one} {meetings = rest} {touchings = others} it have) each =
    All-cons (ComesBefore s) one others (before planes m first s one is it (All-head (IsBefore m) first rest each)) (later planes m s rest others is have (All-tail (IsBefore m) first rest each))
later planes m s all touchings is (apart {meeting = first} {meetings = rest} never have) each = later planes m s rest touchings is have (All-tail (IsBefore m) first rest each)

some_ascend : (planes : List Plane) (all : List Meeting) (touchings : List Touching) → AreTouchings planes all touchings → EachPair IsBefore all → EachPair ComesBefore touchings
some_ascend planes all touchings none each = tt
some_ascend planes all touchings (touching {meeting = first} {found = one} {meetings = rest} {touchings = others} is have) each = (later planes first one rest others is have each.0, some_ascend planes rest others have each.1)
some_ascend planes all touchings (apart {meeting = first} {meetings = rest} never have) each = some_ascend planes rest touchings have each.1

pub touchings_ascend : (tree : Tree) (touchings : List Touching) → AreTouchings tree.planes (meetings tree) touchings → EachPair ComesBefore touchings
touchings_ascend tree touchings are = some_ascend tree.planes (meetings tree) touchings are (meetings_ascend tree.shape 0 0 [])

-- ---- neighbours

-- both numbers are there, in order
pub pair_order : (tree : Tree) (touchings : List Touching) (found : Touching) → AreTouchings tree.planes (meetings tree) touchings → Contains touchings found → found.front < found.back
pair_order tree touchings found are listed =
    let m = meeting_of_touching tree.planes (meetings tree) touchings found are listed in
    let Between = IsBetween 0 (nodes_after tree.shape 0) 0 (leaves_after tree.shape 0) in
    let is = All-contains Between (meetings tree) m.0 (meetings_between tree.shape 0 0 []) m.1 in
    omega (arith, is.leaf_order, m.2.front, m.2.back)

-- in two pairs that have a leaf its others are different: so each neighbour comes once
pub others_differ : (s t : Touching) (k a b : ℕ) → ComesBefore s t → s.front < s.back → t.front < t.back → IsOther s k a → IsOther t k b → a ≡ b → ⊥
others_differ s t k a b before s_order t_order of_s of_t same = ⊎_elim
    (λ p. ⊎_elim
    (λ q. before.apart (p.front ∙ sym q.front) (p.back ∙ same ∙ sym q.back))
    (λ q. absurd (omega (arith, p.front, p.back, q.front, q.back, s_order, t_order, same)))
    of_t)
    (λ p. ⊎_elim
    (λ q. absurd (omega (arith, p.front, p.back, q.front, q.back, s_order, t_order, same)))
    (λ q. before.apart (p.front ∙ same ∙ sym q.front) (p.back ∙ sym q.back))
    of_t)
    of_s

-- the others of a leaf are its neighbours
pub others_are_neighbours : (tree : Tree) (contacts : Contacts) (k : ℕ) (others : List ℕ) → AreContacts tree contacts → AreOthers contacts.touchings k others → AreNeighbours tree k others
others_are_neighbours tree contacts k others are is = record {
  ascending = is.ascending;
  touch = λ other.
      let listed = touch_listed tree contacts.touchings are.touching k other in
      let paired = is.paired other in
      ((λ there. listed.1 (paired.0 there)), (λ touch. paired.1 (listed.0 touch)));
}

-- the leaves of each pair are some of the tree's, the one in front the lesser
pub pairs_within : (tree : Tree) (touchings : List Touching) → AreTouchings tree.planes (meetings tree) touchings → All (λ found. (found.front < found.back) × (found.back < leaf_count tree.shape)) touchings
pairs_within tree touchings are k d within =
    let found = slice_index_or touchings k d in
    let m = meeting_of_touching tree.planes (meetings tree) touchings found are (Contains-get_or touchings k d within) in
    let Between = IsBetween 0 (nodes_after tree.shape 0) 0 (leaves_after tree.shape 0) in
    let is = All-contains Between (meetings tree) m.0 (meetings_between tree.shape 0 0 []) m.1 in
    (omega (arith, is.leaf_order, m.2.front, m.2.back), omega (arith, is.leaf_high, m.2.back, leaves_after-count tree.shape 0))
