-- Parts of windings by planes: each winding has one by the planes of a list, or no point of it is in front of them all.
use Rattle.std.proofs.Common.{◌≡◌, Bool, List, [], ◌∷◌, Contains, refl, sym, subst, ◌∙◌, arith, ◌⊎◌, inl, inr, ⊎_elim, ◌↔◌}
use Rattle.qm_lists.proofs.Elements.{Contains-first, Contains-later, Contains-cons_cases}
use Rattle.qm_lists.proofs.Pairs.{All-from_contains}
use Rattle.std.proofs.lemmas.List.Elements.{All-contains}
use Rattle.qm_numbers.proofs.IntegerProducts.{linear}
use Rattle.qm_space.specs.Point.{Point}
use Rattle.qm_space.specs.Plane.{Plane, IsOn, IsInFront, flipped}
use Rattle.qm_space.proofs.Planes.{value_flipped, flipped_in_front}
use Rattle.qm_convex.specs.Winding.{Winding, corner_at, IsConvex, IsInRegion}
use Rattle.qm_convex.specs.Sides.{HasNoneInFront, LiesIn, HasCornerBehind}
use Rattle.qm_convex.specs.Cut.{IsPartInFront, IsPartWithin, HasNoneWithin}
use Rattle.qm_convex.specs.World.{IsInWorld}
use Rattle.qm_space.specs.Turned.{turned}
use Rattle.qm_space.proofs.TurnedPlanes.{turned_on}
use Rattle.qm_convex.proofs.Hull.{hull}
use Rattle.qm_convex.proofs.Central.{by_corner_in_front, wholly_in_front}
use Rattle.qm_convex.proofs.Cutting.{front_run, cut_is_part, whole_is_part}
use Rattle.qm_convex.specs.inner.FrontRun.{cut}
use Rattle.qm_separators.specs.Gains.{HasExactly}
use Rattle.qm_separators.specs.Part.{IsPartBy, HasNoPartBy}
use Rattle.qm_separators.proofs.ListedPlanes.{Listed}

-- ---- by one plane

pub part_or_none : (v : Winding) (g : Plane) → IsConvex v → ((w : Winding) × IsPartInFront w v g) ⊎ HasNoneInFront v g
part_or_none v g c = by_corner_in_front v g
    (λ front. by_corner_in_front v (flipped g)
    (λ some.
    let behind : HasCornerBehind v g = (some.0, some.1, (flipped_in_front g (corner_at v some.0)).0 some.2) in
    let run = front_run v g front behind in
    inl (cut v g run.0 run.1, cut_is_part v g run.0 run.1 c run.2 behind))
    (λ none. inl (v, whole_is_part v g c ((wholly_in_front v g c).1 ((λ i l. let n = none i l in let e = value_flipped g (corner_at v i) in omega (arith, linear)), front)))))
    (λ none. inr (hull v g c none))

-- ---- by several

pub part_by_alike : (w v : Winding) (Has Having : Plane → Type 0) → ((h : Plane) → Has h ↔ Having h) → IsPartBy w v Has → IsPartBy w v Having
part_by_alike w v Has Having alike is = record {
  convex = is.convex;
  plane = is.plane;
  points = λ p. ((λ r. let s = (is.points p).0 r in (s.0, λ h having. s.1 h ((alike h).1 having))), (λ s. (is.points p).1 (s.0, λ h has. s.1 h ((alike h).0 has))));
}

pub no_part_alike : (v : Winding) (Has Having : Plane → Type 0) → ((h : Plane) → Has h ↔ Having h) → HasNoPartBy v Has → HasNoPartBy v Having
no_part_alike v Has Having alike none p r all = none p r (λ h has. all h ((alike h).0 has))

-- where no plane has the property it is the winding itself
pub part_by_none : (v : Winding) (Has : Plane → Type 0) → IsConvex v → ((h : Plane) → Has h → ⊥) → IsPartBy v v Has
part_by_none v Has c none = record { convex = c; plane = refl; points = λ p. ((λ r. (r, λ h has. absurd (none h has))), (λ s. s.0)) }

-- one plane before others
pub part_by_one_more : (u w v : Winding) (g : Plane) (Has : Plane → Type 0) → IsPartInFront w v g → IsPartBy u w Has → IsPartBy u v (λ h. (h ≡ g) ⊎ Has h)
part_by_one_more u w v g Has first rest = record {
  convex = rest.convex;
  plane = rest.plane ∙ first.plane;
  points = λ p. (
    (λ r. let s = (rest.points p).0 r in let t = (first.points p).0 s.0 in (t.0, λ h e. ⊎_elim (λ same. subst (λ (k : Plane). IsInFront k p) (sym same) t.1) (λ has. s.1 h has) e)),
    (λ s. (rest.points p).1 ((first.points p).1 (s.0, s.1 g (inl refl)), λ h has. s.1 h (inr has))),
  );
}

cons_alike : (g : Plane) (gs : List Plane) (h : Plane) → ((h ≡ g) ⊎ Contains gs h) ↔ Contains (g ∷ gs) h
cons_alike g gs h = (
  (λ e. ⊎_elim (λ same. subst (Contains (g ∷ gs)) (sym same) (Contains-first g gs)) (λ more. Contains-later g h gs more) e),
  (λ c. ⊎_elim (λ same. inl (sym same)) (λ more. inr more) (Contains-cons_cases g h gs c)),
)

pub part_by_list : (gs : List Plane) (v : Winding) → IsConvex v → ((w : Winding) × IsPartBy w v (Contains gs)) ⊎ HasNoPartBy v (Contains gs)
part_by_list [] v c = inl (v, part_by_none v (Contains []) c (λ h there. let l = there.1 in omega arith))
part_by_list (g ∷ gs) v c = ⊎_elim
    (λ first. ⊎_elim
    (λ rest. inl (rest.0, part_by_alike rest.0 v (λ h. (h ≡ g) ⊎ Contains gs h) (Contains (g ∷ gs)) (cons_alike g gs) (part_by_one_more rest.0 first.0 v g (Contains gs) first.1 rest.1)))
    (λ none. inr (λ p r all. none p ((first.1.points p).1 (r, all g (Contains-first g gs))) (λ h there. all h (Contains-later g h gs there))))
    (part_by_list gs first.0 first.1.convex))
    (λ none. inr (λ p r all. let l = none p r in let f = all g (Contains-first g gs) in absurd (omega (arith, linear))))
    (part_or_none v g c)

-- so it has one by each property that a list of planes has exactly
pub part_by_listed : (v : Winding) (Has : Plane → Type 0) → IsConvex v → Listed Has → ((w : Winding) × IsPartBy w v Has) ⊎ HasNoPartBy v Has
part_by_listed v Has c listed = ⊎_elim
    (λ part. inl (part.0, part_by_alike part.0 v (Contains listed.0) Has listed.1 part.1))
    (λ none. inr (no_part_alike v (Contains listed.0) Has listed.1 none))
    (part_by_list listed.0 v c)

-- ---- for code

-- the part within the planes of a list is the part by what the list has exactly
pub part_within_list : (w v : Winding) (gs : List Plane) (Has : Plane → Type 0) → HasExactly Has gs → IsPartWithin w v gs → IsPartBy w v Has
part_within_list w v gs Has exactly is = record {
  convex = is.convex;
  plane = is.plane;
  points = λ p. (
    (λ r. let s = (is.points p).0 r in (s.0, λ h has. All-contains (λ g. IsInFront g p) gs h s.1 ((exactly h).1 has))),
    (λ s. (is.points p).1 (s.0, All-from_contains (λ g. IsInFront g p) gs (λ g there. s.1 g ((exactly g).0 there)))),
  );
}

pub no_part_within_list : (v : Winding) (gs : List Plane) (Has : Plane → Type 0) → HasExactly Has gs → HasNoneWithin v gs → HasNoPartBy v Has
no_part_within_list v gs Has exactly none p r all = none p r (All-from_contains (λ g. IsInFront g p) gs (λ g there. all g ((exactly g).0 there)))

-- a plane that has no point of the winding behind it or on it may be left out
pub part_without : (w v : Winding) (Some Has : Plane → Type 0) → ((h : Plane) → Some h → Has h) → ((h : Plane) → Has h → Some h ⊎ ((p : Point) → IsInRegion v p → IsInFront h p)) → IsPartBy w v Some → IsPartBy w v Has
part_without w v Some Has within left is = record {
  convex = is.convex;
  plane = is.plane;
  points = λ p. (
    (λ r. let s = (is.points p).0 r in (s.0, λ h has. ⊎_elim (λ some. s.1 h some) (λ all. all p s.0) (left h has))),
    (λ s. (is.points p).1 (s.0, λ h some. s.1 h (within h some))),
  );
}

-- where a part by some of the planes has no point in front of one of the others, there is no part by all
pub no_part_after : (w v : Winding) (g : Plane) (Some Has : Plane → Type 0) → ((h : Plane) → Some h → Has h) → Has g → IsPartBy w v Some → HasNoneInFront w g → HasNoPartBy v Has
no_part_after w v g Some Has within there is none p r all =
    let l = none p ((is.points p).1 (r, λ h some. all h (within h some))) in let f = all g there in omega (arith, linear)

-- parts of a winding inside the world are inside it
pub part_by_in_world : (w v : Winding) (Has : Plane → Type 0) → IsInWorld v → IsPartBy w v Has → IsInWorld w
part_by_in_world w v Has world is = record { convex = is.convex; inside = λ p r. world.inside p ((is.points p).0 r).0 }

-- a winding lies in its plane, turned to either side
pub lies_in_turned : (v : Winding) (side : Bool) (into : Plane) → into ≡ turned side v.plane → LiesIn v into
lies_in_turned v side into e p r = subst (λ (h : Plane). IsOn h p) (sym e) ((turned_on side v.plane p).1 r.on)
