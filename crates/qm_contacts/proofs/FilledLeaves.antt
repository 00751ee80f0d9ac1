-- No chain of portals leads from a filled leaf to the leaf of an entity that takes part.
use Rattle.std.proofs.Common.{◌≡◌, ℕ, true, not, List, Some, Contains, refl, sym, ap, ◌∙◌, subst}
use Rattle.qm_lists.specs.Reach.{start, onward}
use Rattle.qm_lists.proofs.Reached.{least}
use Rattle.qm_contents.specs.declared.contents.Contents.{Contents}
use Rattle.qm_partition.specs.declared.node.Leaf.{Leaf}
use Rattle.qm_partition.specs.Tree.{Tree}
use Rattle.qm_contacts.specs.NumberedLeaves.{is_solid}
use Rattle.qm_contacts.specs.Reached.{is_passable, IsPassable, IsReached}
use Rattle.qm_contacts.specs.Leak.{Origin, leaf_of_origin, TakesPart}
use Rattle.qm_contacts.specs.Filled.{IsToBeFilled}
use Rattle.qm_contacts.specs.PortalChain.{IsPortalBetween, IsChained}
use Rattle.qm_contacts.proofs.Touchings.{touch_back}
use Rattle.qm_contacts.proofs.Trails.{reached_passable}

-- a leaf of equal contents can be passed too
passable_beside : (tree : Tree) (a b : ℕ) → IsPassable tree a → IsPortalBetween tree a b → IsPassable tree b
passable_beside tree a b can portal =
    let e : Some can.found ≡ Some portal.from = sym can.leaf_is ∙ portal.from_is in
    let same : can.found ≡ portal.from = cc in
    record {
      found = portal.to;
      leaf_is = portal.to_is;
      passable = subst (λ (contents : Contents). is_passable contents ≡ true) (ap (λ (found : Leaf). found.contents) same ∙ portal.contents) can.passable;
    }

-- ---- chains of portals go both ways

pub portal_back : (tree : Tree) (a b : ℕ) → IsPortalBetween tree a b → IsPortalBetween tree b a
portal_back tree a b portal = record {
  touch = touch_back tree a b portal.touch;
  from = portal.to;
  to = portal.from;
  from_is = portal.to_is;
  to_is = portal.from_is;
  numbered = subst (λ (contents : Contents). not (is_solid contents) ≡ true) portal.contents portal.numbered;
  contents = sym portal.contents;
}

pub chain_through : (tree : Tree) (a b c : ℕ) → IsChained tree a b → IsChained tree b c → IsChained tree a c
chain_through tree a b c first second =
    least (λ k. k ≡ b) (IsPortalBetween tree) (λ k. IsChained tree a k) (λ k is. subst (λ (j : ℕ). IsChained tree a j) (sym is) first) (λ from to chain portal. onward chain portal) c second

pub chain_back : (tree : Tree) (a b : ℕ) → IsChained tree a b → IsChained tree b a
chain_back tree a b chain =
    least (λ k. k ≡ a) (IsPortalBetween tree) (λ k. IsChained tree k a)
    (λ k is. start (sym is))
    (λ from to back portal. chain_through tree to from a (onward (start refl) (portal_back tree from to portal)) back)
    b chain

-- ---- filled leaves

-- where a chain of portals leads from a reached leaf is reached
pub chained_reached : (tree : Tree) (a b : ℕ) → IsReached tree a → IsChained tree a b → IsReached tree b
chained_reached tree a b reached chain =
    least (λ k. k ≡ a) (IsPortalBetween tree) (λ k. IsReached tree k)
    (λ k is. subst (λ (j : ℕ). IsReached tree j) (sym is) reached)
    (λ from to is portal. onward is (record { touch = portal.touch; passable = passable_beside tree from to (reached_passable tree from is) portal }))
    b chain

-- so it leads to no entity that takes part
pub filled_apart : (tree : Tree) (origins : List Origin) (origin : Origin) (k : ℕ) → IsToBeFilled tree origins k → Contains origins origin → TakesPart tree origin → IsChained tree k (leaf_of_origin tree origin) → ⊥
filled_apart tree origins origin k fill listed takes_part chain =
    fill.sealed.tight origin listed (record { takes_part = takes_part; reached = chained_reached tree k (leaf_of_origin tree origin) fill.reached chain })
