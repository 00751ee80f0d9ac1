use Rattle.std.specs.Prelude.{◌≢◌, ℕ, Bool, List, ◌∷◌}
use Rattle.std.specs.List.{AllZip}
use Rattle.qm_lists.specs.WorkList.{IsIn}
use Rattle.qm_contents.specs.declared.contents.Contents.{Contents}
use Rattle.qm_contents.specs.declared.contents.Contents.TheVariants.{Solid}
use Rattle.qm_partition.specs.Tree.{Tree}
use Rattle.qm_partition.specs.LeafOfPoint.{leaf_at}
use Rattle.qm_contacts.specs.Portals.{Portal}
use Rattle.qm_segments.specs.Segment.{Segment}
use Rattle.qm_segments.specs.Generic.{IsGeneric}
use Rattle.qm_segments.specs.Clear.{IsClear, LeafHas}
use Rattle.qm_segments.specs.LeafNumber.{IsNumberOf}
use Rattle.qm_segments.specs.Passes.{Passes}

-- The leaf of number n is in sight of a portal: some generic segment stays in leaves of one contents that is not solid,
-- goes from the leaf that the portal leaves into the one that it enters, and ends in the leaf of number n.
pub record IsInSight (tree : Tree) (portal : Portal) (n : ℕ) : Type 0 where
  pub segment : Segment
  pub generic : IsGeneric tree segment
  pub contents : Contents
  pub not_solid : contents ≢ Solid
  pub clear : IsClear (LeafHas tree) tree segment contents
  pub left : ℕ
  pub entered : ℕ
  pub rest : List ℕ
  pub passes : Passes tree segment.from segment.to (left ∷ entered ∷ rest)
  pub from_is : IsNumberOf tree portal.from left
  pub to_is : IsNumberOf tree portal.to entered
  pub last_is : IsNumberOf tree n (leaf_at tree.planes tree.shape segment.to)

-- a row of a portal is sound where it has each leaf in sight of the portal
abbrev pub IsSoundRow : Tree → Portal → List Bool → Type 0
IsSoundRow tree portal row = (n : ℕ) → IsInSight tree portal n → IsIn row n

-- a sound row for each portal, in their order
abbrev pub AreSoundRows : Tree → List Portal → List (List Bool) → Type 0
AreSoundRows tree portals rows = AllZip (IsSoundRow tree) portals rows
