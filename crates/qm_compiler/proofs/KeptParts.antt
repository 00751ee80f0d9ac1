-- Brushes that are kept give what the surface is cut from.
use Rattle.std.proofs.Common.{◌≡◌, Bool, true, false, Option, refl, sym, ap, subst, ◌∙◌}
use Rattle.std.specs.Prelude.{Some, None, IfSome, is_some, if◌then◌else◌}
use Rattle.qm_mapfile.specs.declared.entity.MapFile.{MapFile}
use Rattle.qm_partition.specs.Tree.{Tree}
use Rattle.qm_contacts.specs.Contacts.{Contacts, AreContacts}
use Rattle.qm_sections.specs.declared.surface_parts.SurfaceParts.{SurfaceParts}
use Rattle.qm_sections.specs.PartsOfMap.{AreSurfaceParts}
use Rattle.qm_compiler.specs.declared.building.Brushes.{Brushes}
use Rattle.qm_compiler.specs.inner.KeptBrushes.{AreBrushesOf, parts_with}

pub some_where : (keep : Bool) (brushes : Brushes) (kept : Option Brushes) → kept ≡ (if keep then Some brushes else None) → is_some kept ≡ keep
some_where true brushes kept is = ap is_some is
some_where false brushes kept is = ap is_some is

pub kept_are : (map : MapFile) (keep : Bool) (brushes : Brushes) (kept : Option Brushes) → kept ≡ (if keep then Some brushes else None) → AreBrushesOf map brushes → IfSome kept (AreBrushesOf map)
kept_are map true brushes kept is are = subst (λ (o : Option Brushes). IfSome o (AreBrushesOf map)) (sym is) are
kept_are map false brushes kept is are = subst (λ (o : Option Brushes). IfSome o (AreBrushesOf map)) (sym is) tt

pub some_parts : (contacts : Contacts) (kept : Option Brushes) → is_some (parts_with contacts kept) ≡ is_some kept
some_parts contacts (Some brushes) = refl
some_parts contacts None = refl

pub parts_are : (map : MapFile) (tree : Tree) (contacts : Contacts) → AreContacts tree contacts → (kept : Option Brushes) → IfSome kept (AreBrushesOf map) → IfSome (parts_with contacts kept) (AreSurfaceParts map tree)
parts_are map tree contacts are (Some brushes) kept = record { entered = kept.entered; solids = kept.solids; is_book = kept.is_book; are_contacts = are }
parts_are map tree contacts are None kept = tt
