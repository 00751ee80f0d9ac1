-- A sound row is put in the place of another.
use Rattle.std.proofs.Common.{◌≡◌, ℕ, zero, suc, Bool, List, [], ◌∷◌, length, Some, slice_get, set, refl}
use Rattle.std.specs.List.{AllZip}
use Rattle.std.proofs.lemmas.List.Elements.{All-set}
use Rattle.qm_contacts.specs.NumberedLeaves.{numbered_leaves}
use Rattle.qm_contacts.specs.World.{World}
use Rattle.qm_segments.specs.Sight.{IsSoundRow}
use Rattle.qm_sight.specs.RowsOfWorld.{AreRowsOfWorld, IsSoundAt}

zip_set : {X Y : Type 0} (R : X → Y → Type 0) (xs : List X) (ys : List Y) (i : ℕ) (y : Y) → AllZip R xs ys → ((x : X) → slice_get xs i ≡ Some x → R x y) → AllZip R xs (set ys i y)
zip_set R [] [] i y zip is = tt
zip_set R [] (z ∷ ys) i y zip is = absurd zip
zip_set R (x ∷ xs) [] i y zip is = absurd zip
zip_set R (x ∷ xs) (z ∷ ys) zero y zip is = (is x refl, zip.1)
zip_set R (x ∷ xs) (z ∷ ys) (suc i) y zip is = (zip.0, zip_set R xs ys i y zip.1 is)

pub rows_replaced : (world : World) (rows : List (List Bool)) (place : ℕ) (row : List Bool) → AreRowsOfWorld world rows → length row ≡ length (numbered_leaves world.tree) → IsSoundAt world place row → AreRowsOfWorld world (set rows place row)
rows_replaced world rows place row are wide sound = record {
  sound = zip_set (IsSoundRow world.tree) world.portals rows place row are.sound sound;
  wide = All-set (λ row. length row ≡ length (numbered_leaves world.tree)) rows place row wide are.wide;
}
