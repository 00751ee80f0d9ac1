-- Rows of a world, read by the place of a portal, and words of them.
use Rattle.std.proofs.Common.{◌≡◌, ℕ, zero, suc, ◌+◌, ◌*◌, ◌<◌, Bool, List, [], ◌∷◌, length, get_or, Some, None, slice_get, refl, sym, subst, ◌∙◌, ap, arith}
use Rattle.std.specs.List.{AllZip}
use Rattle.std.proofs.lemmas.List.{get_or_default}
use Rattle.qm_lists.specs.Word.{IsWord}
use Rattle.qm_contacts.specs.NumberedLeaves.{numbered_leaves}
use Rattle.qm_contacts.specs.World.{World}
use Rattle.qm_segments.specs.Sight.{IsSoundRow}
use Rattle.qm_sight.specs.WordInSight.{IsWordWithin, LacksNoneInSight}
use Rattle.qm_sight.specs.RowsOfWorld.{AreRowsOfWorld, IsSoundAt}

-- ---- pairs at a place

zip_length : {X Y : Type 0} (R : X → Y → Type 0) (xs : List X) (ys : List Y) → AllZip R xs ys → length ys ≡ length xs
zip_length R [] [] zip = refl
zip_length R [] (y ∷ ys) zip = absurd zip
zip_length R (x ∷ xs) [] zip = absurd zip
zip_length R (x ∷ xs) (y ∷ ys) zip = ap suc (zip_length R xs ys zip.1)

zip_at : {X Y : Type 0} (R : X → Y → Type 0) (xs : List X) (ys : List Y) (i : ℕ) (x : X) (d : Y) → AllZip R xs ys → slice_get xs i ≡ Some x → R x (get_or ys i d)
zip_at R [] [] i x d zip e = let never : None ≡ Some x = e in cc
zip_at R [] (y ∷ ys) i x d zip e = absurd zip
zip_at R (z ∷ xs) [] i x d zip e = absurd zip
zip_at R (z ∷ xs) (y ∷ ys) zero x d zip e = let same : Some z ≡ Some x = e in let here : z ≡ x = cc in subst (λ (q : _). R q y) here zip.0
zip_at R (z ∷ xs) (y ∷ ys) (suc i) x d zip e = zip_at R xs ys i x d zip.1 e

-- ---- the row at a place

module _ (world : World) (rows : List (List Bool)) (are : AreRowsOfWorld world rows) where
  pub row_there : (place : ℕ) → place < length world.portals → place < length rows
  row_there place l = let n = zip_length (IsSoundRow world.tree) world.portals rows are.sound in omega arith

  module _ (place : ℕ) (within : place < length world.portals) (row : List Bool) (read : row ≡ get_or rows place row) where
    pub row_is : row ≡ get_or rows place []
    row_is = read ∙ get_or_default rows place row [] (row_there place within)

    pub row_wide : length row ≡ length (numbered_leaves world.tree)
    row_wide = ap length read ∙ are.wide place row (row_there place within)

    pub row_sound : IsSoundAt world place row
    row_sound portal e = subst (IsSoundRow world.tree portal) (sym read) (zip_at (IsSoundRow world.tree) world.portals rows place portal row are.sound e)

-- ---- its words

pub word_within : (row : List Bool) (k word : ℕ) → IsWord row k word → IsWordWithin row k word
word_within row k word is bit l set = sym (is bit l) ∙ set

pub word_lacks_none : (world : World) (place k word : ℕ) (row : List Bool) → IsSoundAt world place row → IsWord row k word → LacksNoneInSight world place k word
word_lacks_none world place k word row sound is portal e bit l sight = is bit l ∙ sound portal e (64 * k + bit) sight
