-- A whole text is read exactly where it is that of a listing.
use Rattle.std.proofs.Common.{◌≡◌, ◌≤◌, ℕ, List, length, refl, sym, ◌∙◌}
use Rattle.std.specs.Prelude.{IsTrue}
use Rattle.qm_formats.specs.Fields.{AreBytes}
use Rattle.qm_formats.specs.Layout.{got}
use Rattle.qm_formats.proofs.ReadToEnd.{all_found, all_again, read_ends}
use Rattle.qm_listing.specs.declared.listing.Listing.{Listing}
use Rattle.qm_listing.specs.Grammar.{trailing, listing_layout, listing_text, can_stand, read_listing}
use Rattle.qm_listing.proofs.ExactListings.{listing_exact}

pub read_listing_found : (text : List ℕ) (listing : Listing) (next : ℕ) → AreBytes text → read_listing text ≡ got listing next → IsTrue (can_stand listing) × (text ≡ listing_text listing)
unfolding read_listing can_stand listing_text
read_listing_found text listing next are is =
    let all = all_found listing_layout listing_exact trailing text listing next are is in
    (all.right, all.bytes)

pub read_listing_again : (text : List ℕ) (listing : Listing) → IsTrue (can_stand listing) → text ≡ listing_text listing → read_listing text ≡ got listing (length text)
unfolding read_listing can_stand listing_text
read_listing_again text listing right bytes = all_again listing_layout listing_exact trailing text listing right bytes

-- a text is read, where what stands at its start is read and ends where it does
pub read_listing_ends : (text : List ℕ) (listing : Listing) (next : ℕ) → AreBytes text → listing_layout.read text 0 ≡ got listing next → length text ≤ next → read_listing text ≡ got listing (length text)
unfolding read_listing
read_listing_ends text listing next are is past = read_ends listing_layout listing_exact trailing text listing next are is past

-- no two listings have the same text
pub same_listing : (listing other : Listing) → IsTrue (can_stand listing) → IsTrue (can_stand other) → listing_text listing ≡ listing_text other → listing ≡ other
same_listing listing other right right_other same =
    let one = read_listing_again (listing_text listing) listing right refl in
    let two = read_listing_again (listing_text listing) other right_other same in
    let e = sym one ∙ two in
    cc
