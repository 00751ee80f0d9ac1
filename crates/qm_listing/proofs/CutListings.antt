-- No listing's text begins with that of another listing.
use Rattle.std.proofs.Common.{◌≡◌, ◌<◌, ℕ, List, ◌++◌, length, refl, sym, ◌∙◌, ap, arith}
use Rattle.std.specs.Prelude.{IsTrue}
use Rattle.std.proofs.lemmas.List.{length-append, drop_at}
use Rattle.qm_formats.specs.Layout.{got, Layout}
use Rattle.qm_formats.specs.Exact.{StandsAt, IsExact}
use Rattle.qm_formats.proofs.ReadToEnd.{read_own}
use Rattle.qm_listing.specs.declared.listing.Listing.{Listing}
use Rattle.qm_listing.specs.Grammar.{listing_layout, listing_text, can_stand, read_listing}
use Rattle.qm_listing.proofs.ExactListings.{listing_exact}
use Rattle.qm_listing.proofs.ListingBytes.{first_bytes_are}
use Rattle.qm_listing.proofs.WholeListings.{read_listing_found}

module _ {F X : Type 0} (layout : Layout F X) (exact : IsExact layout) where
  -- what stands at the start of a text is read there, whatever stands behind it
  read_before : (x : X) (front behind : List ℕ) → IsTrue (layout.right x) → front ≡ layout.bytes_of x → layout.read (front ++ behind) 0 ≡ got x (length front)
  read_before x front behind right bytes =
      let stands : StandsAt (front ++ behind) 0 (layout.bytes_of x) (length front) = record {
        stands = ap (λ (xs : List ℕ). xs ++ behind) bytes ∙ ap (λ (xs : List ℕ). layout.bytes_of x ++ xs) (sym (drop_at front behind (length front) refl));
        ends = ap length bytes ∙ omega arith;
        within = omega (arith, length-append front behind);
      } in
      exact.again (front ++ behind) 0 x (length front) (record { right = right; stands = stands })

  -- the bytes of a value do not begin with those of another one
  not_before : (x y : X) (front behind : List ℕ) → IsTrue (layout.right x) → IsTrue (layout.right y) → front ++ behind ≡ layout.bytes_of x → front ≡ layout.bytes_of y → 0 < length behind → ⊥
  not_before x y front behind right right_other whole part some =
      let all = read_own layout exact (front ++ behind) x right whole in
      let less = read_before y front behind right_other part in
      let both : got x (length (front ++ behind)) ≡ got y (length front) = sym all ∙ less in
      let same : length (front ++ behind) ≡ length front = cc in
      omega (arith, same, length-append front behind, some)

-- of the text of a listing only some of the first bytes are there: they are no listing
pub listing_cut_off : (listing : Listing) (front behind : List ℕ) → IsTrue (can_stand listing) → listing_text listing ≡ front ++ behind → 0 < length behind → (found : Listing) (end : ℕ) → read_listing front ≡ got found end → ⊥
unfolding can_stand listing_text
listing_cut_off listing front behind right whole some found end is =
    let read = read_listing_found front found end (first_bytes_are listing front behind right whole) is in
    not_before listing_layout listing_exact listing found front behind right read.0 (sym whole) read.1 some
