-- The parts of a portal's line, put one behind the other.
use Rattle.std.proofs.Common.{◌≡◌, ℕ, ◌+◌, ◌*◌, ◌/◌, List, [], ◌∷◌, ◌++◌, length, flat_map, decimal, refl, sym, ap, subst, ◌∙◌, append_assoc, append-nil, inl, inr, arith}
use Rattle.std.proofs.lemmas.Grind.{flat_map-append}
use Rattle.std.proofs.lemmas.List.{length-append}
use Rattle.qm_lists.proofs.Places.{slice_get-push_cases}
use Rattle.qm_contacts.specs.NumberedLeaves.{numbered_leaves}
use Rattle.qm_contacts.specs.Portals.{Portal}
use Rattle.qm_contacts.specs.World.{World}
use Rattle.qm_formats.proofs.ManyBytes.{many_bytes}
use Rattle.qm_listing.specs.declared.listing.PrtPortal.{PrtPortal}
use Rattle.qm_listing.specs.declared.listing.Listing.{Listing}
use Rattle.qm_listing.specs.Numerals.{numeral, literal}
use Rattle.qm_listing.specs.Grammar.{first_line_layout, count_line_layout, points_layout, leaf0_layout, leaf1_layout, corner_layout, portal_layout, listing_layout, listing_text}
use Rattle.qm_listing.specs.WorldListing.{AreLinesOf, IsListingOf}
use Rattle.qm_listing.specs.inner.PutLines.{HasLine, ArePutLines}

-- the bytes of a portal's line, part by part
pub portal_bytes : (leaves : ℕ) (portal : PrtPortal) → (portal_layout leaves).bytes_of portal ≡ (decimal (length portal.corners) ++ 32 ∷ []) ++ ((decimal portal.leaf0 ++ 32 ∷ []) ++ ((decimal portal.leaf1 ++ 32 ∷ []) ++ (flat_map corner_layout.bytes_of portal.corners ++ 10 ∷ [])))
unfolding portal_layout points_layout leaf0_layout leaf1_layout numeral literal
portal_bytes leaves portal =
    ap (λ (corners : List ℕ). (decimal (length portal.corners) ++ 32 ∷ []) ++ ((decimal portal.leaf0 ++ 32 ∷ []) ++ ((decimal portal.leaf1 ++ 32 ∷ []) ++ (corners ++ 10 ∷ [])))) (many_bytes corner_layout 0 portal.corners)

five_parts : (start a b c d e : List ℕ) → ((((start ++ a) ++ b) ++ c) ++ d) ++ e ≡ start ++ (a ++ (b ++ (c ++ (d ++ e))))
five_parts start a b c d e =
    append_assoc (((start ++ a) ++ b) ++ c) d e
    ∙ append_assoc ((start ++ a) ++ b) c (d ++ e)
    ∙ append_assoc (start ++ a) b (c ++ (d ++ e))
    ∙ append_assoc start a (b ++ (c ++ (d ++ e)))

pub line_put :
    (start one two three four five : List ℕ) (portal : PrtPortal) (points : ℕ) → points ≡ length portal.corners →
    one ≡ start ++ (decimal points ++ 32 ∷ []) →
    two ≡ one ++ (decimal portal.leaf0 ++ 32 ∷ []) →
    three ≡ two ++ (decimal portal.leaf1 ++ 32 ∷ []) →
    four ≡ three ++ flat_map corner_layout.bytes_of portal.corners →
    five ≡ four ++ 10 ∷ [] →
    five ≡ start ++ (portal_layout 0).bytes_of portal
line_put start one two three four five portal points many first second third fourth fifth =
    let a = decimal points ++ 32 ∷ [] in
    let b = decimal portal.leaf0 ++ 32 ∷ [] in
    let c = decimal portal.leaf1 ++ 32 ∷ [] in
    let d = flat_map corner_layout.bytes_of portal.corners in
    let e = 10 ∷ [] in
    fifth
    ∙ ap (λ (xs : List ℕ). xs ++ e) fourth
    ∙ ap (λ (xs : List ℕ). (xs ++ d) ++ e) third
    ∙ ap (λ (xs : List ℕ). ((xs ++ c) ++ d) ++ e) second
    ∙ ap (λ (xs : List ℕ). (((xs ++ b) ++ c) ++ d) ++ e) first
    ∙ five_parts start a b c d e
    ∙ ap (λ (n : ℕ). start ++ ((decimal n ++ 32 ∷ []) ++ (b ++ (c ++ (d ++ e))))) many
    ∙ ap (λ (xs : List ℕ). start ++ xs) (sym (portal_bytes 0 portal))

-- ---- lines one behind the other

no_lines : (portals : List Portal) → AreLinesOf portals []
no_lines portals = record { each = λ j line none. absurd (cc) }

one_line : (portals : List Portal) (lines : List PrtPortal) (line : PrtPortal) → AreLinesOf portals lines → HasLine portals (2 * length lines) line → AreLinesOf portals (lines ++ line ∷ [])
one_line portals lines line so_far next =
    record {
      each = λ j found there. elim (slice_get-push_cases lines line found j there) [
        | inl old ↦ so_far.each j found old
        | inr last ↦ subst (λ (n : ℕ). HasLine portals (2 * n) found) (sym last.0) (subst (λ (l : PrtPortal). HasLine portals (2 * length lines) l) last.1 next)
      ];
    }

pub none_put : (portals : List Portal) (text : List ℕ) → ArePutLines portals 0 text text
none_put portals text = ([], record { lines_are = no_lines portals; count = refl; bytes = sym (append-nil text) })

pub one_put : (portals : List Portal) (j p : ℕ) (start text more : List ℕ) (line : PrtPortal) → ArePutLines portals j start text → HasLine portals p line → p ≡ 2 * j → more ≡ text ++ (portal_layout 0).bytes_of line → ArePutLines portals (j + 1) start more
one_put portals j p start text more line so_far next place put =
    let lines = so_far.0 in
    let are = so_far.1 in
    let f = (portal_layout 0).bytes_of in
    let here : p ≡ 2 * length lines = omega (arith, place, are.count) in (
      lines ++ line ∷ [],
      record {
        lines_are = one_line portals lines line are.lines_are (subst (λ (n : ℕ). HasLine portals n line) here next);
        count = length-append lines (line ∷ []) ∙ omega (arith, are.count);
        bytes =
            put
            ∙ ap (λ (xs : List ℕ). xs ++ f line) are.bytes
            ∙ append_assoc start (flat_map f lines) (f line)
            ∙ ap (λ (xs : List ℕ). start ++ (flat_map f lines ++ xs)) (sym (append-nil (f line)))
            ∙ ap (λ (xs : List ℕ). start ++ xs) (sym (flat_map-append f lines (line ∷ [])));
      },
    )

-- ---- the whole text

same_bytes : (leaves : ℕ) (portals : List PrtPortal) → flat_map (portal_layout leaves).bytes_of portals ≡ flat_map (portal_layout 0).bytes_of portals
unfolding portal_layout leaf0_layout leaf1_layout numeral literal
same_bytes leaves portals = refl

listing_bytes : (listing : Listing) → listing_text listing ≡ first_line_layout.bytes_of tt ++ (count_line_layout.bytes_of listing.leaves ++ (count_line_layout.bytes_of (length listing.portals) ++ flat_map (portal_layout 0).bytes_of listing.portals))
unfolding listing_text listing_layout
listing_bytes listing =
    ap (λ (lines : List ℕ). first_line_layout.bytes_of tt ++ (count_line_layout.bytes_of listing.leaves ++ (count_line_layout.bytes_of (length listing.portals) ++ lines)))
    (many_bytes (portal_layout listing.leaves) 0 listing.portals ∙ same_bytes listing.leaves listing.portals)

pub text_put :
    (world : World) (leaves count : ℕ) (one two three four : List ℕ) →
    leaves ≡ length (numbered_leaves world.tree) → count ≡ length world.portals / 2 →
    one ≡ first_line_layout.bytes_of tt → two ≡ one ++ count_line_layout.bytes_of leaves → three ≡ two ++ count_line_layout.bytes_of count →
    ArePutLines world.portals count three four →
    (listing : Listing) × IsListingOf world listing × (four ≡ listing_text listing)
text_put world leaves count one two three four leaves_are count_is first second third put =
    let lines = put.0 in
    let are = put.1 in
    let a = first_line_layout.bytes_of tt in
    let b = count_line_layout.bytes_of leaves in
    let c = count_line_layout.bytes_of count in
    let d = flat_map (portal_layout 0).bytes_of lines in
    let listing : Listing = record { leaves = leaves; portals = lines } in (
      listing,
      record { leaves = leaves_are; count = are.count ∙ count_is; lines = are.lines_are },
      are.bytes
          ∙ ap (λ (xs : List ℕ). xs ++ d) third
          ∙ ap (λ (xs : List ℕ). (xs ++ c) ++ d) second
          ∙ ap (λ (xs : List ℕ). ((xs ++ b) ++ c) ++ d) first
          ∙ append_assoc (a ++ b) c d
          ∙ append_assoc a b (c ++ d)
          ∙ ap (λ (n : ℕ). a ++ (b ++ (count_line_layout.bytes_of n ++ d))) (sym are.count)
          ∙ sym (listing_bytes listing),
    )
