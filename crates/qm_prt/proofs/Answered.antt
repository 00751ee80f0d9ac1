-- What an answer says of the text, where it is the one that reading gives.
use Rattle.std.proofs.Common.{◌≡◌, ℕ, List, length, Result, Ok, Err, refl, sym, ◌∙◌}
use Rattle.std.specs.Prelude.{IfOk, IsTrue, MatchResult}
use Rattle.qm_formats.specs.Layout.{Decoded, got}
use Rattle.qm_formats.specs.Fields.{AreBytes}
use Rattle.qm_listing.specs.declared.listing.Listing.{Listing}
use Rattle.qm_listing.specs.Grammar.{ListingFaultKind, listing_text, can_stand, read_listing}
use Rattle.qm_listing.proofs.WholeListings.{read_listing_found, read_listing_again}
use Rattle.qm_prt.specs.declared.prt_fault.PrtFault.{PrtFault}
use Rattle.qm_prt.specs.declared.prt_fault.PrtFault.TheVariants as faults
use Rattle.qm_prt.specs.Answers.{IsFaultOfListing, AnswersListing}

-- a fault but want of memory is none where a listing is read
no_fault : (fault : PrtFault) (answer : Decoded ListingFaultKind Listing) (listing : Listing) (next : ℕ) → answer ≡ got listing next → IsFaultOfListing fault answer → fault ≡ faults.Memory
no_fault (faults.Header offset) answer listing next is fault = absurd (let e = sym is ∙ fault in cc)
no_fault (faults.Number offset) answer listing next is fault = absurd (let e = sym is ∙ fault in cc)
no_fault (faults.Shape offset) answer listing next is fault = absurd (let e = sym is ∙ fault in cc)
no_fault (faults.Trailing offset) answer listing next is fault = absurd (let e = sym is ∙ fault in cc)
no_fault faults.Memory answer listing next is fault = refl

module _ (text : List ℕ) where
  pub answer_found : (answer : Result Listing PrtFault) → AreBytes text → AnswersListing (λ listing. listing) (λ _. length text) answer (read_listing text) → IfOk answer (λ listing. IsTrue (can_stand listing) × (text ≡ listing_text listing))
  answer_found (Ok listing) are is = read_listing_found text listing (length text) are is
  answer_found (Err fault) are is = tt

  pub answer_only : (answer : Result Listing PrtFault) → AnswersListing (λ listing. listing) (λ _. length text) answer (read_listing text) → (listing : Listing) → IsTrue (can_stand listing) → text ≡ listing_text listing → MatchResult answer (λ found. found ≡ listing) (λ fault. fault ≡ faults.Memory)
  answer_only (Ok found) is listing right written = let e = sym is ∙ read_listing_again text listing right written in cc
  answer_only (Err fault) is listing right written = no_fault fault (read_listing text) listing (length text) (read_listing_again text listing right written) is
