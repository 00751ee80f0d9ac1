-- The brushes of a map in the book of a tree cut the surface of the map.
use Rattle.std.proofs.Common.{◌≡◌, ◌∙◌, ◌<◌, ℕ, List, get_or, inl, inr, sym, subst}
use Rattle.std.specs.Prelude.{IsTrue, ◌⊎◌}
use Rattle.std.specs.List.{AllZip}
use Rattle.std.proofs.lemmas.List.Elements.{AllZip-get_or, Contains-get_or, length_all_zip}
use Rattle.qm_space.specs.Point.{Point}
use Rattle.qm_mapfile.specs.declared.entity.MapFile.{MapFile}
use Rattle.qm_drawn.specs.Solids.{drawn_solids}
use Rattle.qm_contents.specs.declared.contents.Contents.{Contents}
use Rattle.qm_contents.specs.Precedence.{IsAtMost}
use Rattle.qm_solids.specs.Solid.{Solid}
use Rattle.qm_solids.specs.Holding.{Holds}
use Rattle.qm_solids.specs.Strongest.{IsOneThat, AreGiven}
use Rattle.qm_solids.specs.Contents.{HasContents}
use Rattle.qm_solids.specs.Alike.{IsAlike}
use Rattle.qm_solids.specs.InBook.{BookSolid, solids_in, IsBookOf}
use Rattle.qm_solids.proofs.AlikeSolids.{holds_there, holds_back}
use Rattle.qm_partition.specs.LeafOfPoint.{leaf_record_at}
use Rattle.qm_partition.specs.Tree.{Tree}
use Rattle.qm_solid_tree.specs.GivesContents.{GivesContentsOrIsFilled}
use Rattle.qm_contacts.specs.Contacts.{Contacts, AreContacts}
use Rattle.qm_surface.specs.Surface.{FacePiece, AreFacePieces}
use Rattle.qm_surface.specs.Covered.{CoverBoundary}
use Rattle.qm_face_sections.specs.MapFaces.{IsSurfaceOf}

-- ---- solids that are alike, place by place, define the same contents

module _ (solids others : List Solid) (alike : AllZip IsAlike solids others) (x : Point) where
  one_there : (solid : Solid) → IsOneThat (λ s. Holds s x) solids solid → (other : Solid) × IsOneThat (λ s. Holds s x) others other × (solid.contents ≡ other.contents)
  one_there solid one =
      let k = one.listed.0 in
      let pair = subst (λ (s : Solid). IsAlike s (get_or others k solid)) one.listed.2 (AllZip-get_or IsAlike solids others k solid solid alike one.listed.1) in
      let listed = Contains-get_or others k solid (subst (λ (n : ℕ). k < n) (length_all_zip IsAlike solids others alike) one.listed.1) in
      (get_or others k solid, record { listed = listed; has = holds_there solid (get_or others k solid) pair x one.has }, pair.same_contents)

  one_back : (other : Solid) → IsOneThat (λ s. Holds s x) others other → (solid : Solid) × IsOneThat (λ s. Holds s x) solids solid × (solid.contents ≡ other.contents)
  one_back other one =
      let k = one.listed.0 in
      let within = subst (λ (n : ℕ). k < n) (sym (length_all_zip IsAlike solids others alike)) one.listed.1 in
      let pair = subst (λ (o : Solid). IsAlike (get_or solids k other) o) one.listed.2 (AllZip-get_or IsAlike solids others k other other alike within) in
      (get_or solids k other, record { listed = Contains-get_or solids k other within; has = holds_back (get_or solids k other) other pair x one.has }, pair.same_contents)

  given_there : (contents : Contents) → AreGiven (λ s. Holds s x) solids contents → AreGiven (λ s. Holds s x) others contents
  given_there contents (inl empty) = inl empty
  given_there contents (inr by) = let at = one_there by.0 by.1 in inr (at.0, at.1, sym at.2 ∙ by.2)

  same_contents_there : (contents : Contents) → HasContents solids x contents → HasContents others x contents
  same_contents_there contents has = record {
    given = given_there contents has.given;
    strongest = λ other one. let at = one_back other one in subst (λ (c : Contents). IsAtMost c contents) at.2 (has.strongest at.0 at.1);
  }

module _ (map : MapFile) (tree : Tree) (solids : List BookSolid) (alike : AllZip IsAlike (drawn_solids map) (solids_in tree.planes solids)) where
  filled_or_there : (x : Point) → IsTrue (leaf_record_at tree.planes tree.shape x).filled ⊎ HasContents (drawn_solids map) x (leaf_record_at tree.planes tree.shape x).contents →
      IsTrue (leaf_record_at tree.planes tree.shape x).filled ⊎ HasContents (solids_in tree.planes solids) x (leaf_record_at tree.planes tree.shape x).contents
  filled_or_there x (inl filled) = inl filled
  filled_or_there x (inr has) = inr (same_contents_there (drawn_solids map) (solids_in tree.planes solids) alike x (leaf_record_at tree.planes tree.shape x).contents has)

  -- a tree that leads points to the contents of the map's brushes leads them to those of the brushes in its book
  pub gives_in_book : GivesContentsOrIsFilled tree (drawn_solids map) → GivesContentsOrIsFilled tree (solids_in tree.planes solids)
  gives_in_book gives = record {
    named = gives.named;
    normals = gives.normals;
    gives = λ x in_cube off. filled_or_there x (gives.gives x in_cube off);
  }

  -- the pieces into which they cut the contacts of the tree are the surface
  pub surface_of_map : IsBookOf tree.planes solids → (contacts : Contacts) → AreContacts tree contacts → (pieces : List FacePiece) → AreFacePieces tree solids contacts.touchings pieces → CoverBoundary tree solids pieces → IsSurfaceOf map tree pieces
  surface_of_map is_book contacts are pieces are_pieces cover = record {
    solids = solids;
    are_brushes = record { alike = alike; is_book = is_book };
    touchings = contacts.touchings;
    are_touchings = are.touching;
    are_pieces = are_pieces;
    cover = cover;
  }
