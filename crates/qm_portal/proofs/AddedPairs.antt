-- The touching pairs at a node, one leaf in front after another.
use Rattle.std.proofs.Common.{◌≡◌, ◌≤◌, ℕ, ◌-◌, List, length, take, [], ◌∷◌, ◌++◌, map, sym, ap, ◌∙◌, subst, arith}
use Rattle.std.specs.List.{slice_range}
use Rattle.std.proofs.lemmas.List.{append_assoc, append-nil, take_all}
use Rattle.qm_space.specs.Plane.{Plane}
use Rattle.qm_partition.specs.declared.node.Child.{Child}
use Rattle.qm_partition.specs.Tree.{Tree}
use Rattle.qm_contacts.specs.Meeting.{LeafBelow, leaves_below}
use Rattle.qm_contacts.specs.Touching.{Touching}
use Rattle.qm_contacts.specs.inner.Pieces.{LeafPiece, ArePieces, touching_at, ArePiecesOfEach, no_rows, row}
use Rattle.qm_portal.specs.inner.Pushes.{HasPieces}
use Rattle.qm_portal.specs.inner.Walks.{IsRowAdded, AreRowsAdded}

-- the row of one more leaf
rows_more : (planes : List Plane) (n : ℕ) (backs : List LeafBelow) (fronts : List LeafPiece) (front : LeafPiece) (touchings : List Touching) (pieces : List LeafPiece) → ArePiecesOfEach planes n backs fronts touchings → ArePieces planes front.winding backs pieces → ArePiecesOfEach planes n backs (fronts ++ front ∷ []) (touchings ++ map (touching_at n front.leaf) pieces)
rows_more planes n backs fronts front touchings pieces no_rows found = subst (ArePiecesOfEach planes n backs (front ∷ [])) (append-nil (map (touching_at n front.leaf) pieces)) (row found no_rows)
rows_more planes n backs fronts front touchings pieces (row {front = first} {pieces = its} {fronts = others} {touchings = rest} found rows) last =
    subst (ArePiecesOfEach planes n backs (first ∷ (others ++ front ∷ []))) (sym (append_assoc (map (touching_at n first.leaf) its) rest (map (touching_at n front.leaf) pieces)))
    (row found (rows_more planes n backs others front rest pieces rows last))

pub no_rows_added : (tree : Tree) (n : ℕ) (back : Child) (pairs : List Touching) → AreRowsAdded tree n back [] pairs pairs
no_rows_added tree n back pairs = record { own = []; added = sym (append-nil pairs); rows = λ part m k stands. no_rows }

pub one_row_more : (tree : Tree) (n : ℕ) (back : Child) (fronts : List LeafPiece) (front : LeafPiece) (old middle new : List Touching) → AreRowsAdded tree n back fronts old middle → IsRowAdded tree n back front middle new → AreRowsAdded tree n back (fronts ++ front ∷ []) old new
one_row_more tree n back fronts front old middle new rows last = record {
  own = rows.own ++ map (touching_at n front.leaf) last.pieces;
  added = last.added ∙ ap (λ ts. ts ++ map (touching_at n front.leaf) last.pieces) rows.added ∙ append_assoc old rows.own (map (touching_at n front.leaf) last.pieces);
  rows = λ part m k stands. rows_more tree.planes n (leaves_below part k) fronts front rows.own last.pieces (rows.rows part m k stands) (last.have part m k stands);
}

-- a piece is moved to the pairs
pub moved_more : (f : LeafPiece → Touching) (pairs new all : List Touching) (items rest : List LeafPiece) (piece : LeafPiece) → new ≡ pairs ++ f piece ∷ [] → items ≡ piece ∷ rest → pairs ++ map f items ≡ all → new ++ map f rest ≡ all
moved_more f pairs new all items rest piece new_is items_are is =
    ap (λ ts. ts ++ map f rest) new_is ∙ append_assoc pairs (f piece ∷ []) (map f rest) ∙ ap (λ ps. pairs ++ map f ps) (sym items_are) ∙ is

-- all are moved
pub moved_all : (f : LeafPiece → Touching) (pairs old : List Touching) (items left : List LeafPiece) → left ≡ [] → pairs ++ map f left ≡ old ++ map f items → pairs ≡ old ++ map f items
moved_all f pairs old items left none is = sym (append-nil pairs) ∙ ap (λ ps. pairs ++ map f ps) (sym none) ∙ is

pub row_added : (tree : Tree) (n : ℕ) (back : Child) (front : LeafPiece) (pieces : List LeafPiece) (old new : List Touching) → new ≡ old ++ map (touching_at n front.leaf) pieces → HasPieces tree back front.winding pieces → IsRowAdded tree n back front old new
row_added tree n back front pieces old new added have = record { pieces = pieces; added = added; have = have }

-- all of a list
pub whole_range : {X : Type 0} (xs : List X) (n : ℕ) → length xs ≤ n → slice_range xs 0 n ≡ xs
whole_range xs n enough = let same : n - 0 ≡ n = omega arith in ap (λ m. take m xs) same ∙ take_all n xs enough
