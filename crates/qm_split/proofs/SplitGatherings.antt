-- What is known of a side of a cell while its contenders are cut one after another.
use Rattle.std.proofs.Common.{◌≡◌, ⊎_elim, ◌+◌, ◌<◌, ◌≤◌, Option, List, [], ◌∷◌, ◌++◌, map, All, sym, subst, arith}
use Rattle.std.proofs.lemmas.List.{map-append}
use Rattle.std.proofs.lemmas.List.Elements.{All-contains, Contains-push, Contains-push_cases}
use Rattle.qm_lists.proofs.Elements.{All-first_part, Contains-nil}
use Rattle.qm_space.specs.Plane.{Plane}
use Rattle.qm_convex.specs.Winding.{Winding}
use Rattle.qm_contents.specs.declared.contents.Contents.{Contents}
use Rattle.qm_solids.specs.Solid.{Solid}
use Rattle.qm_split.specs.declared.contender.Contender.{Contender}
use Rattle.qm_split.specs.declared.contender.Part.{Part}
use Rattle.qm_split.specs.declared.gathering.Gathering.{Gathering}
use Rattle.qm_split.specs.Pieces.{solid_of_contender, IsContender}
use Rattle.qm_split.specs.CellFragments.{pieces_of, IsAtMostKnown, IsAccounted, IsKeptContender}
use Rattle.qm_split.specs.inner.Parts.{IsWindingInCell, IsPartIn, part_count, HasPieceIn, IsShortened}
use Rattle.qm_split.specs.inner.Gathered.{IsGathered, IsRaisedBy, HasFewer}
use Rattle.qm_split.proofs.Gatherings.{pieces_of-push}

-- what is gathered in front of the plane g of a cell that the plane h parts
abbrev pub IsGatheredSide : Option Contents → Plane → Plane → Winding → List Contender → Gathering → Type 0
IsGatheredSide before h g w done gathering =
    (book cell : List Plane) → All (IsContender book cell) done → IsWindingInCell cell h w → IsGathered book (cell ++ g ∷ []) before (map solid_of_contender done) gathering

-- what one contender is there
abbrev pub IsPartOfSide : Plane → Plane → Winding → Contender → Part → Type 0
IsPartOfSide h g w contender part =
    (book cell : List Plane) → IsContender book cell contender → IsWindingInCell cell h w → IsPartIn book (cell ++ g ∷ []) (solid_of_contender contender) part

abbrev pub IsAddedTo : Gathering → Part → Gathering → Type 0
IsAddedTo old part new =
    (book cell : List Plane) (before : Option Contents) (done : List Solid) (solid : Solid) →
    IsGathered book cell before done old → IsPartIn book cell solid part → IsGathered book cell before (done ++ solid ∷ []) new

module _ (before : Option Contents) (h g : Plane) (w : Winding) where
  pub side_begins : (gathering : Gathering) → ((book cell : List Plane) → IsGathered book cell before [] gathering) → IsGatheredSide before h g w [] gathering
  side_begins gathering are book cell all section = are book (cell ++ g ∷ [])

  pub side_more : (done : List Contender) (contender : Contender) (part : Part) (old new : Gathering) → IsGatheredSide before h g w done old → IsPartOfSide h g w contender part → IsAddedTo old part new →
      IsGatheredSide before h g w (done ++ contender ∷ []) new
  side_more done contender part old new are is added book cell all section =
      subst (λ (ss : List Solid). IsGathered book (cell ++ g ∷ []) before ss new) (sym (map-append solid_of_contender done (contender ∷ [])))
      (added book (cell ++ g ∷ []) before (map solid_of_contender done) (solid_of_contender contender)
      (are book cell (All-first_part (IsContender book cell) done (contender ∷ []) all) section)
      (is book cell (All-contains (IsContender book cell) (done ++ contender ∷ []) contender all (Contains-push done contender)) section))

-- ---- what is known does not depend on room

-- what is known, and the contenders, are the same
abbrev pub HoldsTheSame : Gathering → Gathering → Type 0
HoldsTheSame old new = (new.strongest ≡ old.strongest) × (new.contenders.items ≡ old.contenders.items)

side_same : (before : Option Contents) (h g : Plane) (w : Winding) (done : List Contender) (old new : Gathering) → HoldsTheSame old new →
    IsGatheredSide before h g w done old → IsGatheredSide before h g w done new
side_same before h g w done old new (strongest, items) are book cell all section = let known = are book cell all section in record {
  no_weaker = λ contents before_known. subst (λ (s : Option Contents). IsAtMostKnown s contents) (sym strongest) (known.no_weaker contents before_known);
  given = subst (IsRaisedBy (map solid_of_contender done) (cell ++ g ∷ []) before) (sym strongest) known.given;
  kept = subst (λ (s : Option Contents). All (IsKeptContender (map solid_of_contender done) book (cell ++ g ∷ []) s) new.contenders.items) (sym strongest)
      (subst (All (IsKeptContender (map solid_of_contender done) book (cell ++ g ∷ []) old.strongest)) (sym items) known.kept);
  accounted = λ solid listed full. subst (λ (s : Option Contents). IsAccounted (cell ++ g ∷ []) s new.contenders.items solid) (sym strongest)
      (subst (λ (qs : List Contender). IsAccounted (cell ++ g ∷ []) old.strongest qs solid) (sym items) (known.accounted solid listed full));
}

pub side_within : (before : Option Contents) (h g : Plane) (w : Winding) (done whole : List Contender) (old new : Gathering) → HoldsTheSame old new → done ≡ whole →
    IsGatheredSide before h g w done old → IsGatheredSide before h g w whole new
side_within before h g w done whole old new same all are = subst (λ (qs : List Contender). IsGatheredSide before h g w qs new) all (side_same before h g w done old new same are)

-- ---- how many pieces

abbrev pub HasFewerOfSide : Plane → List Contender → Gathering → Type 0
HasFewerOfSide h done gathering = (book cell : List Plane) → All (IsContender book cell) done → HasFewer done h gathering

pub fewer_begins : (h : Plane) (gathering : Gathering) → pieces_of gathering.contenders.items ≡ 0 → HasFewerOfSide h [] gathering
fewer_begins h gathering none book cell all = record { no_more = omega arith; fewer = λ has. absurd (Contains-nil has.contender has.listed) }

fewer_then : (done : List Contender) (h : Plane) (contender : Contender) (part : Part) (old new : Gathering) → HasFewer done h old → IsShortened contender h part →
    pieces_of new.contenders.items ≤ pieces_of old.contenders.items + part_count part → HasFewer (done ++ contender ∷ []) h new
fewer_then done h contender part old new are short count = record {
  no_more = let p = pieces_of-push done contender in let a = are.no_more in let s = short.no_more in omega arith;
  fewer = λ has. let p = pieces_of-push done contender in let a = are.no_more in let s = short.no_more in ⊎_elim
      (λ earlier. let f = are.fewer (record { contender = has.contender; listed = earlier; piece = has.piece }) in omega arith)
      (λ same. let f = short.fewer (subst (λ (q : Contender). HasPieceIn q.body.value.pieces.items h) (sym same) has.piece) in omega arith)
      (Contains-push_cases done contender has.contender has.listed);
}

pub fewer_more : (done : List Contender) (h : Plane) (contender : Contender) (part : Part) (old new : Gathering) → HasFewerOfSide h done old → ((book cell : List Plane) → IsContender book cell contender → IsShortened contender h part) →
    pieces_of new.contenders.items ≤ pieces_of old.contenders.items + part_count part → HasFewerOfSide h (done ++ contender ∷ []) new
fewer_more done h contender part old new are short count book cell all =
    fewer_then done h contender part old new
    (are book cell (All-first_part (IsContender book cell) done (contender ∷ []) all))
    (short book cell (All-contains (IsContender book cell) (done ++ contender ∷ []) contender all (Contains-push done contender)))
    count

pub fewer_within : (h : Plane) (done whole : List Contender) (old new : Gathering) → HoldsTheSame old new → done ≡ whole → HasFewerOfSide h done old → HasFewerOfSide h whole new
fewer_within h done whole old new (strongest, items) all are = subst (λ (qs : List Contender). HasFewerOfSide h qs new) all (λ book cell contend. let known = are book cell contend in record {
  no_more = subst (λ (qs : List Contender). pieces_of qs ≤ pieces_of done) (sym items) known.no_more;
  fewer = λ has. subst (λ (qs : List Contender). pieces_of qs < pieces_of done) (sym items) (known.fewer has);
})
