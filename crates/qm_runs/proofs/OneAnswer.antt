-- What is read of a row of a width is fixed by what is said of the answer.
use Rattle.std.proofs.Common.{◌≡◌, ◌<◌, ◌≤◌, ℕ, zero, suc, ◌+◌, false, List, [], ◌∷◌, ◌++◌, length, take, drop, replicate, Result, Ok, Err, refl, sym, ap, subst, ◌∙◌, append_assoc, arith, inl, inr}
use Rattle.std.proofs.lemmas.Bool.{cases_lt, cases_order}
use Rattle.std.proofs.lemmas.List.{append-nil, length-append, length-take-le, take-append-drop}
use Rattle.qm_lists.specs.Spelling.{SpellsRow, RunFaultKind, short, zero_count, split_run, overrun}
use Rattle.qm_lists.specs.RowRead.{IsRowRead}
use Rattle.qm_lists.specs.FirstWrong.{IsWrongAs, IsFirstWrong, EndTooEarly, IsFaultOf}
use Rattle.qm_lists.specs.inner.ReadRuns.{read_due}
use Rattle.qm_lists.proofs.ReadRuns.{AreBelow256, read_runs_again, read_runs_found}
use Rattle.qm_lists.proofs.FirstFaults.{first_fault}

abbrev answered : List ℕ × ℕ → Result (List ℕ × ℕ) RunFaultKind
answered read = Ok read

-- ---- beginnings of lists

no_length : (xs : List ℕ) → length xs ≡ 0 → xs ≡ []
no_length [] none = refl
no_length (x ∷ xs) none = absurd (omega (arith, none))

-- of two beginnings of a list the longer begins with the shorter
longer_begins : (p q x y : List ℕ) → p ++ x ≡ q ++ y → length p ≤ length q → (mid : List ℕ) × (q ≡ p ++ mid)
longer_begins [] q x y same fits = (q, refl)
longer_begins (a ∷ p) [] x y same fits = absurd (omega (arith, fits))
longer_begins (a ∷ p) (b ∷ q) x y same fits =
    let behind : p ++ x ≡ q ++ y = cc same in
    let first : a ≡ b = cc same in
    let found = longer_begins p q x y behind (omega (arith, fits)) in
    (found.0, λ i. sym first i ∷ found.1 i)

as_long : (p q x y : List ℕ) → p ++ x ≡ q ++ y → length p ≡ length q → (p ≡ q) × (x ≡ y)
as_long [] [] x y same long = (refl, same)
as_long [] (b ∷ q) x y same long = absurd (omega (arith, long))
as_long (a ∷ p) [] x y same long = absurd (omega (arith, long))
as_long (a ∷ p) (b ∷ q) x y same long =
    let behind : p ++ x ≡ q ++ y = cc same in
    let first : a ≡ b = cc same in
    let found = as_long p q x y behind (omega (arith, long)) in
    ((λ i. first i ∷ found.0 i), found.1)

-- ---- what is spelt

-- bytes spell one row
one_row : (bytes row other : List ℕ) → SpellsRow bytes row → SpellsRow bytes other → row ≡ other
one_row [] row other one two = one ∙ sym two
one_row (suc byte ∷ bytes) row other one two = one.1 ∙ ap (λ (xs : List ℕ). suc byte ∷ xs) (one_row bytes one.0 two.0 one.2 two.2) ∙ sym two.1
one_row (zero ∷ []) row other one two = absurd one
one_row (zero ∷ count ∷ bytes) row other one two = one.1 ∙ ap (λ (xs : List ℕ). replicate count zero ++ xs) (one_row bytes one.0 two.0 one.5 two.5) ∙ sym two.1

-- what is spelt is not with a zero more
no_zero_more : (bytes row other : List ℕ) → SpellsRow bytes row → SpellsRow (bytes ++ zero ∷ []) other → ⊥
no_zero_more [] row other one two = two
no_zero_more (suc byte ∷ bytes) row other one two = no_zero_more bytes one.0 two.0 one.2 two.2
no_zero_more (zero ∷ []) row other one two = absurd one
no_zero_more (zero ∷ count ∷ bytes) row other one two = no_zero_more bytes one.0 two.0 one.5 two.5

-- whole parts with a beginning of one spell what the parts do
begun_is_none : (fault : RunFaultKind) (whole row other begun : List ℕ) (byte : ℕ) → SpellsRow whole row → IsWrongAs fault begun byte → SpellsRow (whole ++ begun) other → row ≡ other
begun_is_none short whole row other begun byte spelt wrong more = absurd wrong
begun_is_none zero_count whole row other begun byte spelt wrong more =
    absurd (no_zero_more whole row other spelt (subst (λ (b : List ℕ). SpellsRow (whole ++ b) other) wrong.0 more))
begun_is_none split_run whole row other begun byte spelt wrong more =
    one_row whole row other spelt (subst (λ (b : List ℕ). SpellsRow b other) (append-nil whole) (subst (λ (b : List ℕ). SpellsRow (whole ++ b) other) wrong.0 more))
begun_is_none overrun whole row other begun byte spelt wrong more =
    absurd (no_zero_more whole row other spelt (subst (λ (b : List ℕ). SpellsRow (whole ++ b) other) wrong.0 more))

-- the same beginning and the same byte are wrong in one way
one_way : (fault other : RunFaultKind) (whole row others row' begun begun' : List ℕ) (byte byte' : ℕ) → SpellsRow whole row → SpellsRow others row' → IsWrongAs fault begun byte → IsWrongAs other begun' byte' →
    whole ++ begun ≡ others ++ begun' → byte ≡ byte' → fault ≡ other
one_way short other whole row others row' begun begun' byte byte' spelt spelt' wrong wrong' fronts bytes = absurd wrong
one_way zero_count short whole row others row' begun begun' byte byte' spelt spelt' wrong wrong' fronts bytes = absurd wrong'
one_way zero_count zero_count whole row others row' begun begun' byte byte' spelt spelt' wrong wrong' fronts bytes = refl
one_way zero_count split_run whole row others row' begun begun' byte byte' spelt spelt' wrong wrong' fronts bytes =
    let same : others ≡ whole ++ zero ∷ [] = sym (append-nil others) ∙ sym (ap (λ (b : List ℕ). others ++ b) wrong'.0) ∙ sym fronts ∙ ap (λ (b : List ℕ). whole ++ b) wrong.0 in
    absurd (no_zero_more whole row row' spelt (subst (λ (b : List ℕ). SpellsRow b row') same spelt'))
one_way zero_count overrun whole row others row' begun begun' byte byte' spelt spelt' wrong wrong' fronts bytes = absurd (omega (arith, wrong.1, wrong'.1, bytes))
one_way split_run short whole row others row' begun begun' byte byte' spelt spelt' wrong wrong' fronts bytes = absurd wrong'
one_way split_run zero_count whole row others row' begun begun' byte byte' spelt spelt' wrong wrong' fronts bytes =
    let same : whole ≡ others ++ zero ∷ [] = sym (append-nil whole) ∙ sym (ap (λ (b : List ℕ). whole ++ b) wrong.0) ∙ fronts ∙ ap (λ (b : List ℕ). others ++ b) wrong'.0 in
    absurd (no_zero_more others row' row spelt' (subst (λ (b : List ℕ). SpellsRow b row) same spelt))
one_way split_run split_run whole row others row' begun begun' byte byte' spelt spelt' wrong wrong' fronts bytes = refl
one_way split_run overrun whole row others row' begun begun' byte byte' spelt spelt' wrong wrong' fronts bytes = absurd (omega (arith, wrong.1, wrong'.1, bytes))
one_way overrun short whole row others row' begun begun' byte byte' spelt spelt' wrong wrong' fronts bytes = absurd wrong'
one_way overrun zero_count whole row others row' begun begun' byte byte' spelt spelt' wrong wrong' fronts bytes = absurd (omega (arith, wrong.1, wrong'.1, bytes))
one_way overrun split_run whole row others row' begun begun' byte byte' spelt spelt' wrong wrong' fronts bytes = absurd (omega (arith, wrong.1, wrong'.1, bytes))
one_way overrun overrun whole row others row' begun begun' byte byte' spelt spelt' wrong wrong' fronts bytes = refl

-- ---- faults

module _ (width : ℕ) (bytes : List ℕ) where
  -- what stands before the first wrong byte, and with it
  abbrev before_wrong : (fault : RunFaultKind) → IsFirstWrong width bytes fault → List ℕ
  before_wrong fault w = w.whole ++ w.begun

  abbrev up_to : (fault : RunFaultKind) → IsFirstWrong width bytes fault → List ℕ
  up_to fault w = (w.whole ++ w.begun) ++ w.byte ∷ []

  parts : (fault : RunFaultKind) (w : IsFirstWrong width bytes fault) → bytes ≡ up_to fault w ++ w.behind
  parts fault w = w.stands ∙ sym (append_assoc (w.whole ++ w.begun) (w.byte ∷ []) w.behind)

  one_more : (fault : RunFaultKind) (w : IsFirstWrong width bytes fault) → length (up_to fault w) ≡ length (before_wrong fault w) + 1
  one_more fault w = length-append (w.whole ++ w.begun) (w.byte ∷ [])

  -- no spelling of a row of the width begins so
  never_on : (fault : RunFaultKind) (w : IsFirstWrong width bytes fault) (spelling row rest : List ℕ) → SpellsRow spelling row → length row ≡ width → spelling ≡ up_to fault w ++ rest → ⊥
  never_on fault w spelling row rest spells long is = w.no_more (rest, row, long, subst (λ (s : List ℕ). SpellsRow s row) is spells)

  not_short : (fault : RunFaultKind) → IsFirstWrong width bytes fault → EndTooEarly width bytes → ⊥
  not_short fault w ends =
      let on = ends.begins in
      never_on fault w (bytes ++ on.0) on.1 (w.behind ++ on.0) on.3 on.2 (ap (λ (b : List ℕ). b ++ on.0) (parts fault w) ∙ append_assoc (up_to fault w) w.behind on.0)

  not_before : (fault other : RunFaultKind) (w : IsFirstWrong width bytes fault) (v : IsFirstWrong width bytes other) → length (before_wrong fault w) < length (before_wrong other v) → ⊥
  not_before fault other w v less =
      let found = longer_begins (up_to fault w) (before_wrong other v) w.behind (v.byte ∷ v.behind) (sym (parts fault w) ∙ v.stands) (omega (arith, one_more fault w, less)) in
      let on = v.begins in
      never_on fault w (before_wrong other v ++ on.0) on.1 (found.0 ++ on.0) on.3 on.2 (ap (λ (b : List ℕ). b ++ on.0) found.1 ∙ append_assoc (up_to fault w) found.0 on.0)

  one_wrong : (fault other : RunFaultKind) → IsFirstWrong width bytes fault → IsFirstWrong width bytes other → fault ≡ other
  one_wrong fault other w v =
      elim (cases_order (length (before_wrong fault w)) (length (before_wrong other v))) [
        | inl equal ↦
            let same = as_long (before_wrong fault w) (before_wrong other v) (w.byte ∷ w.behind) (v.byte ∷ v.behind) (sym w.stands ∙ v.stands) equal in
            let byte : w.byte ≡ v.byte = cc same.1 in
            one_way fault other w.whole w.row v.whole v.row w.begun v.begun w.byte v.byte w.spelt v.spelt w.wrong v.wrong same.0 byte
        | inr unequal ↦ elim unequal [
          | inl less ↦ absurd (not_before fault other w v less)
          | inr more ↦ absurd (not_before other fault v w more)
        ]
      ]

  one_fault : (fault other : RunFaultKind) → IsFaultOf width bytes fault → IsFaultOf width bytes other → fault ≡ other
  one_fault short short one two = refl
  one_fault short zero_count one two = absurd (not_short zero_count two one)
  one_fault short split_run one two = absurd (not_short split_run two one)
  one_fault short overrun one two = absurd (not_short overrun two one)
  one_fault zero_count short one two = absurd (not_short zero_count one two)
  one_fault zero_count zero_count one two = refl
  one_fault zero_count split_run one two = one_wrong zero_count split_run one two
  one_fault zero_count overrun one two = one_wrong zero_count overrun one two
  one_fault split_run short one two = absurd (not_short split_run one two)
  one_fault split_run zero_count one two = one_wrong split_run zero_count one two
  one_fault split_run split_run one two = refl
  one_fault split_run overrun one two = one_wrong split_run overrun one two
  one_fault overrun short one two = absurd (not_short overrun one two)
  one_fault overrun zero_count one two = one_wrong overrun zero_count one two
  one_fault overrun split_run one two = one_wrong overrun split_run one two
  one_fault overrun overrun one two = refl

  -- ---- a row that is there is no fault

  module _ (row : List ℕ) (n : ℕ) (long : length row ≡ width) (within : n ≤ length bytes) (spells : SpellsRow (take n bytes) row) where
    halves : bytes ≡ take n bytes ++ drop n bytes
    halves = sym (take-append-drop n bytes)

    taken : length (take n bytes) ≡ n
    taken = length-take-le n bytes within

    -- the row ends where the first wrong byte stands
    ends_there : (fault : RunFaultKind) (w : IsFirstWrong width bytes fault) → n ≤ length (before_wrong fault w) → before_wrong fault w ≡ take n bytes
    ends_there fault w fits =
        let front = before_wrong fault w in
        let found = longer_begins (take n bytes) front (drop n bytes) (w.byte ∷ w.behind) (sym halves ∙ w.stands) (omega (arith, taken, fits)) in
        let mid = found.0 in
        let on = w.begins in
        let first = read_runs_again (front ++ on.0) on.1 [] width on.3 on.2 in
        let second = read_runs_again (take n bytes) row (mid ++ on.0) width spells long in
        let regrouped : (front ++ on.0) ++ [] ≡ take n bytes ++ (mid ++ on.0) = append-nil (front ++ on.0) ∙ ap (λ (b : List ℕ). b ++ on.0) found.1 ∙ append_assoc (take n bytes) mid on.0 in
        let both : answered (on.1, length (front ++ on.0)) ≡ answered (row, length (take n bytes)) = sym first ∙ ap (read_due width false) regrouped ∙ second in
        let pairs : (on.1, length (front ++ on.0)) ≡ (row, length (take n bytes)) = cc both in
        let lengths = ap (λ (v : List ℕ × ℕ). v.1) pairs in
        let whole = length-append front on.0 in
        let inside = ap length found.1 ∙ length-append (take n bytes) mid in
        found.1 ∙ ap (λ (b : List ℕ). take n bytes ++ b) (no_length mid (omega (arith, lengths, whole, inside))) ∙ append-nil (take n bytes)

    not_wrong : (fault : RunFaultKind) → IsFirstWrong width bytes fault → ⊥
    not_wrong fault w =
        elim (cases_lt (length (before_wrong fault w)) n) [
          | inl less ↦
              let found = longer_begins (up_to fault w) (take n bytes) w.behind (drop n bytes) (sym (parts fault w) ∙ halves) (omega (arith, one_more fault w, less, taken)) in
              never_on fault w (take n bytes) row found.0 spells long found.1
          | inr fits ↦
              let there = ends_there fault w fits in
              let same = begun_is_none fault w.whole w.row row w.begun w.byte w.spelt w.wrong (subst (λ (s : List ℕ). SpellsRow s row) (sym there) spells) in
              absurd (let lengths = ap length same in let due = w.due in omega (arith, lengths, due, long))
        ]

    no_fault : (fault : RunFaultKind) → IsFaultOf width bytes fault → ⊥
    no_fault short ends = ends.no_front (take n bytes) row (drop n bytes) long spells halves
    no_fault zero_count w = not_wrong zero_count w
    no_fault split_run w = not_wrong split_run w
    no_fault overrun w = not_wrong overrun w

  -- ---- the answer

  read_row : (row : List ℕ) (n : ℕ) → length row ≡ width → n ≤ length bytes → SpellsRow (take n bytes) row → read_due width false bytes ≡ Ok (row, n)
  read_row row n long within spells =
      let taken = length-take-le n bytes within in
      ap (read_due width false) (sym (take-append-drop n bytes)) ∙ read_runs_again (take n bytes) row (drop n bytes) width spells long ∙ (λ i. Ok (row, taken i))

  by_answer : AreBelow256 bytes → (fault : RunFaultKind) → IsFaultOf width bytes fault → (answer : Result (List ℕ × ℕ) RunFaultKind) → read_due width false bytes ≡ answer → answer ≡ Err fault
  by_answer are fault is (Ok read) h =
      let found = read_runs_found width bytes read are h in
      absurd (no_fault read.0 read.1 found.width found.within found.spelt fault is)
  by_answer are fault is (Err other) h = ap (λ (f : RunFaultKind). Err f) (one_fault other fault (first_fault width bytes other are h) is)

  read_as_said : AreBelow256 bytes → (answer : Result (List ℕ × ℕ) RunFaultKind) → IsRowRead width bytes answer → read_due width false bytes ≡ answer
  read_as_said are (Ok read) is = read_row read.0 read.1 is.0 is.1 is.2
  read_as_said are (Err fault) is = by_answer are fault is (read_due width false bytes) refl

  -- there is one answer of which this is said
  pub one_answer : (one other : Result (List ℕ × ℕ) RunFaultKind) → AreBelow256 bytes → IsRowRead width bytes one → IsRowRead width bytes other → one ≡ other
  one_answer one other are is its = sym (read_as_said are one is) ∙ read_as_said are other its

-- so it does not matter that a row which begins with zeros may follow: the one before it is whole
row_before_zero : IsRowRead 1 (1 ∷ 0 ∷ 1 ∷ []) (Ok (1 ∷ [], 1))
row_before_zero = (refl, omega arith, ([], refl, refl))
