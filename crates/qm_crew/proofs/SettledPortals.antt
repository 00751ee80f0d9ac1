-- Portals that are settled, one after another, once workers have returned.
use Rattle.std.proofs.Common.{◌≡◌, ◌⊎◌, inl, inr, refl, ⊎_elim, ℕ, zero, suc, ◌+◌, ◌<◌, Bool, true, false, List, [], ◌∷◌, ◌++◌, length, get_or, set, replicate, Contains, sym, ap, ◌∙◌, subst, arith}
use Rattle.std.specs.Prelude.{All}
use Rattle.std.specs.List.{range_with_len}
use Rattle.std.specs.List.Sorted.{IsStrictlyIncreasing}
use Rattle.std.proofs.lemmas.Bool.{cases_eq, cases_lt}
use Rattle.std.proofs.lemmas.List.{append_assoc, append-nil, get_or-replicate, length-replicate, get_or_past, get_or_default, get_or-set_other}
use Rattle.std.proofs.lemmas.List.Elements.{All-nil, All-cons, All-push, All-weaker, All-head, All-tail, Contains-push, Contains-append_left}
use Rattle.qm_lists.specs.WorkList.{IsIn}
use Rattle.qm_contacts.specs.World.{World}
use Rattle.qm_chains.proofs.TurnListLaws.{none_ascends, ascends_more, in_order_more, turns_in_order}
use Rattle.qm_shared_rows.specs.Findings.{Findings}
use Rattle.qm_crew.specs.inner.TurnsTaken.{IsNarrower, HadTurn, LieAlong, IsWorkList, AreWorkLists, IsInSomeList, IsGoneOn, AreSettled, AreFinished}
use Rattle.qm_crew.proofs.TakenTurns.{along_narrower, along_turn}
use Rattle.qm_crew.proofs.WorkLists.{lists_narrower}

-- ---- rows that mark the portals of lists

none_in : (n number : ℕ) → IsIn (replicate n false) number → ⊥
none_in n number is = ⊎_elim
    (λ within. let clear = get_or-replicate n number false false within in let never : false ≡ true = sym clear ∙ is in cc)
    (λ past.
    let long = length-replicate n false in
    let clear = get_or_past (replicate n false) number false (omega (arith, long, past)) in
    let never : false ≡ true = sym clear ∙ is in cc)
    (cases_lt number n)

pub marked_more : (row : List Bool) (list : List ℕ) (i number : ℕ) → i < length list → get_or list i 0 < length row → IsIn (set row (get_or list i 0) true) number → IsIn row number ⊎ Contains list number
marked_more row list i number inside within is = ⊎_elim
    (λ same. inr (i, inside, get_or_default list i number 0 inside ∙ sym same))
    (λ other. inl (sym (get_or-set_other row (get_or list i 0) number true false other) ∙ is))
    (cases_eq number (get_or list i 0))

pub none_marked : (n number : ℕ) (row : List Bool) (P : Type 0) → row ≡ replicate n false → IsIn row number → P
none_marked n number row P row_is is = absurd (none_in n number (subst (λ (r : List Bool). IsIn r number) row_is is))

-- ---- where a portal stands

pub stands_first : (first : List ℕ) (others : List (List ℕ)) (number : ℕ) → Contains first number → IsInSomeList (first ∷ others) number
stands_first first others number has = (0, first, omega arith, refl, has)

-- a list more in front
pub stands_later : (list : List ℕ) (lists : List (List ℕ)) (number : ℕ) → IsInSomeList lists number → IsInSomeList (list ∷ lists) number
stands_later list lists number any = (suc any.0, any.1, omega (arith, any.2), any.3, any.4)

stands_cases : (list : List ℕ) (lists : List (List ℕ)) (number i : ℕ) (x : List ℕ) → i < suc (length lists) → get_or (list ∷ lists) i x ≡ x → Contains x number → Contains list number ⊎ IsInSomeList lists number
stands_cases list lists number zero x inside is has = inl (subst (λ (l : List ℕ). Contains l number) (sym is) has)
stands_cases list lists number (suc i) x inside is has = inr (i, x, omega (arith, inside), is, has)

-- the first list gained portals
pub stands_gained : (first gained : List ℕ) (others : List (List ℕ)) (number : ℕ) → IsInSomeList (first ∷ others) number → IsInSomeList ((first ++ gained) ∷ others) number
stands_gained first gained others number any = ⊎_elim
    (λ here. stands_first (first ++ gained) others number (Contains-append_left first gained number here))
    (λ later. stands_later (first ++ gained) others number later)
    (stands_cases first others number any.0 any.1 any.2 any.3 any.4)

module _ (world : World) where
  pub none_settled : (pass : Findings) (count : ℕ) (first : List ℕ) (others : List (List ℕ)) → AreWorkLists world pass count (first ∷ others) → AreSettled world pass first others 0
  none_settled pass count first others are =
      let is = All-head (IsWorkList world pass) first others are.each in
      record {
        along = is.along;
        in_range = is.in_range;
        gone_on = record {
          before = first;
          after = [];
          both = sym (append-nil first);
          before_ascends = is.ascends;
          after_ascends = none_ascends;
          below = All-nil (λ (number : ℕ). number < 0);
        };
        rest = All-tail (IsWorkList world pass) first others are.each;
        each_stands = λ number less. absurd (omega (arith, less));
      }

  gone_later : (list : List ℕ) (next : ℕ) → IsGoneOn list next → IsGoneOn list (next + 1)
  gone_later list next gone = record {
    before = gone.before;
    after = gone.after;
    both = gone.both;
    before_ascends = gone.before_ascends;
    after_ascends = gone.after_ascends;
    below = All-weaker (λ number. number < next) (λ number. number < next + 1) (λ number less. omega (arith, less)) gone.after gone.below;
  }

  gone_further : (list : List ℕ) (next : ℕ) → IsGoneOn list next → IsGoneOn (list ++ next ∷ []) (next + 1)
  gone_further list next gone = record {
    before = gone.before;
    after = gone.after ++ next ∷ [];
    both = ap (λ (l : List ℕ). l ++ next ∷ []) gone.both ∙ append_assoc gone.before gone.after (next ∷ []);
    before_ascends = gone.before_ascends;
    after_ascends = ascends_more gone.after next gone.after_ascends gone.below;
    below = All-push (λ number. number < next + 1) gone.after next
        (All-weaker (λ number. number < next) (λ number. number < next + 1) (λ number less. omega (arith, less)) gone.after gone.below) (omega arith);
  }

  module _ (old new : Findings) (first : List ℕ) (others : List (List ℕ)) (next : ℕ) (settled : AreSettled world old first others next) where
    -- the next portal stands in a list
    pub settled_so : IsNarrower world old new → IsInSomeList (first ∷ others) next → AreSettled world new first others (next + 1)
    settled_so narrower stands = record {
      along = along_narrower world first old new settled.along narrower;
      in_range = settled.in_range;
      gone_on = gone_later first next settled.gone_on;
      rest = lists_narrower world old new narrower others settled.rest;
      each_stands = λ number less. ⊎_elim
          (λ same. subst (IsInSomeList (first ∷ others)) (sym same) stands)
          (λ other. settled.each_stands number (omega (arith, less, other)))
          (cases_eq number next);
    }

    pub settled_narrower : IsNarrower world old new → AreSettled world new first others next
    settled_narrower narrower = record {
      along = along_narrower world first old new settled.along narrower;
      in_range = settled.in_range;
      gone_on = settled.gone_on;
      rest = lists_narrower world old new narrower others settled.rest;
      each_stands = settled.each_stands;
    }

    -- or it has its turn, and is appended to the first
    pub settled_by_turn : HadTurn world next old new → next < length world.portals → AreSettled world new (first ++ next ∷ []) others (next + 1)
    settled_by_turn turn inside = record {
      along = along_turn world first next old new settled.along turn;
      in_range = All-push (λ number. number < length world.portals) first next settled.in_range inside;
      gone_on = gone_further first next settled.gone_on;
      rest = lists_narrower world old new turn.narrower others settled.rest;
      each_stands = λ number less. ⊎_elim
          (λ same. stands_first (first ++ next ∷ []) others number (subst (Contains (first ++ next ∷ [])) (sym same) (Contains-push first next)))
          (λ other. stands_gained first (next ∷ []) others number (settled.each_stands number (omega (arith, less, other))))
          (cases_eq number next);
    }

  -- ---- all are settled

  pub all_settled : (pass : Findings) (workers : ℕ) (first : List ℕ) (others : List (List ℕ)) → AreSettled world pass first others (length world.portals) →
      length (first ∷ others) ≡ workers → 1 < workers → AreFinished world pass workers (first ∷ others)
  all_settled pass workers first others settled one_each several = record {
    are_turns = record {
      one_each = one_each;
      in_range = All-cons (All (λ number. number < length world.portals)) first others settled.in_range
          (All-weaker (IsWorkList world pass) (All (λ number. number < length world.portals)) (λ list is. is.in_range) others settled.rest);
      each_stands = settled.each_stands;
      first_ascends = record {
        first = settled.gone_on.before;
        second = settled.gone_on.after;
        both = settled.gone_on.both;
        first_ascends = settled.gone_on.before_ascends;
        second_ascends = settled.gone_on.after_ascends;
      };
      others_ascend = All-weaker (IsWorkList world pass) IsStrictlyIncreasing (λ list is. is.ascends) others settled.rest;
    };
    along = All-cons (LieAlong world pass) first others settled.along (All-weaker (IsWorkList world pass) (LieAlong world pass) (λ list is. is.along) others settled.rest);
    alone = λ one. absurd (omega (arith, one, several));
  }

  -- ---- one worker alone

  pub alone_more : (k : ℕ) (old new : Findings) → LieAlong world old (range_with_len 0 k) → HadTurn world k old new → LieAlong world new (range_with_len 0 (k + 1))
  alone_more k old new along turn =
      let next : suc k ≡ k + 1 = omega arith in
      subst (λ (m : ℕ). LieAlong world new (range_with_len 0 m)) next (subst (LieAlong world new) (sym (in_order_more k)) (along_turn world (range_with_len 0 k) k old new along turn))

  pub alone_finished : (pass : Findings) → LieAlong world pass (range_with_len 0 (length world.portals)) → AreFinished world pass 1 (range_with_len 0 (length world.portals) ∷ [])
  alone_finished pass along = record {
    are_turns = turns_in_order (length world.portals);
    along = All-cons (LieAlong world pass) (range_with_len 0 (length world.portals)) [] along (All-nil (LieAlong world pass));
    alone = λ one. refl;
  }
