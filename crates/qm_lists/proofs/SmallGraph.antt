-- A small graph, flooded: of the places 0 to 3 the place 0 begins, 0 goes to 2, and 2 goes to 0 and 3.
use Rattle.std.proofs.Common.{◌≡◌, ℕ, zero, suc, true, false, Bool, List, [], ◌∷◌, ◌⊎◌, inl, inr, ⊎_elim, refl, sym, ◌↔◌, arith}
use Rattle.std.specs.List.{Contains, IsDistinct}
use Rattle.qm_lists.specs.Reach.{Reach}
use Rattle.qm_lists.specs.WorkList.{IsIn}
use Rattle.qm_lists.proofs.WorkLists.{IsFlood, PassesOn, flood_begins, flood_passes, flood_ends}

abbrev begins : ℕ → Type 0
begins place = place ≡ 0

abbrev goes : ℕ → ℕ → Type 0
goes from to = ((from ≡ 0) × (to ≡ 2)) ⊎ (((from ≡ 2) × (to ≡ 0)) ⊎ ((from ≡ 2) × (to ≡ 3)))

abbrev row_at_first : List Bool
row_at_first = true ∷ false ∷ false ∷ false ∷ []

abbrev row_behind_0 : List Bool
row_behind_0 = true ∷ false ∷ true ∷ false ∷ []

abbrev row_at_last : List Bool
row_at_last = true ∷ false ∷ true ∷ true ∷ []

at_first : IsFlood begins goes row_at_first (0 ∷ []) 0
unfolding IsDistinct
at_first = flood_begins begins goes row_at_first (0 ∷ []) (λ place. (λ e. rw e refl, λ is. only place is)) (λ place. (λ is. (0, omega arith, sym_only place is), λ contains. in_first place contains)) (tt, tt)
  where
    only : (place : ℕ) → IsIn row_at_first place → place ≡ 0
    only zero is = refl
    only (suc zero) is = cc
    only (suc (suc zero)) is = cc
    only (suc (suc (suc zero))) is = cc
    only (suc (suc (suc (suc place)))) is = cc

    sym_only : (place : ℕ) → IsIn row_at_first place → 0 ≡ place
    sym_only zero is = refl
    sym_only (suc zero) is = cc
    sym_only (suc (suc zero)) is = cc
    sym_only (suc (suc (suc zero))) is = cc
    sym_only (suc (suc (suc (suc place)))) is = cc

    in_first : (place : ℕ) → Contains (0 ∷ []) place → IsIn row_at_first place
    in_first place (zero, within, is) = rw (← is) refl
    in_first place (suc k, within, is) = absurd (omega arith)

-- a list of one place
one_place : (one place : ℕ) → Contains (one ∷ []) place → one ≡ place
one_place one place (zero, within, is) = is
one_place one place (suc k, within, is) = absurd (omega arith)

passes_0 : PassesOn goes 0 row_at_first row_behind_0 (0 ∷ []) (0 ∷ 2 ∷ [])
unfolding IsDistinct
passes_0 = record {
  gained = 2 ∷ [];
  same_length = refl;
  after_old = refl;
  stays = stays;
  found_all = λ to edge. ⊎_elim (λ e. rw e.1 refl) (λ e. absurd (⊎_elim (λ f. let never : 0 ≡ 2 = f.0 in omega arith) (λ f. let never : 0 ≡ 2 = f.0 in omega arith) e)) edge;
  gained_behind = λ place gained. inl (refl, sym (one_place 2 place gained));
  gained_in = λ place gained. rw (← one_place 2 place gained) refl;
  gained_only = only;
  once = ((refl, tt), (tt, tt));
}
  where
    stays : (place : ℕ) → IsIn row_at_first place → IsIn row_behind_0 place
    stays zero is = refl
    stays (suc zero) is = cc
    stays (suc (suc zero)) is = refl
    stays (suc (suc (suc zero))) is = cc
    stays (suc (suc (suc (suc place)))) is = cc

    only : (place : ℕ) → IsIn row_behind_0 place → (IsIn row_at_first place → ⊥) → Contains (2 ∷ []) place
    only zero is never = absurd (never refl)
    only (suc zero) is never = cc
    only (suc (suc zero)) is never = (0, omega arith, refl)
    only (suc (suc (suc zero))) is never = cc
    only (suc (suc (suc (suc place)))) is never = cc

passes_2 : PassesOn goes 2 row_behind_0 row_at_last (0 ∷ 2 ∷ []) (0 ∷ 2 ∷ 3 ∷ [])
unfolding IsDistinct
passes_2 = record {
  gained = 3 ∷ [];
  same_length = refl;
  after_old = refl;
  stays = stays;
  found_all = λ to edge. ⊎_elim (λ e. rw e.1 refl) (λ e. ⊎_elim (λ f. rw f.1 refl) (λ f. rw f.1 refl) e) edge;
  gained_behind = λ place gained. inr (inr (refl, sym (one_place 3 place gained)));
  gained_in = λ place gained. rw (← one_place 3 place gained) refl;
  gained_only = only;
  once = ((refl, (refl, tt)), ((refl, tt), (tt, tt)));
}
  where
    stays : (place : ℕ) → IsIn row_behind_0 place → IsIn row_at_last place
    stays zero is = refl
    stays (suc zero) is = cc
    stays (suc (suc zero)) is = refl
    stays (suc (suc (suc zero))) is = refl
    stays (suc (suc (suc (suc place)))) is = cc

    only : (place : ℕ) → IsIn row_at_last place → (IsIn row_behind_0 place → ⊥) → Contains (3 ∷ []) place
    only zero is never = absurd (never refl)
    only (suc zero) is never = cc
    only (suc (suc zero)) is never = absurd (never refl)
    only (suc (suc (suc zero))) is never = (0, omega arith, refl)
    only (suc (suc (suc (suc place)))) is never = cc

passes_3 : PassesOn goes 3 row_at_last row_at_last (0 ∷ 2 ∷ 3 ∷ []) (0 ∷ 2 ∷ 3 ∷ [])
unfolding IsDistinct
passes_3 = record {
  gained = [];
  same_length = refl;
  after_old = refl;
  stays = λ place is. is;
  found_all = λ to edge. absurd (⊎_elim (λ e. let never : 3 ≡ 0 = e.0 in omega arith) (λ e. ⊎_elim (λ f. let never : 3 ≡ 2 = f.0 in omega arith) (λ f. let never : 3 ≡ 2 = f.0 in omega arith) e) edge);
  gained_behind = λ place gained. absurd (let within = gained.1 in omega arith);
  gained_in = λ place gained. absurd (let within = gained.1 in omega arith);
  gained_only = λ place is never. absurd (never is);
  once = ((refl, (refl, tt)), ((refl, tt), (tt, tt)));
}

at_last : IsFlood begins goes row_at_last (0 ∷ 2 ∷ 3 ∷ []) 3
at_last =
    flood_passes begins goes row_at_last row_at_last (0 ∷ 2 ∷ 3 ∷ []) (0 ∷ 2 ∷ 3 ∷ []) 2 3
    (flood_passes begins goes row_behind_0 row_at_last (0 ∷ 2 ∷ []) (0 ∷ 2 ∷ 3 ∷ []) 1 2
    (flood_passes begins goes row_at_first row_behind_0 (0 ∷ []) (0 ∷ 2 ∷ []) 0 0 at_first refl passes_0) refl passes_2) refl passes_3

-- 0, 2 and 3 are reached, and nothing else
pub small_graph_flooded : (place : ℕ) → IsIn row_at_last place ↔ Reach begins goes place
small_graph_flooded = flood_ends begins goes row_at_last (0 ∷ 2 ∷ 3 ∷ []) at_last

pub one_is_not_reached : Reach begins goes 1 → ⊥
one_is_not_reached reached = let never : false ≡ true = (small_graph_flooded 1).1 reached in cc
