-- A row in which four places were set.
use Rattle.std.proofs.Common.{◌≡◌, ⊎_elim, ℕ, true, false, Bool, List, [], ◌∷◌, length, replicate, set, Contains, sym, ap, ◌∙◌, subst}
use Rattle.std.proofs.lemmas.List.{length-set, length-replicate}
use Rattle.qm_lists.specs.WorkList.{IsIn}
use Rattle.qm_lists.proofs.Elements.{Contains-first, Contains-later}
use Rattle.qm_chains.proofs.Beginnings.{none_clear}
use Rattle.qm_chains.proofs.TriedPortals.{set_only}

-- a place that is set after one was, is that one or was set before
module _ (leaves a b c d : ℕ) (row : List Bool) (row_is : row ≡ set (set (set (set (replicate leaves false) a true) b true) c true) d true) where
  pub four_wide : length row ≡ leaves
  four_wide =
      let clear : length {A = Bool} (replicate leaves false) ≡ leaves = length-replicate leaves false in
      ap length row_is ∙ length-set (set (set (set (replicate leaves false) a true) b true) c true) d true ∙ length-set (set (set (replicate leaves false) a true) b true) c true
      ∙ length-set (set (replicate leaves false) a true) b true ∙ length-set (replicate leaves false) a true ∙ clear

  pub four_met : (a_is b_is c_is d_is : ℕ) → a ≡ a_is → b ≡ b_is → c ≡ c_is → d ≡ d_is → (m : ℕ) → IsIn row m → Contains (d_is ∷ c_is ∷ b_is ∷ a_is ∷ []) m
  four_met a_is b_is c_is d_is a_same b_same c_same d_same m is =
      let all = d_is ∷ c_is ∷ b_is ∷ a_is ∷ [] in
      ⊎_elim
      (λ here. subst (Contains all) (sym d_same ∙ sym here) (Contains-first d_is (c_is ∷ b_is ∷ a_is ∷ [])))
      (λ three. ⊎_elim
      (λ here. subst (Contains all) (sym c_same ∙ sym here) (Contains-later d_is c_is (c_is ∷ b_is ∷ a_is ∷ []) (Contains-first c_is (b_is ∷ a_is ∷ []))))
      (λ two. ⊎_elim
      (λ here. subst (Contains all) (sym b_same ∙ sym here) (Contains-later d_is b_is (c_is ∷ b_is ∷ a_is ∷ []) (Contains-later c_is b_is (b_is ∷ a_is ∷ []) (Contains-first b_is (a_is ∷ [])))))
      (λ one. ⊎_elim
      (λ here. subst (Contains all) (sym a_same ∙ sym here) (Contains-later d_is a_is (c_is ∷ b_is ∷ a_is ∷ []) (Contains-later c_is a_is (b_is ∷ a_is ∷ []) (Contains-later b_is a_is (a_is ∷ []) (Contains-first a_is [])))))
      (λ never. absurd (none_clear leaves m never))
      (set_only (replicate leaves false) a m one))
      (set_only (set (replicate leaves false) a true) b m two))
      (set_only (set (set (replicate leaves false) a true) b true) c m three))
      (set_only (set (set (set (replicate leaves false) a true) b true) c true) d m (subst (λ (r : List Bool). IsIn r m) row_is is))
