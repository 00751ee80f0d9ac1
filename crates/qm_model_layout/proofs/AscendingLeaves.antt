-- Leaves are tested one after another.
use Rattle.std.proofs.Common.{◌≡◌, ◌<◌, ◌≤◌, ℕ, ◌+◌, Bool, true, false, ltb, leb, ◌&&◌, List, length, get_or, drop, refl, ap, ◌∙◌}
use Rattle.std.proofs.lemmas.Bool.{lt-ltb, le-ltb, le-leb, lt-leb}
use Rattle.std.proofs.lemmas.List.{at_drop_more, at_drop_all}
use Rattle.qm_model_layout.specs.ModelLayout.{ascend_from}

module _ (least limit k : ℕ) (leaves : List ℕ) where
  abbrev next_leaf : ℕ
  next_leaf = get_or leaves k 0

  step : k < length leaves → ascend_from least limit (drop k leaves) ≡ (leb least next_leaf && (ltb next_leaf limit && ascend_from (next_leaf + 1) limit (drop (k + 1) leaves)))
  unfolding ascend_from
  step less = at_drop_more (ascend_from least limit) leaves k 0 less

  -- a leaf that is too low
  pub too_low : k < length leaves → get_or leaves k 0 < least → ascend_from least limit (drop k leaves) ≡ false
  too_low less low = step less ∙ ap (λ (b : Bool). b && (ltb next_leaf limit && ascend_from (next_leaf + 1) limit (drop (k + 1) leaves))) (lt-leb least next_leaf low)

  and_false : (b : Bool) → (b && false) ≡ false
  and_false true = refl
  and_false false = refl

  -- a leaf that is too high
  pub too_high : k < length leaves → limit ≤ get_or leaves k 0 → ascend_from least limit (drop k leaves) ≡ false
  too_high less high = step less ∙ ap (λ (b : Bool). leb least next_leaf && (b && ascend_from (next_leaf + 1) limit (drop (k + 1) leaves))) (le-ltb next_leaf limit high) ∙ and_false (leb least next_leaf)

  -- one that is neither
  pub next_ascends : k < length leaves → least ≤ get_or leaves k 0 → get_or leaves k 0 < limit → ascend_from least limit (drop k leaves) ≡ ascend_from (get_or leaves k 0 + 1) limit (drop (k + 1) leaves)
  next_ascends less low high =
      step less
      ∙ ap (λ (b : Bool). b && (ltb next_leaf limit && ascend_from (next_leaf + 1) limit (drop (k + 1) leaves))) (le-leb least next_leaf low)
      ∙ ap (λ (b : Bool). b && ascend_from (next_leaf + 1) limit (drop (k + 1) leaves)) (lt-ltb next_leaf limit high)

  pub all_ascend : length leaves ≤ k → ascend_from least limit (drop k leaves) ≡ true
  unfolding ascend_from
  all_ascend past = at_drop_all (ascend_from least limit) leaves k past
