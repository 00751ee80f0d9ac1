-- The strongest of some solids: at most one answer, whatever the order of the solids.
use Rattle.std.proofs.Common.{◌≡◌, zero, suc, ◌⊎◌, inl, inr, ⊎_elim, List, [], ◌∷◌, ◌++◌, Contains, refl, sym, ap, subst, arith}
use Rattle.std.proofs.lemmas.List.Elements.{Contains-append_left, Contains-append_right, Contains-append_cases}
use Rattle.qm_contents.specs.declared.contents.Contents.{Contents}
use Rattle.qm_contents.specs.declared.contents.Contents.TheVariants.{Empty}
use Rattle.qm_contents.specs.Precedence.{IsAtMost}
use Rattle.qm_solids.specs.Solid.{Solid}
use Rattle.qm_solids.specs.Strongest.{IsOneThat, AreGiven, AreStrongest}
use Rattle.qm_contents.proofs.Strengths.{same_strength, empty_is_least, at_most_itself}

-- every solid of the first list is in the second
abbrev pub IsAmong : List Solid → List Solid → Type 0
IsAmong solids others = (solid : Solid) → Contains solids solid → Contains others solid

-- a list of one solid has no other
only_item : (solid other : Solid) → Contains (solid ∷ []) other → solid ≡ other
only_item solid other (zero, within, is) = is
only_item solid other (suc k, within, is) = absurd (omega arith)

module _ (Has : Solid → Type 0) where
  -- what is given is no stronger than what is the strongest
  given_at_most : (solids : List Solid) (a b : Contents) → AreGiven Has solids a → AreStrongest Has solids b → IsAtMost a b
  given_at_most solids a b (inl empty) strongest = subst (λ (c : Contents). IsAtMost c b) (sym empty) (empty_is_least b)
  given_at_most solids a b (inr by) strongest = subst (λ (c : Contents). IsAtMost c b) by.2 (strongest.strongest by.0 by.1)

  -- there is at most one answer
  pub one_contents : (solids : List Solid) (a b : Contents) → AreStrongest Has solids a → AreStrongest Has solids b → a ≡ b
  one_contents solids a b is_a is_b =
      same_strength a b (given_at_most solids a b is_a.given is_b) (given_at_most solids b a is_b.given is_a)

  one_among : (solids others : List Solid) (solid : Solid) → IsAmong solids others → IsOneThat Has solids solid → IsOneThat Has others solid
  one_among solids others solid among one = record { listed = among solid one.listed; has = one.has }

  given_among : (solids others : List Solid) (contents : Contents) → IsAmong solids others → AreGiven Has solids contents → AreGiven Has others contents
  given_among solids others contents among (inl empty) = inl empty
  given_among solids others contents among (inr by) = inr (by.0, one_among solids others by.0 among by.1, by.2)

  -- lists of the same solids give the same, whatever their order and however often a solid stands in them
  pub any_order : (solids others : List Solid) (contents : Contents) → IsAmong solids others → IsAmong others solids → AreStrongest Has solids contents → AreStrongest Has others contents
  any_order solids others contents there back are = record {
    given = given_among solids others contents there are.given;
    strongest = λ solid one. are.strongest solid (one_among others solids solid back one);
  }

  -- where no solid has the property it is empty
  pub none_has : (solids : List Solid) → ((solid : Solid) → IsOneThat Has solids solid → ⊥) → AreStrongest Has solids Empty
  none_has solids free = record { given = inl refl; strongest = λ solid one. absurd (free solid one) }

  -- the stronger of what two lists give is what both together give
  module _ (solids others : List Solid) (a b c : Contents) (one : (c ≡ a) ⊎ (c ≡ b)) where
    given_of_both : AreGiven Has solids a → AreGiven Has others b → AreGiven Has (solids ++ others) c
    given_of_both first second = ⊎_elim
        (λ e. subst (AreGiven Has (solids ++ others)) (sym e) (given_among solids (solids ++ others) a (λ solid. Contains-append_left solids others solid) first))
        (λ e. subst (AreGiven Has (solids ++ others)) (sym e) (given_among others (solids ++ others) b (λ solid. Contains-append_right solids others solid) second))
        one

    pub strongest_of_both : IsAtMost a c → IsAtMost b c → AreStrongest Has solids a → AreStrongest Has others b → AreStrongest Has (solids ++ others) c
    strongest_of_both above_first above_second first second = record {
      given = given_of_both first.given second.given;
      strongest = λ solid has. ⊎_elim
          (λ listed. let least = first.strongest solid (record { listed = listed; has = has.has }) in omega (arith, least, above_first))
          (λ listed. let least = second.strongest solid (record { listed = listed; has = has.has }) in omega (arith, least, above_second))
          (Contains-append_cases solids others solid has.listed);
    }

  -- the strongest of one solid alone
  pub strongest_of_one : (solid : Solid) → Has solid → AreStrongest Has (solid ∷ []) solid.contents
  strongest_of_one solid has = record {
    given = inr (solid, record { listed = (0, omega arith, refl); has = has }, refl);
    strongest = λ other one. at_most_itself other.contents solid.contents (sym (ap (λ (s : Solid). s.contents) (only_item solid other one.listed)));
  }

  pub strongest_of_none : (solid : Solid) → (Has solid → ⊥) → AreStrongest Has (solid ∷ []) Empty
  strongest_of_none solid without = none_has (solid ∷ []) (λ other one. without (subst Has (sym (only_item solid other one.listed)) one.has))
