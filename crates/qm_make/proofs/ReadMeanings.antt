use Rattle.std.proofs.Common.{◌≡◌, ℕ, true, false, List, Result, refl, sym, ◌∙◌, subst}
use Rattle.qm_lists.proofs.Cases.{by_cases}
use Rattle.qm_mapfile.specs.declared.entity.MapFile.{MapFile}
use Rattle.qm_grammar.specs.declared.fault.MapFault.{MapFault}
use Rattle.qm_grammar.specs.Faults.{text_limit}
use Rattle.qm_grammar.specs.Meaning.{Means}
use Rattle.qm_grammar.proofs.CutTexts.{read_means}
use Rattle.qm_grammar.proofs.Meanings.{one_meaning}
use Rattle.qm_surroundings.specs.ShelfState.{ShelfState, text_under}
use Rattle.qm_surroundings.specs.WholeFiles.{IsReadFrom}
use Rattle.qm_statement.specs.TextMeans.{TextMeans}

-- What was read of a text means what the text means.

-- the text under a name means what was read of it means
pub text_means : (before : ShelfState) (map_name read : List ℕ) (meaning : Result MapFile MapFault) → IsReadFrom before map_name text_limit read → Means read meaning → TextMeans before map_name meaning
text_means before map_name read meaning is_read means =
    by_cases before.tells
    (λ tells.
    let whole = text_under before map_name in
    let its : Means whole meaning = read_means whole meaning (subst (λ (text : List ℕ). Means text meaning) (is_read tells) means) in
    record { text = whole; is_held = λ _. refl; means = its; only = λ other is. one_meaning whole other meaning is its })
    (λ silent. record {
      text = read;
      is_held = λ tells. absurd (let e : true ≡ false = sym tells ∙ silent in cc);
      means = means;
      only = λ other is. one_meaning read other meaning is means;
    })
