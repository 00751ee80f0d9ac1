use Rattle.std.proofs.Common.{◌≡◌, rules, ℕ, List, sym, subst}
use Rattle.qm_commands.specs.QueryWord.{AreMillionths}
use Rattle.qm_words.proofs.PlaceLaws.{no_millionths}
use Rattle.qm_words.proofs.places.millionths.Goals as goal

pub returns-in-Err-clause-none : goal.returns-in-Err-clause-none
returns-in-Err-clause-none c =
    let same : c.as_bytes.result.now ≡ c.args.text.now = search rules in
    λ n is. no_millionths c.as_bytes.result.now c.in-Err.field-0 n c.in-Err.ensures.answer (subst (λ (text : List ℕ). AreMillionths text n) (sym same) is)
