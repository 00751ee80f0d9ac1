-- What follows from an answer that is what the text means.
use Rattle.std.proofs.Common.{◌≡◌, ◌≢◌, ◌∙◌, ℕ, List, Ok, Err, Result, IfOk, IfErr, sym, subst}
use Rattle.qm_mapfile.specs.declared.entity.MapFile.{MapFile}
use Rattle.qm_grammar.specs.declared.fault.MapFault.{MapFault}
use Rattle.qm_grammar.specs.declared.fault.MapFault.TheVariants.{Memory}
use Rattle.qm_grammar.specs.inner.Machine.{meaning_of}
use Rattle.qm_grammar.specs.Meaning.{Means, IsMapText, IsFaultText}
use Rattle.qm_grammar.specs.Valid.{IsValidMap}
use Rattle.qm_grammar.proofs.Meanings.{means_meaning, meaning_only}
use Rattle.qm_grammar.proofs.ValidMaps.{map_valid}

-- an answer is what the text means, unless memory ran out
abbrev pub IsMeaning : List ℕ → Result MapFile MapFault → Type 0
IsMeaning text answer = answer ≢ Err Memory → answer ≡ meaning_of text

means_answer : (text : List ℕ) (answer : Result MapFile MapFault) → answer ≡ meaning_of text → Means text answer
means_answer text answer e = subst (Means text) (sym e) (means_meaning text)

pub map_is : (text : List ℕ) (answer : Result MapFile MapFault) → IsMeaning text answer → IfOk answer (λ map. IsMapText text map)
map_is text (Ok map) h = means_answer text (Ok map) (h (λ e. cc))
map_is text (Err fault) h = tt

pub fault_is : (text : List ℕ) (answer : Result MapFile MapFault) → IsMeaning text answer → IfErr answer (λ fault. fault ≢ Memory → IsFaultText text fault)
fault_is text (Ok map) h = tt
fault_is text (Err fault) h = λ other. means_answer text (Err fault) (h (λ e. other (cc)))

pub only_is : (text : List ℕ) (answer : Result MapFile MapFault) → IsMeaning text answer → answer ≢ Err Memory → (other : Result MapFile MapFault) → Means text other → other ≡ answer
only_is text answer h apart other means = meaning_only text other means ∙ sym (h apart)

pub valid_is : (text : List ℕ) (answer : Result MapFile MapFault) → IsMeaning text answer → IfOk answer IsValidMap
valid_is text (Ok map) h = map_valid text map (means_answer text (Ok map) (h (λ e. cc)))
valid_is text (Err fault) h = tt
