use Rattle.std.specs.Prelude.{◌≡◌, Result, Ok, Err}
use Rattle.qm_grammar.specs.declared.refusal.Refusal.{Refusal}
use Rattle.qm_grammar.specs.Prefix.{Prefix}
use Rattle.qm_map.specs.declared.stop.Stop.{Stop}
use Rattle.qm_map.specs.declared.stop.Stop.TheVariants.{Refused, Memory}

-- the answer of a step: it has led to a prefix, or refused a token, as it should; or memory ran out
abbrev pub IsStep : Result (Unit {0}) Stop → Prefix → Result Prefix Refusal → Type 0
IsStep (Ok _) prefix due = due ≡ Ok prefix
IsStep (Err (Refused reason)) prefix due = due ≡ Err reason
IsStep (Err Memory) prefix due = Unit {0}
