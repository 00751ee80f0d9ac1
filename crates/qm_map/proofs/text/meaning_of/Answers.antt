use Rattle.std.proofs.Common.{◌∙◌, ap, sym, Err}
use Rattle.qm_map.proofs.text.meaning_of.Goals as goal

pub returns-in-Ok-take_tokens : goal.returns-in-Ok-take_tokens
returns-in-Ok-take_tokens c = λ _. c.ended.ensures ∙ sym c.in-Ok-take_tokens.ensures.over

pub returns-in-Err : goal.returns-in-Err
returns-in-Err c = λ other. sym (c.in-Err.ensures.fault (λ e. other (ap Err e)))
