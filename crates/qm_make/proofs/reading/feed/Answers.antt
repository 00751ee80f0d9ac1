use Rattle.std.proofs.Common.{◌≡◌, refl}
use Rattle.qm_grammar.specs.declared.fault.MapFault.TheVariants.{Memory}
use Rattle.qm_make.proofs.reading.feed.Goals as goal

pub returns-in-Ok : goal.returns-in-Ok
returns-in-Ok c = (refl, λ text is. c.in-Ok.ensures.reader text is (λ e. cc))

pub returns-in-Err : goal.returns-in-Err
returns-in-Err c =
    let found = c.in-Err.field-0 in
    (found, c.in-Err.ensures.stops, λ text is apart. (c.in-Err.ensures.certain text is (λ e. let same : found ≡ Memory = cc in apart same) found).0 refl)
