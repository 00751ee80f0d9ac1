use Rattle.std.proofs.Common.{[], ◌++◌, ◌-◌, take, drop, arith}
use Rattle.qm_grammar.specs.declared.fault.MapFault.TheVariants as fault
use Rattle.qm_grammar.proofs.Runs.{not_both}
use Rattle.text_faults.proofs.meaning_in_pieces.Goals as goal

pub loop-fed-init : goal.loop-fed-init
loop-fed-init c = record { within = omega arith; some = ([], c.new-reader.ensures) }

pub loop-fed-preserved : goal.loop-fed-preserved
loop-fed-preserved c =
    let some = c.loop-fed.invariant.some in
    record {
      within = omega arith;
      some = (_, c.feed.ensures.reader some.0 some.1 (λ same. not_both c.feed.result c.in-Ok.field-0 fault.Memory c.in-Ok.is same));
    }

pub returns : goal.returns
returns c = let some = c.loop-fed.invariant.some in c.finish.ensures.valid some.0 some.1
