use Rattle.std.proofs.Common.{Bool, List, length, false, true, sym, ap, ◌∙◌, subst, arith}
use Rattle.std.proofs.lemmas.List.{length-replicate, length-set}
use Rattle.qm_lists.specs.WorkList.{IsIn}
use Rattle.qm_bits.proofs.Changes.{all_full, one_more_set}
use Rattle.qm_bits.proofs.bit_row.BitRow.full.Goals as goal

pub loop-place-init : goal.loop-place-init
loop-place-init c = record {
  long = ap length c.in_ok-row.ensures ∙ length-replicate c.args.bits false;
  all_set = λ place before. absurd (omega (arith, before));
}

pub loop-place-preserved : goal.loop-place-preserved
loop-place-preserved c =
    let test = c.loop-place-test.true in
    let long = c.loop-place.invariant.long in
    record {
      long = ap length c.set.ensures ∙ length-set c.loop-place.row c.loop-place.place true ∙ long;
      all_set = λ place before. subst (λ (row : List Bool). IsIn row place) (sym c.set.ensures) (one_more_set c.loop-place.row c.loop-place.place (omega (arith, test, long)) c.loop-place.invariant.all_set place before);
    }

pub returns : goal.returns
returns c =
    let end = c.loop-place-test.false in
    all_full c.loop-place.row c.args.bits c.loop-place.invariant.long (λ place before. c.loop-place.invariant.all_set place (omega (arith, end, before)))
