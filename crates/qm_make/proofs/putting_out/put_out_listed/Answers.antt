use Rattle.std.proofs.Common.{option_map}
use Rattle.qm_statement.specs.declared.status.Status.TheVariants as status
use Rattle.qm_make.proofs.putting_out.put_out_listed.Goals as goal

pub returns : goal.returns
returns c = λ i. record {
  file = c.in_ok-file.ensures i;
  listing = option_map (λ bytes. bytes.items) c.args.listing;
  status = status.Done;
  text = c.in_ok-text.ensures i;
}
