use Rattle.std.proofs.Common.{option_map}
use Rattle.std.proofs.lemmas.Result.{IfOk-weaker}
use Rattle.qm_make.proofs.putting_out.put_out_done.Goals as goal

pub returns : goal.returns
returns c =
    IfOk-weaker c.put_out_listed.result _ _
    (λ product is. (option_map (λ bytes. bytes.items) c.in_ok-listing.listing, c.in_ok-listing.ensures, is)) c.put_out_listed.ensures
