use Rattle.std.proofs.lemmas.Result.{IfOk-weaker}
use Rattle.qm_make.specs.inner.Made.{output_of}
use Rattle.qm_make.proofs.PutOuts.{put_out_is}
use Rattle.qm_make.proofs.putting_out.compile_to_file.Goals as goal

pub returns : goal.returns
returns g c =
    IfOk-weaker c.put_out.result _ _
    (λ product put. put_out_is c.args.map.now c.args.options c.args.listed c.in_ok-compiled.compiled (output_of product) c.in_ok-compiled.ensures put)
    c.put_out.ensures
