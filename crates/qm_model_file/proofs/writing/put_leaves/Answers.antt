use Rattle.std.proofs.lemmas.List.{append_assoc}
use Rattle.qm_model_layout.proofs.WrittenModels.{leaves_bytes-parts}
use Rattle.qm_model_file.proofs.writing.put_leaves.Goals as goal

pub returns : goal.returns
returns c = rw (c.in_ok-append_all.ensures.ok, c.in_ok-put_u64.ensures, leaves_bytes-parts c.args.leaves.now) (simp append_assoc)
