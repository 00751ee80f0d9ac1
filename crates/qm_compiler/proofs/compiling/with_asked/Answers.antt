use Rattle.std.proofs.Common.{List, Bool, ap, subst}
use Rattle.qm_formats.specs.TreeFile.{TreeFile}
use Rattle.qm_compiler.specs.inner.Finished.{IsCount}
use Rattle.qm_compiler.specs.declared.compiled.Compiled.TheVariants.{Done}
use Rattle.qm_compiler.proofs.compiling.with_asked.Goals as goal

pub returns : goal.returns
returns c =
    let built = c.args.built in
    record {
      asked = c.in_ok-asked.asked;
      made_is = c.in_ok-asked.was;
      summary = c.count-summary.result;
      is_done = ap (λ (file : TreeFile). Done file c.args.world c.count-summary.result) c.new_file.ensures;
      is_count = subst (λ (rows : List (List Bool)). IsCount c.args.sealed built.brushes built.flat c.args.world rows c.count-summary.result) c.as_slice-rows.ensures c.count-summary.ensures;
    }
