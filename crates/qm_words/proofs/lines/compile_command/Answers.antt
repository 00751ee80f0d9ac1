use Rattle.std.proofs.Common.{codes}
use Rattle.clap.specs.Simple.{with_rule}
use Rattle.qm_words.specs.inner.CommandLines.{flag_rule, names_app, value_rule}
use Rattle.qm_words.proofs.lines.compile_command.Goals as goal

pub returns : goal.returns
returns c =
    let names = names_app (codes "compile") (codes "map") (codes "out") in
    let listed = with_rule names (value_rule (codes "prt")) in
    let shared = with_rule listed (value_rule (codes "threads")) in
    let coarse = with_rule shared (flag_rule (codes "fast")) in
    let hulled = with_rule coarse (flag_rule (codes "hulls")) in
    let modelled = with_rule hulled (flag_rule (codes "models")) in
    c.with_arg.ensures modelled (c.with_arg-modelled.ensures hulled (c.with_arg-hulled.ensures coarse (c.with_arg-coarse.ensures shared (c.with_arg-shared.ensures listed (c.with_arg-listed.ensures names c.names_command-names.ensures)))))
