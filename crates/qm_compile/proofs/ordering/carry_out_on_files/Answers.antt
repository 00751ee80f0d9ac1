use Rattle.qm_make.specs.SeenFiles.{file_names}
use Rattle.qm_compile.proofs.Orders.{different_of, workers_of}
use Rattle.qm_compile.proofs.ordering.carry_out_on_files.Goals as goal

pub carry_out_command-requires-clause-different : goal.carry_out_command-requires-clause-different
carry_out_command-requires-clause-different g c κs within = different_of c.args.command (file_names c.args.files.now) c.requires.of_words

pub carry_out_command-requires-clause-workers : goal.carry_out_command-requires-clause-workers
carry_out_command-requires-clause-workers g c κs within = workers_of c.args.command (file_names c.args.files.now) c.requires.of_words

pub returns-in-Ok : goal.returns-in-Ok
returns-in-Ok g c = record { due = c.in-Ok.ensures.due; memory = tt }

pub returns-in-Err : goal.returns-in-Err
returns-in-Err g c = record { due = tt; memory = c.in-Err.ensures.memory }
