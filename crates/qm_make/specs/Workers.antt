use Rattle.std.specs.Prelude.{◌≤◌}
use Rattle.qm_commands.specs.declared.map_command.MapCommand.{MapCommand}
use Rattle.qm_commands.specs.declared.map_command.MapCommand.TheVariants.{Compile, Format}

-- as many workers as a command asks for can be had: of `compile`, 1 to 64
abbrev pub HasWorkers : MapCommand → Type 0
HasWorkers (Compile options listed) = (1 ≤ options.threads) × (options.threads ≤ 64)
HasWorkers Format = Unit {0}
