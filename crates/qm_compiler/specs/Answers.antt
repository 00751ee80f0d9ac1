use Rattle.qm_mapfile.specs.declared.entity.MapFile.{MapFile}
use Rattle.qm_commands.specs.declared.options.Options.{Options}
use Rattle.qm_statement.specs.CompiledMap.{IsCompiledWithoutLeak, IsCompiledToLeak}
use Rattle.qm_compiler.specs.declared.compiled.Compiled.{Compiled}
use Rattle.qm_compiler.specs.declared.compiled.Compiled.TheVariants.{Done, Leak}

-- What is answered where a map is compiled.

-- what the map compiles to, with or without a leak
unfoldable pub IsCompiled : MapFile → Options → Compiled → Type 0
IsCompiled map options (Done file world summary) = IsCompiledWithoutLeak map options file world summary
IsCompiled map options (Leak file entity trail) = IsCompiledToLeak map file entity trail
