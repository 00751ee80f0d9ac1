-- What a map compiled to, in bytes and printed, is what the command makes of the map.
use Rattle.std.proofs.Common.{Bool, ◌⊎◌, refl, sym, subst, inl, inr}
use Rattle.qm_mapfile.specs.declared.entity.MapFile.{MapFile}
use Rattle.qm_commands.specs.declared.map_command.MapCommand.TheVariants.{Compile}
use Rattle.qm_commands.specs.declared.options.Options.{Options}
use Rattle.qm_statement.specs.Output.{Output, IsOutputOf, IsOutputWithoutLeak, IsLeakOutput}
use Rattle.qm_compiler.specs.Answers.{IsCompiled}
use Rattle.qm_compiler.specs.declared.compiled.Compiled.{Compiled}
use Rattle.qm_compiler.specs.declared.compiled.Compiled.TheVariants.{Done, Leak}
use Rattle.qm_make.specs.inner.PutOut.{IsPutOut}

pub put_out_is : (map : MapFile) (options : Options) (listed : Bool) (compiled : Compiled) (output : Output) → IsCompiled map options compiled → IsPutOut listed compiled output → IsOutputOf (Compile options listed) map output
unfolding IsCompiled IsOutputOf
put_out_is map options listed (Done file world summary) output compiled (listing, are, is) =
    subst (λ (o : Output). IsOutputWithoutLeak map options listed o ⊎ IsLeakOutput map o) (sym is)
    (inl (record { file = file; world = world; summary = summary; is_compiled = compiled; is_file = record { valid = compiled.is_valid; exactly = refl }; is_listed = are; is_status = refl; is_text = refl }))
put_out_is map options listed (Leak file entity trail) output is put =
    inr (record { file = file; entity = entity; trail = trail; is_compiled = is; is_file = record { valid = is.is_valid; exactly = put.is_file }; is_not_listed = put.is_not_listed; is_status = put.is_status; is_text = put.is_text })
