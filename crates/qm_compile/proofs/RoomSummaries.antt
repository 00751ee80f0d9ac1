-- What a generated map compiles to: it leaks nowhere, and its summary is printed.
use Rattle.std.proofs.Common.{◌≡◌, ℕ, List, subst}
use Rattle.qm_mapfile.specs.declared.entity.MapFile.{MapFile}
use Rattle.qm_contacts.specs.World.{World}
use Rattle.qm_formats.specs.TreeFile.{TreeFile}
use Rattle.qm_rooms.specs.Rooms.{rooms_map}
use Rattle.qm_commands.specs.declared.options.Options.{Options}
use Rattle.qm_statement.specs.declared.summary.Summary.{Summary}
use Rattle.qm_statement.specs.CompiledMap.{IsCompiledWithoutLeak}
use Rattle.qm_statement.specs.DemoComesOf.{one_worker, IsSummaryOfRooms}
use Rattle.qm_statement.specs.Summary.{summary_text}
use Rattle.qm_compiler.specs.Answers.{IsCompiled}
use Rattle.qm_compiler.specs.declared.compiled.Compiled.TheVariants.{Done, Leak}
use Rattle.qm_compile.specs.inner.MapSummary.{IsSummaryOfMap, LeaksNowhere}

pub summed_up : (map : MapFile) (file : TreeFile) (world : World) (summary : Summary) → IsCompiled map one_worker (Done file world summary) → (text : List ℕ) → text ≡ summary_text summary → IsSummaryOfMap map text
unfolding IsCompiled
summed_up map file world summary is text printed = record { file = file; world = world; summary = summary; is_compiled = is; is_text = printed }

pub summed_up_rooms : (rooms number : ℕ) (map : MapFile) → map ≡ rooms_map rooms number → (text : List ℕ) → IsSummaryOfMap map text → IsSummaryOfRooms rooms number text
summed_up_rooms rooms number map same text is = record {
  file = is.file;
  world = is.world;
  summary = is.summary;
  is_compiled = subst (λ (m : MapFile). IsCompiledWithoutLeak m one_worker is.file is.world is.summary) same is.is_compiled;
  is_text = is.is_text;
}

pub never_leaking : (map : MapFile) (options : Options) (file : TreeFile) (entity : ℕ) (trail : List ℕ) → LeaksNowhere map → IsCompiled map options (Leak file entity trail) → ⊥
unfolding IsCompiled
never_leaking map options file entity trail none is =
    none file.tree is.origins is.is_built is.is_leak.origin is.is_leak.first.listed is.is_leak.first.leaks
