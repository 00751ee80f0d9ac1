use Rattle.std.specs.Prelude.{◌≡◌, ℕ, Bool, List, Option, None}
use Rattle.qm_contacts.specs.World.{World}
use Rattle.qm_formats.specs.TreeFile.{TreeFile}
use Rattle.qm_formats.specs.FileLayout.{file_bytes}
use Rattle.qm_statement.specs.declared.status.Status.TheVariants as status
use Rattle.qm_statement.specs.declared.summary.Summary.{Summary}
use Rattle.qm_statement.specs.Output.{Output, IsListed}
use Rattle.qm_statement.specs.Summary.{summary_text}
use Rattle.qm_statement.specs.Texts.{leak_text}
use Rattle.qm_compiler.specs.declared.compiled.Compiled.{Compiled}
use Rattle.qm_compiler.specs.declared.compiled.Compiled.TheVariants.{Done, Leak}

-- How what a map compiled to is put into bytes and printed.

-- what is put out of a tree file beside its listing, where no entity leaks
abbrev pub done_output : TreeFile → Option (List ℕ) → Summary → Output
done_output file listing summary = record { file = file_bytes file; listing = listing; status = status.Done; text = summary_text summary }

-- the same, where the listing is that of a world, if one is asked for
abbrev pub IsDonePutOut : Bool → TreeFile → World → Summary → Output → Type 0
IsDonePutOut listed file world summary output =
    (listing : Option (List ℕ)) × IsListed listed world listing × (output ≡ done_output file listing summary)

-- where an entity leaks: the bytes of a tree file, no listing, and that entity and its trail
pub record IsLeakPutOut (file : TreeFile) (entity : ℕ) (trail : List ℕ) (output : Output) : Type 0 where
  pub is_file : output.file ≡ file_bytes file
  pub is_not_listed : output.listing ≡ None
  pub is_status : output.status ≡ status.Leak
  pub is_text : output.text ≡ leak_text entity trail

abbrev pub IsPutOut : Bool → Compiled → Output → Type 0
IsPutOut listed (Done file world summary) output = IsDonePutOut listed file world summary output
IsPutOut listed (Leak file entity trail) output = IsLeakPutOut file entity trail output
