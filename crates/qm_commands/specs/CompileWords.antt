use Rattle.std.specs.Prelude.{◌≡◌, ℕ, Bool, List, [], ◌∷◌, codes}
use Rattle.std.specs.Option.{is_some}
use Rattle.qm_commands.specs.declared.options.Options.{Options}
use Rattle.qm_commands.specs.CompileRequest.{Request, no_request, Asks}
use Rattle.qm_commands.specs.FileNames.{FileNames, AreDifferent}
use Rattle.qm_commands.specs.Options.{AreThreads}

-- `compile MAP OUT`, with the options `--prt FILE`, `--threads N`, `--fast`, `--hulls`, `--models` and `--faces` anywhere after
-- `compile`; the names of the files are different
pub record AreCompileWords (words : List (List ℕ)) (options : Options) (listed : Bool) (files : FileNames) : Type 0 where
  pub rest : List (List ℕ)
  pub words_are : words ≡ codes "compile" ∷ rest
  pub asked : Request
  pub asks : Asks no_request rest asked
  pub are_names : asked.names ≡ files.map_name ∷ files.out_name ∷ []
  pub is_listing : asked.listing ≡ files.listing_name
  pub is_listed : listed ≡ is_some asked.listing
  pub is_fast : options.fast ≡ asked.fast
  pub are_hulls : options.hulls ≡ asked.hulls
  pub are_models : options.models ≡ asked.models
  pub are_faces : options.faces ≡ asked.faces
  pub are_threads : AreThreads asked.threads options.threads
  pub different : AreDifferent files
