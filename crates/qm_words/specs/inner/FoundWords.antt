use Rattle.std.specs.Prelude.{◌≡◌, List, [], ◌∷◌, Some, codes, if◌then◌else◌}
use Rattle.clap.specs.Walk.{Row, Text, first_of, one_of}
use Rattle.qm_commands.specs.CompileRequest.{Request, FlagOption, fast_option, hulls_option, models_option, faces_option, flag_in}

-- the id of an option without a value
abbrev pub flag_id : FlagOption → Text
flag_id fast_option = codes "fast"
flag_id hulls_option = codes "hulls"
flag_id models_option = codes "models"
flag_id faces_option = codes "faces"

-- What the parser of words has found is what was asked for, and its two names are there.
pub record AreFound (rows : List Row) (asked : Request) : Type 0 where
  pub map_name : Text
  pub out_name : Text
  pub names : asked.names ≡ map_name ∷ out_name ∷ []
  pub map_is : first_of (codes "map") rows ≡ Some map_name
  pub out_is : first_of (codes "out") rows ≡ Some out_name
  pub listing_is : first_of (codes "prt") rows ≡ asked.listing
  pub threads_is : first_of (codes "threads") rows ≡ asked.threads
  pub flags_are : (flag : FlagOption) → one_of (flag_id flag) rows ≡ Some (if flag_in asked flag then codes "true" else codes "false")
