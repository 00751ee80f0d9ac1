use Rattle.std.specs.Prelude.{◌≡◌, ◌≢◌, ℕ, Bool, true, false, List, [], ◌∷◌, ◌++◌, Option, Some, None, codes}
use Rattle.qm_commands.specs.FileNames.{IsFileName}

-- What the words after `compile` ask for.

-- names of files, in the order of the words; coarse rows; hulls; models; faces; a listing under a name; and workers, as a number
-- is written
pub record Request : Type 0 where
  pub names : List (List ℕ)
  pub fast : Bool
  pub hulls : Bool
  pub models : Bool
  pub faces : Bool
  pub listing : Option (List ℕ)
  pub threads : Option (List ℕ)

abbrev pub no_request : Request
no_request = record { names = []; fast = false; hulls = false; models = false; faces = false; listing = None; threads = None }

-- an option without a value
pub data FlagOption : Type 0 where
  fast_option : FlagOption
  hulls_option : FlagOption
  models_option : FlagOption
  faces_option : FlagOption

-- how it is written
abbrev pub flag_spelling : FlagOption → List ℕ
flag_spelling fast_option = codes "--fast"
flag_spelling hulls_option = codes "--hulls"
flag_spelling models_option = codes "--models"
flag_spelling faces_option = codes "--faces"

-- whether it is asked for so far
abbrev pub flag_in : Request → FlagOption → Bool
flag_in asked fast_option = asked.fast
flag_in asked hulls_option = asked.hulls
flag_in asked models_option = asked.models
flag_in asked faces_option = asked.faces

abbrev pub with_flag : Request → FlagOption → Request
with_flag asked fast_option = record asked { fast = true }
with_flag asked hulls_option = record asked { hulls = true }
with_flag asked models_option = record asked { models = true }
with_flag asked faces_option = record asked { faces = true }

-- an option that has a value
pub data ValuedOption : Type 0 where
  listing_option : ValuedOption
  threads_option : ValuedOption

-- how it is written
abbrev pub option_spelling : ValuedOption → List ℕ
option_spelling listing_option = codes "--prt"
option_spelling threads_option = codes "--threads"

-- the value that is asked for so far
abbrev pub value_in : Request → ValuedOption → Option (List ℕ)
value_in asked listing_option = asked.listing
value_in asked threads_option = asked.threads

abbrev pub with_option : Request → ValuedOption → List ℕ → Request
with_option asked listing_option text = record asked { listing = Some text }
with_option asked threads_option text = record asked { threads = Some text }

abbrev pub with_name : Request → List ℕ → Request
with_name asked name = record asked { names = asked.names ++ (name ∷ []) }

-- words ask for more, one after another: from what was asked for before them to all that is asked for with them. An
-- option is asked for once at most, and may stand anywhere among the names.
pub data Asks : Request → List (List ℕ) → Request → Type 0 where
  no_more : {asked : Request} → Asks asked [] asked
  -- the name of a file in front
  a_name :
      {asked all : Request} {word : List ℕ} {words : List (List ℕ)} →
      IsFileName word → Asks (with_name asked word) words all →
      Asks asked (word ∷ words) all
  -- an option without a value in front
  without_value :
      {asked all : Request} {word : List ℕ} {words : List (List ℕ)} (option : FlagOption) →
      word ≡ flag_spelling option → flag_in asked option ≡ false → Asks (with_flag asked option) words all →
      Asks asked (word ∷ words) all
  -- an option in front, and its value as a word of its own
  value_behind :
      {asked all : Request} {word text : List ℕ} {words : List (List ℕ)} (option : ValuedOption) →
      word ≡ option_spelling option → IsFileName text → value_in asked option ≡ None → Asks (with_option asked option text) words all →
      Asks asked (word ∷ text ∷ words) all
  -- an option with its value in one word
  value_within :
      {asked all : Request} {word text : List ℕ} {words : List (List ℕ)} (option : ValuedOption) →
      word ≡ option_spelling option ++ (61 ∷ text) → text ≢ [] → value_in asked option ≡ None → Asks (with_option asked option text) words all →
      Asks asked (word ∷ words) all
