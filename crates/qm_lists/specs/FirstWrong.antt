use Rattle.std.specs.Prelude.{◌≡◌, ◌<◌, ℕ, zero, List, [], ◌∷◌, ◌++◌, length}
use Rattle.qm_lists.specs.Spelling.{SpellsRow, RunFaultKind, short, zero_count, split_run, overrun}

-- Why bytes begin with no spelling of a row of a width, told by the first byte that no such spelling allows.

-- some row of the width has a spelling that begins with these bytes
abbrev pub BeginsSpelling : ℕ → List ℕ → Type 0
BeginsSpelling width front = (more : List ℕ) × (row : List ℕ) × (length row ≡ width) × SpellsRow (front ++ more) row

-- what the fault says of the first wrong byte, where some whole parts are spelt before it, and then this beginning of one
abbrev pub IsWrongAs : RunFaultKind → List ℕ → ℕ → Type 0
IsWrongAs short begun byte = ⊥
IsWrongAs zero_count begun byte = (begun ≡ zero ∷ []) × (byte ≡ 0)
IsWrongAs split_run begun byte = (begun ≡ []) × (byte ≡ 0)
IsWrongAs overrun begun byte = (begun ≡ zero ∷ []) × (0 < byte)

-- more bytes of the row are due, the bytes up to one begin some spelling of a row of the width, and with it they begin none
pub record IsFirstWrong (width : ℕ) (bytes : List ℕ) (fault : RunFaultKind) : Type 0 where
  pub whole : List ℕ
  pub row : List ℕ
  pub begun : List ℕ
  pub byte : ℕ
  pub behind : List ℕ
  pub spelt : SpellsRow whole row
  pub due : length row < width
  pub wrong : IsWrongAs fault begun byte
  pub stands : bytes ≡ (whole ++ begun) ++ byte ∷ behind
  pub begins : BeginsSpelling width (whole ++ begun)
  pub no_more : BeginsSpelling width ((whole ++ begun) ++ byte ∷ []) → ⊥

-- all bytes begin a spelling of a row of the width, and no front of them is one
pub record EndTooEarly (width : ℕ) (bytes : List ℕ) : Type 0 where
  pub begins : BeginsSpelling width bytes
  pub no_front : (spelling row behind : List ℕ) → length row ≡ width → SpellsRow spelling row → bytes ≡ spelling ++ behind → ⊥

abbrev pub IsFaultOf : ℕ → List ℕ → RunFaultKind → Type 0
IsFaultOf width bytes short = EndTooEarly width bytes
IsFaultOf width bytes zero_count = IsFirstWrong width bytes zero_count
IsFaultOf width bytes split_run = IsFirstWrong width bytes split_run
IsFaultOf width bytes overrun = IsFirstWrong width bytes overrun
