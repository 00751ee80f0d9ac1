use Rattle.std.specs.Prelude.{◌≡◌, ◌≤◌, ◌<◌, ℕ, List, length, take, slice_index}
use Rattle.std.specs.Char.{digit_value}
use Rattle.std.specs.Str.Parse.{digits_value, AllDigits}
use Rattle.qm_decimal.specs.declared.whole.TheConstants.{FREE_DIGITS}

-- the digits that a text begins with, but no more than are below the limit whatever they are, and their value
pub record AreFirstDigits (text : List ℕ) (value count : ℕ) : Type 0 where
  pub few : count ≤ FREE_DIGITS
  pub within : count ≤ length text
  pub digits : AllDigits 10 (take count text)
  pub ends : count < FREE_DIGITS → count < length text → 10 ≤ digit_value (slice_index text count)
  pub value_is : value ≡ digits_value 10 (take count text)
