use Rattle.std.specs.Prelude.{ℕ, List}
use Rattle.qm_tokens.specs.Lexing.{Lexing}

-- a text that is being read: its bytes, and what they give from here on
pub record Reading : Type 0 where
  pub text : List ℕ
  pub left : Lexing
