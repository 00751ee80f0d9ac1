use Rattle.std.specs.Prelude.{ℕ, Bool, List}
use Rattle.qm_contacts.specs.World.{World}
use Rattle.qm_chains.specs.inner.Frame.{Frame}
use Rattle.qm_chains.specs.inner.Pairs.{Pairs, ArePairs}
use Rattle.qm_chains.specs.inner.Search.{IsSearch}
use Rattle.qm_chains.specs.inner.Wanted.{IsWantedVia}

-- a search so far for what is wanted via the portal of this number, where this was found, in a flow that knows these pairs
pub record IsSearchVia (world : World) (pairs : Pairs) (number : ℕ) (found : List Bool) (frames : List Frame) (sighted : List Bool) : Type 0 where
  pub search : IsSearch world pairs.first (λ first n. IsWantedVia world pairs.first found number n) frames sighted
  pub pairs_are : ArePairs world sighted pairs

-- and so for some portal
pub record IsSomeSearch (world : World) (pairs : Pairs) (frames : List Frame) (sighted : List Bool) : Type 0 where
  pub number : ℕ
  pub found : List Bool
  pub so_far : IsSearchVia world pairs number found frames sighted
