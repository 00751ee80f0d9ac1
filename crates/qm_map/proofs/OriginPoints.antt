-- The point that the pairs of an entity give.
use Rattle.std.proofs.Common.{◌≡◌, ℕ, List, Option, Some, None, MatchOption, sym, ap}
use Rattle.std.specs.Prelude.{is_none}
use Rattle.qm_space.specs.Point.{Point}
use Rattle.qm_mapfile.specs.declared.entity.Pair.{Pair}
use Rattle.qm_grammar.specs.Origin.{origin_key, value_of, HasGoodOrigin}
use Rattle.qm_grammar.specs.inner.Machine.{origin_of}
use Rattle.qm_grammar.proofs.OriginTexts.{origin_spelled, none_no_origin}
use Rattle.qm_grammar.specs.OriginPoint.{IsOriginPoint}

pub origin_point : (pairs : List Pair) (value : List ℕ) (answer : Option Point) → value_of origin_key pairs ≡ Some value → HasGoodOrigin pairs → answer ≡ origin_of value → MatchOption answer (value_of origin_key pairs ≡ None) (λ point. IsOriginPoint pairs point)
origin_point pairs value None first good e = absurd (none_no_origin value (ap is_none (sym e)) (rw first at good))
origin_point pairs value (Some point) first good e = record { value = value; first = first; spelled = origin_spelled value point (sym e) }
