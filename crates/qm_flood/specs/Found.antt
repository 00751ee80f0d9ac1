use Rattle.std.specs.Prelude.{List}
use Rattle.qm_partition.specs.Tree.{Tree}
use Rattle.qm_contacts.specs.Leak.{Origin, IsLeak}
use Rattle.qm_contacts.specs.Filled.{NoneTakesPart, IsSealed, IsFilledRow}
use Rattle.qm_flood.specs.declared.answer.Flood.{Flood}
use Rattle.qm_flood.specs.declared.answer.Flood.TheVariants.{Sealed, NoEntity, Leak}

-- what is found of a tree and of the entities that stand in it: the map is sealed, and the row has the leaves that are
-- to be filled; or no entity takes part; or an entity leaks, and this is its trail
abbrev pub IsFloodOf : Tree → List Origin → Flood → Type 0
IsFloodOf tree origins (Sealed row) = IsSealed tree origins × IsFilledRow tree origins row
IsFloodOf tree origins NoEntity = NoneTakesPart tree origins
IsFloodOf tree origins (Leak entity trail) = IsLeak tree origins entity trail
