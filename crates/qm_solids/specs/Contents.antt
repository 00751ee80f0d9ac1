use Rattle.std.specs.Prelude.{List}
use Rattle.qm_space.specs.Point.{Point}
use Rattle.qm_contents.specs.declared.contents.Contents.{Contents}
use Rattle.qm_solids.specs.Solid.{Solid}
use Rattle.qm_solids.specs.Holding.{Holds}
use Rattle.qm_solids.specs.Strongest.{AreStrongest}

-- No tree occurs here: contents are those of the solids alone.

-- what solids make of a point: the strongest contents of those that hold it, else empty
abbrev pub HasContents : List Solid → Point → Contents → Type 0
HasContents solids x contents = AreStrongest (λ solid. Holds solid x) solids contents
