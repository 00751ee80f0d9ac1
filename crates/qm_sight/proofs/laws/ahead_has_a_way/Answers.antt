use Rattle.qm_sight.proofs.WaysOnLaws.{way_on}
use Rattle.qm_sight.proofs.laws.ahead_has_a_way.Goals as goal

pub returns : goal.returns
returns c = λ tree touchings p state n met_before k have are ahead. way_on tree have touchings are p state n met_before k ahead
