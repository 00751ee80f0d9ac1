use Rattle.qm_sight.proofs.WaysOnLaws.{led_on}
use Rattle.qm_sight.proofs.laws.ahead_is_led_on.Goals as goal

pub returns : goal.returns
returns c = λ tree touchings p state n met_before k have are ahead. led_on tree have touchings are p state n met_before k ahead
