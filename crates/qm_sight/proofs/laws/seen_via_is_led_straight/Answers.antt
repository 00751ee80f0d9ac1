use Rattle.qm_sight.proofs.WaysOnLaws.{led_straight}
use Rattle.qm_sight.proofs.laws.seen_via_is_led_straight.Goals as goal

pub returns : goal.returns
returns c = λ tree touchings p q state k have are p_listed q_listed begun via. led_straight tree have touchings are p q state k p_listed q_listed begun via
