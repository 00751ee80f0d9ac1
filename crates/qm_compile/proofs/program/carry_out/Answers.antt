use Rattle.std.proofs.Common.{Err, ap}
use Rattle.qm_words.specs.declared.order.WordsFault.{WordsFault}
use Rattle.qm_words.specs.SeenWords.{bytes_of_words, order_of}
use Rattle.qm_compile.proofs.Orders.{no_command, unread_words, words_carried_out}
use Rattle.qm_compile.proofs.program.carry_out.Goals as goal

pub carry_out_order-requires-clause-of_words : goal.carry_out_order-requires-clause-of_words
carry_out_order-requires-clause-of_words g c κs within = (bytes_of_words c.args.words.now, c.in-Ok.ensures.order)

pub returns-in-Ok : goal.returns-in-Ok
returns-in-Ok g c = words_carried_out _ _ _ (order_of c.in-Ok.order) c.in-Ok.ensures.order c.carry_out_order.result c.carry_out_order.ensures

pub returns-in-Err-Usage : goal.returns-in-Err-Usage
returns-in-Err-Usage g c = no_command _ _ (c.in-Err-Usage.ensures.usage (ap (λ (fault : WordsFault). Err fault) c.in-Err-Usage.field-0-is))

pub returns-in-Err-Memory : goal.returns-in-Err-Memory
returns-in-Err-Memory g c = unread_words _ _ _
