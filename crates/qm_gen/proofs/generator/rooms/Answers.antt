use Rattle.std.proofs.Common.{sym, subst, arith}
use Rattle.qm_grammar.specs.Valid.{IsValidMap}
use Rattle.qm_sealed_rooms.proofs.ValidRooms.{rooms_valid}
use Rattle.qm_gen.proofs.NeverLeaks.{built_never_leaks}
use Rattle.qm_gen.proofs.generator.rooms.Goals as goal

pub returns-clause-valid : goal.returns-clause-valid
returns-clause-valid c = subst IsValidMap (sym c.in_ok-rooms_map.ensures) (rooms_valid c.args.n c.args.number (omega arith) (omega arith))

pub returns-clause-no_leak : goal.returns-clause-no_leak
returns-clause-no_leak c = λ tree origins built. built_never_leaks c.in_ok-rooms_map.field-0 c.args.n c.args.number c.in_ok-rooms_map.ensures (omega arith) (omega arith) tree origins built
