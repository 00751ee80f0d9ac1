use Rattle.std.proofs.Common.{◌≡◌, All, length}
use Rattle.qm_face_corners.proofs.plane_numbers.repeated.Given as goal

abbrev pub invariant-loop : goal.invariant-loop
invariant-loop l = record {
  count : length l.kept.items ≡ l.counter;
  each : All (λ one. one ≡ l.first) l.kept.items;
}
