use Rattle.std.proofs.Common.{◌≡◌, ◌+◌, ◌-◌, ℕ, Some, take, ap, ◌∙◌, arith}
use Rattle.std.proofs.lemmas.Result.{err_from_is_err_and}
use Rattle.qm_shelf.proofs.Pieces.{grown_by_all, grown_by_part}
use Rattle.qm_shelf.proofs.writing.append_piece.Goals as goal

pub returns-in_err-append-clause-err : goal.returns-in_err-append-clause-err
returns-in_err-append-clause-err g c =
    let p = err_from_is_err_and c.from_residual.result c.from_residual.ensures.1 in
    rw p.1 (λ tells. grown_by_part _ _ c.args.bytes.now c.args.written _ (c.requires.so_far tells) (c.in_err-append.ensures.bytes tells))

pub returns-clause-ok : goal.returns-clause-ok
returns-clause-ok g c = λ tells.
    let piece : c.args.written + c.min.result - c.args.written ≡ c.min.result = omega arith in
    grown_by_all _ _ c.args.bytes.now c.args.written _ (c.requires.so_far tells) (c.in_ok-append.ensures.bytes tells) ∙ ap (λ (n : ℕ). Some (take (c.args.written + n) c.args.bytes.now)) piece
