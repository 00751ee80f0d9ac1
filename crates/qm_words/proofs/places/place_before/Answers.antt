use Rattle.std.proofs.Common.{rules, FitsSigned, w64}
use Rattle.std.proofs.lemmas.Int.{to_z-of_z}
use Rattle.qm_words.proofs.PlaceLaws.{before_no_x, before_no_y, before_no_z, place_before_is}
use Rattle.qm_words.proofs.SingleWords.{if_none}
use Rattle.qm_words.proofs.places.place_before.Goals as goal

pub returns-in_err-x-clause-none : goal.returns-in_err-x-clause-none
returns-in_err-x-clause-none c = if_none c.from_residual.result _ (before_no_x c.args.text.now c.in_err-x.ensures.none)

pub returns-in_err-y-clause-none : goal.returns-in_err-y-clause-none
returns-in_err-y-clause-none c = if_none c.from_residual-in_err-y.result _ (before_no_y c.args.text.now c.in_ok-x.behind.now c.in_ok-x.x c.in_ok-x.ensures.some c.in_err-y.ensures.none)

pub returns-in_err-z-clause-none : goal.returns-in_err-z-clause-none
returns-in_err-z-clause-none c =
    if_none c.from_residual-in_err-z.result _
    (before_no_z c.args.text.now c.in_ok-x.behind.now c.in_ok-y.last.now c.in_ok-x.x c.in_ok-y.y c.in_ok-x.ensures.some c.in_ok-y.ensures.some c.in_err-z.ensures.none)

pub returns-clause-some : goal.returns-clause-some
returns-clause-some c =
    let x : FitsSigned w64 c.in_ok-x.x = search rules in
    let y : FitsSigned w64 c.in_ok-y.y = search rules in
    let z : FitsSigned w64 c.in_ok-z.z = search rules in
    simp to_z-of_z (place_before_is c.args.text.now c.in_ok-x.behind.now c.in_ok-y.last.now c.in_ok-z.rest.now c.in_ok-x.x c.in_ok-y.y c.in_ok-z.z c.in_ok-x.ensures.some c.in_ok-y.ensures.some c.in_ok-z.ensures.some)
