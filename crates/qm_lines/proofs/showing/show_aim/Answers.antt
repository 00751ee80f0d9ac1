use Rattle.qm_lines.proofs.Drawing.{has_place}
use Rattle.qm_lines.proofs.showing.show_aim.Goals as goal

pub show_along-requires : goal.show_along-requires
show_along-requires g c = record { may_draw = c.requires.may_draw; target = c.requires.target }

pub returns-in_err-show_along : goal.returns-in_err-show_along
returns-in_err-show_along g c = c.show_along.ensures

pub get-requires : goal.get-requires
get-requires g c = has_place _ c.requires.may_draw c.show_along.ensures.shown.same_length c.requires.target

pub returns-then-not-get : goal.returns-then-not-get
returns-then-not-get g c = c.show_along.ensures

pub returns : goal.returns
returns g c = c.show_along.ensures
