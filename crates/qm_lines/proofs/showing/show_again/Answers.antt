use Rattle.qm_lines.proofs.showing.show_again.Goals as goal

pub show_along-requires : goal.show_along-requires
show_along-requires g c = record { may_draw = c.requires.may_draw; target = c.requires.target }

pub returns-in_err-show_along : goal.returns-in_err-show_along
returns-in_err-show_along g c = c.show_along.ensures

pub point_on-first_at-requires : goal.point_on-first_at-requires
point_on-first_at-requires g c = c.requires.may_draw.portal

pub returns : goal.returns
returns g c = c.show_along.ensures
