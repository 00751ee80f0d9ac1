use Rattle.std.proofs.Common.{arith}
use Rattle.std.proofs.lemmas.Int.{ints}
use Rattle.qm_wind.proofs.PairsAcross.{z_front, z_back, y_front, y_back, x_back_below, x_front_else}
use Rattle.qm_wind.proofs.across.Across.of.Goals as goal

pub returns-in-Greater : goal.returns-in-Greater
returns-in-Greater c = z_front _ _ c.requires.axial c.requires.wide _ c.plane.view_is c.new.result c.cmp.result c.cmp.ensures c.in-Greater.is c.new.ensures

pub returns-in-Less : goal.returns-in-Less
returns-in-Less c = z_back _ _ c.requires.axial c.requires.wide _ c.plane.view_is c.new-in-Less.result c.cmp.result c.cmp.ensures c.in-Less.is c.new-in-Less.ensures

pub returns-in-Greater-cmp : goal.returns-in-Greater-cmp
returns-in-Greater-cmp c = y_front _ _ c.requires.axial c.requires.wide _ c.plane.view_is c.new-in-Greater-cmp.result c.cmp-in-Equal.result c.cmp-in-Equal.ensures c.in-Greater-cmp.is c.new-in-Greater-cmp.ensures

pub returns-in-Less-cmp : goal.returns-in-Less-cmp
returns-in-Less-cmp c = y_back _ _ c.requires.axial c.requires.wide _ c.plane.view_is c.new-in-Less-cmp.result c.cmp-in-Equal.result c.cmp-in-Equal.ensures c.in-Less-cmp.is c.new-in-Less-cmp.ensures

pub returns-in-Equal-cmp : goal.returns-in-Equal-cmp
returns-in-Equal-cmp c = x_back_below _ _ c.requires.axial c.requires.wide _ c.plane.view_is c.new-in-Equal-cmp.result
    (let l = c.if-plane-lt0.true in let b = c.plane.invariant.nx_small in omega (arith, ints)) c.new-in-Equal-cmp.ensures

pub returns-in-Equal-2 : goal.returns-in-Equal-2
returns-in-Equal-2 c = x_front_else _ _ c.requires.axial c.requires.wide _ c.plane.view_is c.new-in-Equal-2.result c.cmp.result c.cmp-in-Equal.result c.plane.invariant.normal c.cmp.ensures c.in-Equal.is c.cmp-in-Equal.ensures c.in-Equal-2.is
    (let l = c.if-plane-lt0.false in let b = c.plane.invariant.nx_small in omega (arith, ints)) c.new-in-Equal-2.ensures
