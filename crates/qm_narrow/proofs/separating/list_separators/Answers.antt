use Rattle.std.proofs.Common.{List, refl, inl, inr, sym, subst}
use Rattle.qm_space.specs.Plane.{Plane}
use Rattle.qm_space.specs.Book.{AreDistinct}
use Rattle.qm_convex.specs.Winding.{corners}
use Rattle.qm_separators.specs.Across.{HasNormalAcross}
use Rattle.qm_separators.specs.Separator.{IsSeparator}
use Rattle.qm_separators.specs.Gains.{Gains}
use Rattle.qm_separators.proofs.FoundMixes.{found_exactly}
use Rattle.qm_separators.proofs.GainedPlanes.{none_twice}
use Rattle.qm_narrow.proofs.ListedNormals.{none_found, found_still}
use Rattle.qm_narrow.proofs.separating.list_separators.Goals as goal

pub returns-clause-exactly : goal.returns-clause-exactly
returns-clause-exactly c =
    found_exactly c.args.source.now c.args.pass.now c.gain_across.new.planes.items c.gain_across-2.new.planes.items
    (subst (λ (old : List Plane). Gains (λ h. IsSeparator c.args.source.now c.args.pass.now h × HasNormalAcross (corners c.args.source.now) (corners c.args.pass.now) h) old c.gain_across.new.planes.items) c.clear.ensures.items c.in_ok-gain_across.ensures)
    c.in_ok-gain_across-2.ensures

pub returns-clause-once : goal.returns-clause-once
returns-clause-once c = c.in_ok-gain_across-2.ensures.once (c.in_ok-gain_across.ensures.once (subst AreDistinct (sym c.clear.ensures.items) none_twice))

pub gain_across-requires-clause-found : goal.gain_across-requires-clause-found
gain_across-requires-clause-found c = none_found c.args.source.now _ c.clear.ensures.items

pub gain_across-requires-2-clause-found : goal.gain_across-requires-2-clause-found
gain_across-requires-2-clause-found c =
    found_still (λ h. IsSeparator c.args.source.now c.args.pass.now h × HasNormalAcross (corners c.args.source.now) (corners c.args.pass.now) h) c.args.source.now _ c.gain_across.new.planes.items
    (λ h is. is.0.touches) (λ h is. is.1.normal.lowest) c.in_ok-gain_across.ensures (none_found c.args.source.now _ c.clear.ensures.items)

pub gain_across-requires-clause-pair : goal.gain_across-requires-clause-pair
gain_across-requires-clause-pair c = record { both = inl (refl, refl); owner = inl (refl, refl) }

pub gain_across-requires-2-clause-pair : goal.gain_across-requires-2-clause-pair
gain_across-requires-2-clause-pair c = record { both = inr (refl, refl); owner = inr (refl, refl) }
