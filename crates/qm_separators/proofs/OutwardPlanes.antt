-- The outward plane of three points as expressions, and that the second of them lies on it.
use Rattle.std.proofs.Common.{◌≡◌, ℤ, pos, ◌-ℤ◌, ◌*ℤ◌, [], ap, ◌∙◌}
use Rattle.qm_space.specs.Point.{Point}
use Rattle.qm_space.specs.Plane.{value}
use Rattle.qm_space.specs.ThreePoints.{outward_plane}
use Rattle.qm_numbers.proofs.IntegerProducts.{*ℤ_zero}
use Rattle.qm_numbers.proofs.Ring.{number, ◌⊕◌, ◌⊖◌, ◌⊗◌, solved}
use Rattle.qm_space.proofs.PlaneSymbols.{PlaneSymbols, PointSymbols, point_from, numbers_of_point, symbol_value}

abbrev pub symbol_outward : PointSymbols → PointSymbols → PointSymbols → PlaneSymbols
symbol_outward p q r =
    let ax = p.x ⊖ q.x in
    let ay = p.y ⊖ q.y in
    let az = p.z ⊖ q.z in
    let bx = r.x ⊖ q.x in
    let by = r.y ⊖ q.y in
    let bz = r.z ⊖ q.z in
    let nx = ay ⊗ bz ⊖ az ⊗ by in
    let ny = az ⊗ bx ⊖ ax ⊗ bz in
    let nz = ax ⊗ by ⊖ ay ⊗ bx in
    record { nx = nx; ny = ny; nz = nz; d = nx ⊗ q.x ⊕ ny ⊗ q.y ⊕ nz ⊗ q.z }

no_weight : (d w : ℤ) → w ≡ pos 1 → d *ℤ (pos 1 -ℤ w) ≡ pos 0
no_weight d w e = ap (λ t. d *ℤ (pos 1 -ℤ t)) e ∙ *ℤ_zero d

pub outward_holds_second : (p0 p1 p2 : Point) → p1.w ≡ pos 1 → value (outward_plane p0 p1 p2) p1 ≡ pos 0
unfolding value outward_plane
outward_holds_second p0 p1 p2 e =
    let p = point_from 0 in let q = point_from 4 in let r = point_from 8 in let h = symbol_outward p q r in
    solved (numbers_of_point p0 (numbers_of_point p1 (numbers_of_point p2 []))) (symbol_value h q) (h.d ⊗ (number (pos 1) ⊖ q.w)) tt
    ∙ no_weight _ p1.w e
