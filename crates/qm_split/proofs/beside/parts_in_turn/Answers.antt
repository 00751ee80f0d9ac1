use Rattle.std.proofs.Common.{◌≡◌, ℕ, ◌+◌, List, [], length, sym, ap, subst, arith}
use Rattle.std.proofs.lemmas.List.{length_push}
use Rattle.qm_solids.specs.InBook.{solid_at, solid_in}
use Rattle.qm_split.specs.declared.contender.Part.{Part}
use Rattle.qm_split.specs.inner.Parts.{IsPartIn}
use Rattle.qm_split.specs.inner.CubeParts.{ArePartsOfCube}
use Rattle.qm_split.proofs.CubeParts.{no_parts, parts_more}
use Rattle.qm_split.proofs.beside.parts_in_turn.Goals as goal

pub loop-i-init : goal.loop-i-init
loop-i-init c = record {
  follows = let none = ap length c.new-parts.ensures.items in omega (arith, none);
  are = subst (λ (ps : List Part). ArePartsOfCube c.args.book.now c.args.list.now c.args.from ps) (sym c.new-parts.ensures.items) (no_parts c.args.book.now c.args.list.now c.args.from);
}

pub loop-i-preserved : goal.loop-i-preserved
loop-i-preserved c =
    let list = c.args.list.now in
    let book = c.args.book.now in
    let before = c.loop-i.parts.items in
    let part = c.in_ok-brush_in_cube.field-0 in
    let follows : c.args.from + length before ≡ c.loop-i.i = c.loop-i.invariant.follows in
    let at = subst (λ (n : ℕ). IsPartIn book [] (solid_in book (solid_at list n)) part) (sym follows) c.in_ok-brush_in_cube.ensures in
    let long = length_push before part in
    let items = c.in_ok-push.ensures.items in
    record {
      follows = let all = ap length items in omega (arith, follows, long, all);
      are = subst (λ (ps : List Part). ArePartsOfCube book list c.args.from ps) (sym items) (parts_more book list c.args.from before part c.loop-i.invariant.are at);
    }

pub returns : goal.returns
returns c =
    let follows = c.loop-i.invariant.follows in
    let test = c.loop-i-test.false in
    let end = c.loop-i.auto.i-end in (omega (arith, follows, test, end, c.requires.in_order), c.loop-i.invariant.are)
