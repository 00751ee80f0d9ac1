use Rattle.std.proofs.Common.{◌≡◌, ℕ, zero, ◌-◌, Bool, false, length, get_or, replicate, take, drop, ltb, sym, ap, ◌∙◌, arith}
use Rattle.std.proofs.lemmas.List.{length-replicate, length-take}
use Rattle.qm_lists.specs.inner.ReadRuns.{read_behind, read_due}
use Rattle.qm_formats.proofs.ReadParts.{run_first}
use Rattle.qm_runs.proofs.NonzeroParts.{nonzero_first, behind_any, some_nonzero}
use Rattle.qm_runs.proofs.reading.next_part.Goals as goal

pub returns-then-rest-ne0 : goal.returns-then-rest-ne0
returns-then-rest-ne0 c =
    let rest = c.args.rest.now in
    let due = c.args.due in
    let count = c.nonzero_length.result in
    let found = c.nonzero_length.ensures in
    let long : length (take count rest) ≡ count = omega (arith, length-take count rest, found.there) in
    let some = some_nonzero count due rest c.requires c.if-rest-ne0.true found.longest in
    record {
      some = omega (arith, long, some);
      fits = omega (arith, long, found.few);
      there = found.there;
      reads = behind_any due c.args.behind_run rest c.requires c.if-rest-ne0.true ∙ nonzero_first count due rest (record { few = found.few; there = found.there; nonzero = found.nonzero }) ∙ ap (λ (n : ℕ). read_behind (take count rest) count (read_due (due - n) false (drop count rest))) (sym long);
    }

pub returns : goal.returns
returns c =
    let rest = c.args.rest.now in
    let count = get_or rest 1 0 in
    let long : length (replicate count zero) ≡ count = length-replicate count zero in
    let reads = run_first c.args.due rest c.requires (omega (arith, c.if-rest-lt2.false)) c.if-rest-ne0.false c.if-count-eq0.false c.if-count-due.false in
    record {
      some = omega (arith, long, c.if-count-eq0.false);
      fits = omega (arith, long, c.if-count-due.false);
      there = c.if-rest-lt2.false;
      reads = ap (λ (b : Bool). read_due c.args.due b rest) c.if-behind_run.false ∙ reads ∙ ap (λ (k : ℕ). read_behind (replicate count zero) 2 (read_due (c.args.due - k) (ltb count 255) (drop 2 rest))) (sym long);
    }
