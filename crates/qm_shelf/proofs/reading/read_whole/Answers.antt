use Rattle.std.proofs.Common.{◌≡◌, ◌+◌, ◌++◌, ◌≤◌, ℕ, List, Ok, take, drop, vec_len, length, sym, ap, ◌∙◌, arith, subst}
use Rattle.std.proofs.lemmas.List.{length-take, length-append, length-drop}
use Rattle.qm_surroundings.specs.HeldFile.{bytes_of_file}
use Rattle.qm_shelf.specs.SeenForms.{shelf_state}
use Rattle.qm_lists.specs.Limit.{up_to_one_past}
use Rattle.qm_shelf.proofs.Counted.{stays_twice, no_fault_twice, read_fault_since}
use Rattle.qm_shelf.proofs.Pieces.{read_further, read_all}
use Rattle.qm_shelf.proofs.reading.read_whole.Goals as goal

pub returns-in-Err-clause-err : goal.returns-in-Err-clause-err
returns-in-Err-clause-err g c =
    let told = c.in-Err.ensures in
    read_fault_since (shelf_state g.H.Shelf c.args.shelf.now) (shelf_state g.H.Shelf c.loop-shelf.shelf) (shelf_state g.H.Shelf c.add_piece.new.shelf) c.in-Err.fault c.args.name.now c.loop-shelf.invariant.no_fault told.read_faults_counted told.write_faults_stay

pub returns-in-Err-clause-kept : goal.returns-in-Err-clause-kept
returns-in-Err-clause-kept g c = stays_twice _ _ _ c.loop-shelf.invariant.kept c.in-Err.ensures.held_stays

pub loop-shelf-preserved : goal.loop-shelf-preserved
loop-shelf-preserved g c =
    let name = c.args.name.now in
    let bytes = bytes_of_file (g.H.Shelf.held c.args.shelf.now name) in
    let same = ap bytes_of_file (c.loop-shelf.invariant.kept name) in
    let old = c.loop-shelf.bytes in
    let new = c.add_piece.new.bytes in
    let count = c.in-Ok.count in
    record {
      limit = c.in-Ok.ensures.limit;
      piece = simp (length-take, length-append, length-drop) (omega arith);
      so_far = λ tells.
          let grew = subst (λ (file : List ℕ). new.items ≡ old.items ++ take count (drop (vec_len old) file)) same (c.in-Ok.ensures.bytes tells) in
          read_further bytes old.items new.items (vec_len old) count (c.loop-shelf.invariant.so_far tells) grew ∙ ap (λ (n : ℕ). take n bytes) (sym c.in-Ok.ensures.count);
      kept = stays_twice _ _ _ c.loop-shelf.invariant.kept c.in-Ok.ensures.held_stays;
      no_fault = no_fault_twice (shelf_state g.H.Shelf c.args.shelf.now) (shelf_state g.H.Shelf c.loop-shelf.shelf) (shelf_state g.H.Shelf c.add_piece.new.shelf) c.loop-shelf.invariant.no_fault (record { reads = c.in-Ok.ensures.read_faults_counted; writes = c.in-Ok.ensures.write_faults_stay });
    }

pub returns-then-count-eq0-clause-bytes : goal.returns-then-count-eq0-clause-bytes
unfolding up_to_one_past
returns-then-count-eq0-clause-bytes g c = λ tells.
    let name = c.args.name.now in
    let bytes = bytes_of_file (g.H.Shelf.held c.args.shelf.now name) in
    let same = ap bytes_of_file (c.loop-shelf.invariant.kept name) in
    let old = c.loop-shelf.bytes in
    let new = c.add_piece.new.bytes in
    let none : c.in-Ok.count ≡ 0 = c.if-count-eq0.true in
    let grew = subst (λ (file : List ℕ). new.items ≡ old.items ++ take c.in-Ok.count (drop (vec_len old) file)) same (c.in-Ok.ensures.bytes tells) in
    let stopped = c.in-Ok.ensures.progress tells (ap (λ (n : ℕ). Ok n) none) in
    let end = subst (λ (file : List ℕ). length file ≤ vec_len old) same stopped in
    let so_far = read_further bytes old.items new.items (vec_len old) c.in-Ok.count (c.loop-shelf.invariant.so_far tells) grew in
    read_all bytes new.items (vec_len old + c.in-Ok.count) (c.args.limit + 1) so_far (omega (arith, end, none)) (omega (arith, none, c.loop-shelf.invariant.limit))

pub returns-then-count-eq0-clause-kept : goal.returns-then-count-eq0-clause-kept
returns-then-count-eq0-clause-kept g c = stays_twice _ _ _ c.loop-shelf.invariant.kept c.in-Ok.ensures.held_stays

pub returns-then-count-eq0-clause-ok : goal.returns-then-count-eq0-clause-ok
returns-then-count-eq0-clause-ok g c = no_fault_twice (shelf_state g.H.Shelf c.args.shelf.now) (shelf_state g.H.Shelf c.loop-shelf.shelf) (shelf_state g.H.Shelf c.add_piece.new.shelf) c.loop-shelf.invariant.no_fault (record { reads = c.in-Ok.ensures.read_faults_counted; writes = c.in-Ok.ensures.write_faults_stay })

pub returns-clause-bytes : goal.returns-clause-bytes
unfolding up_to_one_past
returns-clause-bytes g c = λ tells.
    let all : vec_len c.loop-shelf.bytes ≡ c.args.limit + 1 = omega arith in
    c.loop-shelf.invariant.so_far tells ∙ ap (λ (n : ℕ). take n (bytes_of_file (g.H.Shelf.held c.args.shelf.now c.args.name.now))) all
