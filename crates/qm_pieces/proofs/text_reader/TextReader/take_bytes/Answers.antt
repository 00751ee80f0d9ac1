use Rattle.std.proofs.Common.{ℕ, List, ◌++◌, ◌-◌, Err, length, take, drop, take_all, append-nil, sym, subst, arith}
use Rattle.std.proofs.lemmas.List.{length-take, length-drop}
use Rattle.qm_pieces.specs.ReadSoFar.{IsReadOf}
use Rattle.qm_pieces.proofs.WholeTokens.{piece_further, read_rest}
use Rattle.qm_pieces.proofs.text_reader.TextReader.take_bytes.Goals as goal

pub loop-taken-init : goal.loop-taken-init
loop-taken-init c = record { within = omega arith; read = λ text is. subst (λ (t : List ℕ). IsReadOf t c.args.self.now) (sym (append-nil text)) is }

pub loop-taken-preserved : goal.loop-taken-preserved
loop-taken-preserved c =
    let piece = c.args.piece.now in
    let taken = c.loop-taken.taken in
    let told = c.in-Ok.ensures {u = tt} in
    record {
      within = omega (arith, told.within, length-take (length piece - taken) (drop taken piece), length-drop taken piece);
      read =
          λ text is.
          subst (λ (t : List ℕ). IsReadOf t c.take_some.new.self) (piece_further text piece taken c.in-Ok.count)
          (told.read (text ++ take taken piece) (c.loop-taken.invariant.read text is));
    }

pub returns-in-Err : goal.returns-in-Err
returns-in-Err c =
    let piece = c.args.piece.now in
    let taken = c.loop-taken.taken in
    λ text is.
    read_rest text piece taken c.take_some.new.self (Err c.in-Err.fault) ((c.in-Err.ensures {u = tt}).read (text ++ take taken piece) (c.loop-taken.invariant.read text is))

pub returns : goal.returns
returns c =
    λ text is.
    subst (λ (p : List ℕ). IsReadOf (text ++ p) c.loop-taken.self) (take_all c.loop-taken.taken c.args.piece.now (omega arith)) (c.loop-taken.invariant.read text is)
