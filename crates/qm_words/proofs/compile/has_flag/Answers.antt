use Rattle.std.proofs.Common.{◌≡◌, ◌∙◌, ℕ, Bool, cond, codes, true, false, List, Option, Some}
use Rattle.clap.proofs.WalkLemmas.{one_text-rows}
use Rattle.clap.specs.Matches.{found_of, one_text}
use Rattle.qm_words.proofs.compile.has_flag.Goals as goal

flag_is : (given result : Bool) (text : Option (List ℕ)) → text ≡ Some (cond given (codes "true") (codes "false"))
    → (text ≡ Some (codes "true") → result ≡ true) → (text ≡ Some (codes "false") → result ≡ false) → result ≡ given
flag_is true result text is on off = on is
flag_is false result text is on off = off is

pub returns : goal.returns
returns c =
    let found = found_of c.args.matches.now in
    let id = c.args.id.now in
    λ given is. flag_is given c.get_flag.result (one_text found id) (one_text-rows found id ∙ is) c.get_flag.ensures.value c.get_flag.ensures.other
