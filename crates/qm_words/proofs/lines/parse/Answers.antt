use Rattle.std.proofs.Common.{◌≡◌, ◌≢◌, ◌⊎◌, List, [], ℕ, refl, subst, sym, ⊎_elim, Err}
use Rattle.clap.proofs.WalkLemmas.{both}
use Rattle.clap.specs.Faults.{fault_of, is_free_app}
use Rattle.clap.specs.Kinds.{IsAmong, Kinds}
use Rattle.clap.specs.Simple.{App, app_of, built, is_simple}
use Rattle.clap.specs.declared.error.kind.ErrorKind.{ErrorKind}
use Rattle.clap.specs.declared.error.kind.ErrorKind.TheVariants.{OutOfMemory}
use Rattle.qm_words.specs.SeenWords.{bytes_of_words}
use Rattle.qm_words.specs.inner.Parsed.{IsParsedBy}
use Rattle.qm_words.specs.declared.order.WordsFault.{WordsFault}
use Rattle.qm_words.specs.declared.order.WordsFault.TheVariants.{Usage, Memory}
use Rattle.qm_words.proofs.lines.parse.Goals as goal

pub returns-in-Ok : goal.returns-in-Ok
returns-in-Ok c =
    let app = app_of c.args.command in
    (c.in-Ok.ensures.kinds c.requires, (c.in-Ok.ensures.matches (both (is_simple app) (is_free_app (built app)) c.requires).0).0)

no_kind : (kind : ErrorKind) (kinds : Kinds) → kinds ≡ [] → IsAmong kind kinds → ⊥
no_kind kind kinds none among = subst (IsAmong kind) none among

refused : (app : App) (words : List (List ℕ)) (kind : ErrorKind) (fault : WordsFault) → (kind ≡ OutOfMemory) ⊎ IsAmong kind (fault_of app words)
    → (fault ≡ Usage → kind ≢ OutOfMemory) → IsParsedBy app words (Err fault)
refused app words kind Usage has means = λ none. ⊎_elim (means refl) (no_kind kind (fault_of app words) none) has
refused app words kind Memory has means = tt

pub returns-in-Err : goal.returns-in-Err
returns-in-Err c =
    refused (app_of c.args.command) (bytes_of_words c.args.words.now) c.kind.result c.fault_of.result
    (subst (λ (kind : ErrorKind). (kind ≡ OutOfMemory) ⊎ IsAmong kind (fault_of (app_of c.args.command) (bytes_of_words c.args.words.now))) (sym c.kind.ensures) (c.in-Err.ensures.kinds c.requires))
    c.fault_of.ensures
