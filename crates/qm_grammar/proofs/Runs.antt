-- How a row of symbols is read, one by one, and how that goes with a row of lexemes.
use Rattle.std.proofs.Common.{◌≡◌, List, [], ◌∷◌, ◌++◌, map, Result, Ok, Err, refl, sym, ap, ◌∙◌}
use Rattle.qm_lists.proofs.Cases.{by_result}
use Rattle.qm_tokens.specs.Lexeme.{Lexeme}
use Rattle.qm_grammar.specs.declared.refusal.Refusal.{Refusal}
use Rattle.qm_grammar.specs.Symbol.{Symbol, symbol_of}
use Rattle.qm_grammar.specs.Prefix.{Prefix}
use Rattle.qm_grammar.specs.inner.Machine.{step, steps, runs}

-- no result is both
pub not_both : {A E P : Type 0} (r : Result A E) (a : A) (e : E) → r ≡ Ok a → r ≡ Err e → P
not_both r a e good bad = absurd (let never : Ok a ≡ Err e = sym good ∙ bad in cc)

pub same_ok : {A E : Type 0} (r : Result A E) (a b : A) → r ≡ Ok a → r ≡ Ok b → a ≡ b
same_ok r a b one other = cc

pub same_err : {A E : Type 0} (r : Result A E) (a b : E) → r ≡ Err a → r ≡ Err b → a ≡ b
same_err r a b one other = cc

-- a first symbol that is read
pub runs_step : (prefix next : Prefix) (symbol : Symbol) (symbols : List Symbol) → step prefix symbol ≡ Ok next → runs prefix (symbol ∷ symbols) ≡ runs next symbols
runs_step prefix next symbol symbols read = rw (read, runs) refl

-- a first symbol that is refused
pub runs_refused : (prefix : Prefix) (symbol : Symbol) (symbols : List Symbol) (reason : Refusal) → step prefix symbol ≡ Err reason → runs prefix (symbol ∷ symbols) ≡ Err reason
runs_refused prefix symbol symbols reason refused = rw (refused, runs) refl

-- symbols that are read, before others
pub runs_append : (prefix next : Prefix) (symbols others : List Symbol) → runs prefix symbols ≡ Ok next → runs prefix (symbols ++ others) ≡ runs next others
runs_append prefix next [] others read = ap (λ (f : Prefix). runs f others) cc
runs_append prefix next (symbol ∷ symbols) others read =
    by_result (step prefix symbol)
    (λ mid is. runs_step prefix mid symbol (symbols ++ others) is
    ∙ runs_append mid next symbols others (sym (runs_step prefix mid symbol symbols is) ∙ read))
    (λ reason is. not_both (runs prefix (symbol ∷ symbols)) next reason read (runs_refused prefix symbol symbols reason is))

-- two rows that are read, one after another
pub runs_then : (prefix mid next : Prefix) (symbols others : List Symbol) → runs prefix symbols ≡ Ok mid → runs mid others ≡ Ok next → runs prefix (symbols ++ others) ≡ Ok next
runs_then prefix mid next symbols others first second = runs_append prefix mid symbols others first ∙ second

-- one symbol
pub runs_one : (prefix next : Prefix) (symbol : Symbol) → step prefix symbol ≡ Ok next → runs prefix (symbol ∷ []) ≡ Ok next
runs_one prefix next symbol read = runs_step prefix next symbol [] read

-- a first lexeme that is read
pub steps_step : (prefix next : Prefix) (lexeme : Lexeme) (lexemes : List Lexeme) → step prefix (symbol_of lexeme) ≡ Ok next → steps prefix (lexeme ∷ lexemes) ≡ steps next lexemes
steps_step prefix next lexeme lexemes read = rw (read, steps) refl

-- a first lexeme that is refused
pub steps_refused : (prefix : Prefix) (lexeme : Lexeme) (lexemes : List Lexeme) (reason : Refusal) → step prefix (symbol_of lexeme) ≡ Err reason → steps prefix (lexeme ∷ lexemes) ≡ Err (reason, lexeme)
steps_refused prefix lexeme lexemes reason refused = rw (refused, steps) refl

-- lexemes are read as their symbols are
pub steps_runs : (prefix next : Prefix) (lexemes : List Lexeme) → steps prefix lexemes ≡ Ok next → runs prefix (map symbol_of lexemes) ≡ Ok next
steps_runs prefix next [] read = cc
steps_runs prefix next (lexeme ∷ lexemes) read =
    by_result (step prefix (symbol_of lexeme))
    (λ mid is. runs_step prefix mid (symbol_of lexeme) (map symbol_of lexemes) is
    ∙ steps_runs mid next lexemes (sym (steps_step prefix mid lexeme lexemes is) ∙ read))
    (λ reason is. not_both (steps prefix (lexeme ∷ lexemes)) next (reason, lexeme) read (steps_refused prefix lexeme lexemes reason is))

pub runs_steps : (prefix next : Prefix) (lexemes : List Lexeme) → runs prefix (map symbol_of lexemes) ≡ Ok next → steps prefix lexemes ≡ Ok next
runs_steps prefix next [] read = cc
runs_steps prefix next (lexeme ∷ lexemes) read =
    by_result (step prefix (symbol_of lexeme))
    (λ mid is. steps_step prefix mid lexeme lexemes is
    ∙ runs_steps mid next lexemes (sym (runs_step prefix mid (symbol_of lexeme) (map symbol_of lexemes) is) ∙ read))
    (λ reason is. not_both (runs prefix (map symbol_of (lexeme ∷ lexemes))) next reason read (runs_refused prefix (symbol_of lexeme) (map symbol_of lexemes) reason is))

-- a lexeme behind others that are read is the first that is refused
pub record IsFirstRefused (prefix : Prefix) (lexemes : List Lexeme) (reason : Refusal) (lexeme : Lexeme) : Type 0 where
  pub before : List Lexeme
  pub after : List Lexeme
  pub split : lexemes ≡ before ++ lexeme ∷ after
  pub mid : Prefix
  pub read : runs prefix (map symbol_of before) ≡ Ok mid
  pub refused : step mid (symbol_of lexeme) ≡ Err reason

first_here : (prefix : Prefix) (lexeme : Lexeme) (lexemes : List Lexeme) (reason : Refusal) → step prefix (symbol_of lexeme) ≡ Err reason → IsFirstRefused prefix (lexeme ∷ lexemes) reason lexeme
first_here prefix lexeme lexemes reason refused =
    record { before = []; after = lexemes; split = refl; mid = prefix; read = refl; refused = refused }

first_behind : (prefix next : Prefix) (first lexeme : Lexeme) (lexemes : List Lexeme) (reason : Refusal) → step prefix (symbol_of first) ≡ Ok next → IsFirstRefused next lexemes reason lexeme → IsFirstRefused prefix (first ∷ lexemes) reason lexeme
first_behind prefix next first lexeme lexemes reason read rest = record {
  before = first ∷ rest.before;
  after = rest.after;
  split = ap (λ (l : List Lexeme). first ∷ l) rest.split;
  mid = rest.mid;
  read = runs_step prefix next (symbol_of first) (map symbol_of rest.before) read ∙ rest.read;
  refused = rest.refused;
}

pub steps_first : (prefix : Prefix) (lexemes : List Lexeme) (reason : Refusal) (lexeme : Lexeme) → steps prefix lexemes ≡ Err (reason, lexeme) → IsFirstRefused prefix lexemes reason lexeme
steps_first prefix [] reason lexeme refused = not_both (steps prefix []) prefix (reason, lexeme) refl refused
steps_first prefix (first ∷ lexemes) reason lexeme refused =
    by_result (step prefix (symbol_of first))
    (λ next is. first_behind prefix next first lexeme lexemes reason is
    (steps_first next lexemes reason lexeme (sym (steps_step prefix next first lexemes is) ∙ refused)))
    (λ other is.
    let both : (other, first) ≡ (reason, lexeme) = same_err (steps prefix (first ∷ lexemes)) (other, first) (reason, lexeme) (steps_refused prefix first lexemes other is) refused in
    let reasons : other ≡ reason = ap (λ (p : Refusal × Lexeme). p.0) both in
    let lexes : first ≡ lexeme = ap (λ (p : Refusal × Lexeme). p.1) both in
    rw (← reasons, ← lexes) (first_here prefix first lexemes other is))

-- behind lexemes that are read
steps_append : (prefix next : Prefix) (lexemes others : List Lexeme) → runs prefix (map symbol_of lexemes) ≡ Ok next → steps prefix (lexemes ++ others) ≡ steps next others
steps_append prefix next [] others read = ap (λ (f : Prefix). steps f others) cc
steps_append prefix next (lexeme ∷ lexemes) others read =
    by_result (step prefix (symbol_of lexeme))
    (λ mid is. steps_step prefix mid lexeme (lexemes ++ others) is
    ∙ steps_append mid next lexemes others (sym (runs_step prefix mid (symbol_of lexeme) (map symbol_of lexemes) is) ∙ read))
    (λ reason is. not_both (runs prefix (map symbol_of (lexeme ∷ lexemes))) next reason read (runs_refused prefix (symbol_of lexeme) (map symbol_of lexemes) reason is))

-- the first that is refused is where the lexemes end
pub first_steps : (prefix : Prefix) (lexemes : List Lexeme) (reason : Refusal) (lexeme : Lexeme) → IsFirstRefused prefix lexemes reason lexeme → steps prefix lexemes ≡ Err (reason, lexeme)
first_steps prefix lexemes reason lexeme first =
    ap (steps prefix) first.split
    ∙ steps_append prefix first.mid first.before (lexeme ∷ first.after) first.read
    ∙ steps_refused first.mid lexeme first.after reason first.refused
