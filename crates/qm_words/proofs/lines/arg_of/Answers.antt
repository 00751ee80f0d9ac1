use Rattle.std.proofs.Common.{◌≡◌, ◌∙◌, ap, sym, true, ℕ, List, Some}
use Rattle.clap.specs.Walk.{Rule, rule_of}
use Rattle.clap.specs.declared.builder.action.ArgAction.TheVariants.{Append, SetTrue}
use Rattle.clap.specs.declared.builder.arg.Arg.{Arg}
use Rattle.qm_words.specs.declared.lines.ArgKind.{ArgKind}
use Rattle.qm_words.specs.inner.CommandLines.{rule_for}
use Rattle.qm_words.proofs.lines.arg_of.Goals as goal

same_kind : (id : List ℕ) (kind other : ArgKind) → kind ≡ other → rule_for other id ≡ rule_for kind id
same_kind id kind other is = ap (λ (k : ArgKind). rule_for k id) (sym is)

pub returns-in-Name-clause-rule : goal.returns-in-Name-clause-rule
returns-in-Name-clause-rule c =
    ap rule_of c.required.ensures
    ∙ ap (λ (r : Rule). record r { required = true }) c.new-arg.ensures.rule
    ∙ same_kind c.args.id.now c.args.kind _ c.in-Name.is

pub returns-in-Many-clause-rule : goal.returns-in-Many-clause-rule
returns-in-Many-clause-rule c =
    ap rule_of c.action.ensures
    ∙ ap (λ (arg : Arg). rule_of (record arg { action = Some Append })) c.required-in-Many.ensures
    ∙ ap (λ (r : Rule). record r { required = true; action = Some Append }) c.new-arg.ensures.rule
    ∙ same_kind c.args.id.now c.args.kind _ c.in-Many.is

pub returns-in-Value-clause-rule : goal.returns-in-Value-clause-rule
returns-in-Value-clause-rule c =
    ap rule_of c.long.ensures
    ∙ ap (λ (r : Rule). record r { long = Some c.args.id.now }) c.new-arg.ensures.rule
    ∙ same_kind c.args.id.now c.args.kind _ c.in-Value.is

pub returns-in-Flag-clause-rule : goal.returns-in-Flag-clause-rule
returns-in-Flag-clause-rule c =
    ap rule_of c.action-in-Flag.ensures
    ∙ ap (λ (arg : Arg). rule_of (record arg { action = Some SetTrue })) c.long-in-Flag.ensures
    ∙ ap (λ (r : Rule). record r { long = Some c.args.id.now; action = Some SetTrue }) c.new-arg.ensures.rule
    ∙ same_kind c.args.id.now c.args.kind _ c.in-Flag.is
