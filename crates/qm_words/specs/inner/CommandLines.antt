use Rattle.std.specs.Prelude.{◌≡◌, true, Some, codes, Result, IfOk}
use Rattle.clap.specs.Walk.{Rule, Text}
use Rattle.clap.specs.Simple.{App, app_of, new_app, new_rule, on_top, with_rule}
use Rattle.clap.specs.declared.builder.action.ArgAction.TheVariants.{Append, SetTrue}
use Rattle.clap.specs.declared.builder.command.Command.{Command}
use Rattle.qm_words.specs.declared.lines.ArgKind.{ArgKind}
use Rattle.qm_words.specs.declared.lines.ArgKind.TheVariants.{Name, Many, Value, Flag}

-- The command lines of the verbs, as the parser of words has them.

-- an argument that stands by its place and has to be there
abbrev pub name_rule : Text → Rule
name_rule id = record (new_rule id) { required = true }

-- an argument that stands by its place as often as one likes, and once at least
abbrev pub many_rule : Text → Rule
many_rule id = record (new_rule id) { required = true; action = Some Append }

-- an option with a value
abbrev pub value_rule : Text → Rule
value_rule id = record (new_rule id) { long = Some id }

-- an option without one
abbrev pub flag_rule : Text → Rule
flag_rule id = record (new_rule id) { long = Some id; action = Some SetTrue }

-- an argument of either kind
abbrev pub rule_for : ArgKind → Text → Rule
rule_for Name id = name_rule id
rule_for Many id = many_rule id
rule_for Value id = value_rule id
rule_for Flag id = flag_rule id

-- a command whose words begin behind its verb, and which has no option of its own accord
abbrev pub plain_app : Text → App
plain_app verb = on_top (λ s. record s { no_binary_name = true; disable_help_flag = true }) (new_app verb)

-- a verb with the first of its words
abbrev pub named_app : Text → Text → App
named_app verb first = with_rule (plain_app verb) (name_rule first)

-- a verb with two words
abbrev pub names_app : Text → Text → Text → App
names_app verb first second = with_rule (named_app verb first) (name_rule second)

abbrev pub pair_app : Text → App
pair_app verb = names_app verb (codes "first") (codes "second")

abbrev pub compile_app : App
compile_app =
    with_rule (with_rule (with_rule (with_rule (with_rule (with_rule (names_app (codes "compile") (codes "map") (codes "out"))
    (value_rule (codes "prt"))) (value_rule (codes "threads"))) (flag_rule (codes "fast"))) (flag_rule (codes "hulls"))) (flag_rule (codes "models"))) (flag_rule (codes "faces"))

abbrev pub inspect_app : App
inspect_app = with_rule (named_app (codes "inspect") (codes "tree")) (many_rule (codes "query"))

-- a command has this line, where there was memory for it
abbrev pub IsCommandLine : {E : Type 0} → App → Result Command E → Type 0
IsCommandLine app command = IfOk command (λ line. app_of line ≡ app)
