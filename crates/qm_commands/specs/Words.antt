use Rattle.std.specs.Prelude.{ℕ, List}
use Rattle.qm_commands.specs.declared.map_command.MapCommand.TheVariants.{Compile, Format}
use Rattle.qm_commands.specs.CompileWords.{AreCompileWords}
use Rattle.qm_commands.specs.DemoWords.{AreDemoWords}
use Rattle.qm_commands.specs.FormatWords.{AreFormatWords}
use Rattle.qm_commands.specs.InspectWords.{AreInspectWords}
use Rattle.qm_commands.specs.Order.{Order, of_map, of_tree, of_rooms, of_upgrade}
use Rattle.qm_commands.specs.UpgradeWords.{AreUpgradeWords}

-- Which words are a command of the program.

-- the words of an order
abbrev pub AreWordsOf : Order → List (List ℕ) → Type 0
AreWordsOf (of_map (Compile options listed) files) words = AreCompileWords words options listed files
AreWordsOf (of_map Format files) words = AreFormatWords words files
AreWordsOf (of_tree tree_name queries) words = AreInspectWords words tree_name queries
AreWordsOf (of_rooms rooms number) words = AreDemoWords words rooms number
AreWordsOf (of_upgrade tree_name out_name) words = AreUpgradeWords words tree_name out_name

-- words that are no command
abbrev pub AreNoCommand : List (List ℕ) → Type 0
AreNoCommand words = (order : Order) → AreWordsOf order words → ⊥
