-- The theorem on one page follows from what a run answers.
use Rattle.std.proofs.Common.{◌≡◌, ℕ, Bool, true, false, List, sym, ◌∙◌, subst, inl, inr}
use Rattle.std.specs.Prelude.{IsTrue}
use Rattle.qm_surroundings.specs.Surroundings.{Surroundings}
use Rattle.qm_surroundings.specs.ShelfState.{ShelfState, text_under}
use Rattle.qm_surroundings.specs.WholeFiles.{HoldsExactly}
use Rattle.qm_mapfile.specs.declared.entity.MapFile.{MapFile}
use Rattle.qm_grammar.specs.Meaning.{IsMapText}
use Rattle.qm_contacts.specs.World.{World}
use Rattle.qm_formats.specs.TreeFile.{TreeFile}
use Rattle.qm_commands.specs.declared.map_command.MapCommand.TheVariants.{Compile}
use Rattle.qm_commands.specs.declared.options.Options.{Options}
use Rattle.qm_commands.specs.FileNames.{FileNames}
use Rattle.qm_commands.specs.Order.{Order, of_map}
use Rattle.qm_commands.specs.Words.{AreWordsOf}
use Rattle.qm_statement.specs.declared.status.Status.TheVariants.{Done, Leak}
use Rattle.qm_statement.specs.declared.summary.Summary.{Summary}
use Rattle.qm_statement.specs.ComesOf.{ComesOf, written}
use Rattle.qm_statement.specs.CompiledMap.{IsCompiledWithoutLeak}
use Rattle.qm_statement.specs.Headline.{AreBounded, TellsOfMap, IsHeadline}
use Rattle.qm_statement.specs.Output.{Output, IsOutputOf}
use Rattle.qm_statement.specs.Rows.{AreRowsAsAsked}
use Rattle.qm_statement.specs.Run.{OrderComesOf, Due, command, Answers}
use Rattle.qm_traced_files.proofs.MapSpanLaws.{spans_of_compiled, hull_spans_of_compiled}

bounded : (fast : Bool) (workers : ℕ) (world : World) (rows : List (List Bool)) → AreRowsAsAsked fast workers world rows → AreBounded fast world rows
bounded true workers world rows are = are
bounded false workers world rows are = are.only_led

tells_of_map : (map : MapFile) (options : Options) (file : TreeFile) (world : World) (summary : Summary) → IsCompiledWithoutLeak map options file world summary → TellsOfMap map options file
tells_of_map map options file world summary is = record {
  contents = is.gives_contents.gives;
  unfilled = is.tree;
  is_tree = is.is_built.is_tree;
  origins = is.origins;
  are_origins = is.is_built.are_origins;
  none_leaks = is.none_leaks;
  marks = is.is_marked.row;
  is_marked = is.is_marked.is_marked;
  filled = is.is_marked.filled;
  rows = is.rows;
  has_rows = is.has_rows;
  sight = is.hold_sight;
  world = world;
  is_world = is.is_world;
  bounded = bounded options.fast options.threads world is.rows is.are_rows;
  spans = spans_of_compiled map options file world summary is;
  hull_spans = hull_spans_of_compiled map options file world summary is;
  sections = is.has_sections;
  form = is.has_form;
}

module _ (before after : ShelfState) (tells : IsTrue before.tells) (options : Options) (listed : Bool) (files : FileNames) where
  of_output : (map : MapFile) (output : Output) → IsMapText (text_under before files.map_name) map → HoldsExactly after files.out_name output.file → output.status ≡ Done →
      IsOutputOf (Compile options listed) map output → IsHeadline before after options files
  unfolding IsOutputOf
  of_output map output means held done (inl tight) = record {
    map = map;
    means = means;
    file = tight.file;
    valid = tight.is_file.valid;
    held = subst (HoldsExactly after files.out_name) tight.is_file.exactly held;
    tells = tells_of_map map options tight.file tight.world tight.summary tight.is_compiled;
  }
  of_output map output means held done (inr leaks) = absurd (let same : Leak ≡ Done = sym leaks.is_status ∙ done in cc)

  of_compile : (text : List ℕ) → ComesOf before after (Compile options listed) files Done text → IsHeadline before after options files
  of_compile text (written w unmet) =
      let due = w.is_due in
      let means = subst (λ (text : List ℕ). IsMapText text due.map) (due.is_meant.is_held tells) due.is_meant.means in
      of_output due.map w.output means (w.holds_out tells) w.is_status due.is_made

-- words that are one command at most
module _ (words : List (List ℕ)) (before after : Surroundings) (one : (order other : Order) → AreWordsOf order words → AreWordsOf other words → order ≡ other) where
  module _ (options : Options) (listed : Bool) (files : FileNames) (are : AreWordsOf (of_map (Compile options listed) files) words) (tells : IsTrue before.shelf.tells) where
    of_due : (text : List ℕ) → Due words before.shelf after.shelf Done text → IsHeadline before.shelf after.shelf options files
    of_due text (command other other_are comes) =
        of_compile before.shelf after.shelf tells options listed files text
        (subst (λ (order : Order). OrderComesOf before.shelf after.shelf order Done text) (one other (of_map (Compile options listed) files) other_are are) comes)

    pub headline : Answers words before after Done → IsHeadline before.shelf after.shelf options files
    unfolding Answers
    headline answers = of_due answers.0 answers.1
