-- The canonical text of a map means that map.
use Rattle.std.proofs.Common.{◌≤◌, List, length, sym, subst}
use Rattle.qm_mapfile.specs.declared.entity.MapFile.{MapFile}
use Rattle.qm_grammar.specs.Symbol.{Symbol}
use Rattle.qm_grammar.specs.Grammar.{SpellsMap}
use Rattle.qm_grammar.specs.Faults.{text_limit}
use Rattle.qm_grammar.specs.Meaning.{IsMapText}
use Rattle.qm_grammar.specs.Valid.{IsValidMap}
use Rattle.qm_grammar.specs.Printed.{map_lines, printed_map}
use Rattle.qm_mapout.proofs.LinesLexed.{lines_lexed}
use Rattle.qm_mapout.proofs.EntitiesAgain.{entities_spelled, entities_writable}

pub printed_means : (map : MapFile) → IsValidMap map → length (printed_map map) ≤ text_limit → IsMapText (printed_map map) map
unfolding printed_map IsValidMap
printed_means map valid short =
    let found = lines_lexed (map_lines map) (entities_writable map.entities valid.1) in
    let P : List Symbol → Type 0 = λ ss. SpellsMap ss map in
    record {
      short = short;
      lexing = found.lexing;
      is_lexing = found.is_lexing;
      closed = found.closed;
      spelled = subst P (sym found.symbols_are) (record {
        entities = entities_spelled map.entities valid.1;
        some = valid.0;
        origins = valid.2;
      });
    }
