use Rattle.std.specs.Prelude.{ℕ, List, map, Option, None, option_map, is_some}
use Rattle.std.specs.Borrow.{Bor}
use Rattle.qm_commands.specs.declared.map_command.MapCommand.TheVariants as command
use Rattle.qm_commands.specs.FileNames.{FileNames}
use Rattle.qm_commands.specs.Order.{Order, of_map, of_tree, of_rooms, of_upgrade}
use Rattle.qm_words.specs.declared.order.Order.{Order as SeenOrder}
use Rattle.qm_words.specs.declared.order.Order.TheVariants as seen

-- Words and what they ask for, as they are seen.

-- the bytes of words
abbrev pub bytes_of_words : List (Bor (List ℕ)) → List (List ℕ)
bytes_of_words words = map (λ word. word.now) words

-- the names of a command's files
abbrev pub names_of : List ℕ → List ℕ → Option (List ℕ) → FileNames
names_of map_name out_name listing_name = record { map_name = map_name; out_name = out_name; listing_name = listing_name }

-- what an order asks for
abbrev pub order_of : SeenOrder → Order
order_of (seen.Compile map_name out_name prt threads fast hulls models faces) =
    of_map (command.Compile (record { threads = threads; fast = fast; hulls = hulls; models = models; faces = faces }) (is_some prt)) (names_of map_name.now out_name.now (option_map (λ name. name.now) prt))
order_of (seen.Inspect tree queries) = of_tree tree.now queries.items
order_of (seen.Format map_name out_name) = of_map command.Format (names_of map_name.now out_name.now None)
order_of (seen.Demo rooms number) = of_rooms rooms number
order_of (seen.Upgrade tree out_name) = of_upgrade tree.now out_name.now
