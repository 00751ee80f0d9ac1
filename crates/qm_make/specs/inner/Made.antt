use Rattle.std.specs.Option.{option_map}
use Rattle.qm_make.specs.declared.made.Product.{Product}
use Rattle.qm_statement.specs.Output.{Output}
use Rattle.qm_make.specs.StatusAndText.{due_status, due_text}

-- what is made of a map, as it is seen
abbrev pub output_of : Product → Output
output_of product = record {
  file = product.file.items;
  listing = option_map (λ listing. listing.items) product.listing;
  status = due_status product.outcome;
  text = due_text product.outcome;
}
