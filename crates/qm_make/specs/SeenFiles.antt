use Rattle.std.specs.Option.{option_map}
use Rattle.qm_commands.specs.FileNames.{FileNames}
use Rattle.qm_make.specs.declared.files.Files.{Files}

-- the names of a command's files, as they are seen
abbrev pub file_names : Files → FileNames
file_names files = record {
  map_name = files.map_name.now;
  out_name = files.out_name.now;
  listing_name = option_map (λ name. name.now) files.listing_name;
}
