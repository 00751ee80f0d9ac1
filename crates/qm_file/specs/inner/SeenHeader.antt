use Rattle.qm_formats.specs.FileLayout.{Header}
use Rattle.qm_file.specs.declared.header_reading.Header.{Header as ReadHeader}

-- a header that was read, as the layouts know it
abbrev pub seen_header : ReadHeader → Header
seen_header read =
    record {
      version = read.version;
      planes = read.planes;
      nodes = read.nodes;
      leaves = read.leaves;
      numbered = read.numbered;
      has_rows = read.has_rows;
      bound = read.bound;
      sections = read.sections;
    }
