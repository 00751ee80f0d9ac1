use Rattle.qm_formats.specs.TreeFile.{TreeFile}

-- the same file in version 2
abbrev pub upgraded : TreeFile → TreeFile
upgraded file = record file { version = 2 }
