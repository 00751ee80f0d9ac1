use Rattle.std.specs.Prelude.{◌≡◌, ℕ, Bool, List, Option, Some, None, length, take, codes, if◌then◌else◌}
use Rattle.std.specs.Str.{bytes_eq, str_to_ascii_lowercase}
use Rattle.qm_contents.specs.declared.contents.Contents.{Contents}
use Rattle.qm_contents.specs.declared.contents.Contents.TheVariants.{Solid, Water, Slime, Lava, Sky}

-- Names are taken without regard to the case of ASCII letters.

-- whether a name, in small letters, begins with these
abbrev pub begins : List ℕ → List ℕ → Bool
begins name prefix = bytes_eq (take (length prefix) (str_to_ascii_lowercase name)) prefix

-- whether a whole name, in small letters, is this one
abbrev pub is_called : List ℕ → List ℕ → Bool
is_called name word = bytes_eq (str_to_ascii_lowercase name) word

-- a whole name, in small letters, is this one
abbrev pub IsCalled : List ℕ → List ℕ → Type 0
IsCalled name word = str_to_ascii_lowercase name ≡ word

-- the contents that a texture's name gives, by the first rule that fits; none for what is not in the drawn world
unfoldable pub contents_of_texture : List ℕ → Option Contents
contents_of_texture name =
    if begins name (codes "*lava") then Some Lava
    else (if begins name (codes "*slime") then Some Slime
    else (if begins name (codes "*") then Some Water
    else (if is_called name (codes "clip") then None
    else (if begins name (codes "sky") then Some Sky
    else Some Solid))))
