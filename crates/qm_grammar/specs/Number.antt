use Rattle.std.specs.Prelude.{◌<◌, ℕ, ◌*◌, ℤ, List, Ok, unsigned_abs}
use Rattle.qm_numerals.specs.declared.fraction.Fraction.{Fraction}
use Rattle.qm_numerals.specs.Answer.{IsAnswer}
use Rattle.qm_space.specs.Bounds.{world_extent}
use Rattle.qm_space.specs.Point.{IsThousandths}
use Rattle.qm_grammar.specs.declared.unit.TheConstants.{PARTS_OF_UNIT}

-- how many decimals a coordinate may have
abbrev pub coordinate_places : ℕ
coordinate_places = 3

-- so many thousandths as a fraction
abbrev pub thousandths_fraction : ℤ → Fraction
thousandths_fraction number = record { numerator = number; places = coordinate_places }

-- the text is a number of thousandths, as `64`, `+64`, `64.000`, `-0` and `0.125` are
abbrev pub SpellsThousandths : List ℕ → ℤ → Type 0
SpellsThousandths text number = IsAnswer text coordinate_places (Ok (thousandths_fraction number))

-- the text is a coordinate of the closed cube, in thousandths of a map unit
pub record SpellsCoordinate (text : List ℕ) (number : ℤ) : Type 0 where
  pub spelled : SpellsThousandths text number
  pub in_range : IsThousandths number

-- the text spells a number of thousandths outside the closed cube
pub record IsOutsideText (text : List ℕ) : Type 0 where
  pub number : ℤ
  pub spelled : SpellsThousandths text number
  pub out_of_range : IsThousandths number → ⊥

-- how many parts of a map unit the numbers of an origin count: they are millionths
abbrev pub parts_of_unit : ℕ
parts_of_unit = unsigned_abs PARTS_OF_UNIT

-- the text is a number of millionths of a map unit, strictly inside the extent of the world
pub record SpellsMillionths (text : List ℕ) (number : ℤ) : Type 0 where
  pub spelled : IsAnswer text 6 (Ok (record { numerator = number; places = 6 }))
  pub in_range : unsigned_abs number < world_extent * parts_of_unit
