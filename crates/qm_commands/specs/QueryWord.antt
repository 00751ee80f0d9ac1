use Rattle.std.specs.Prelude.{◌≡◌, ◌<◌, ◌^◌, ◌⊎◌, ℕ, zero, suc, ℤ, List, [], ◌∷◌, ◌++◌, codes}
use Rattle.std.specs.Fmt.{decimal}
use Rattle.qm_numerals.specs.Answer.{IsValue}
use Rattle.qm_commands.specs.declared.millionths.Millionths.{Millionths}
use Rattle.qm_commands.specs.declared.query.Query.{Query}
use Rattle.qm_commands.specs.declared.query.Query.TheVariants.{Count, At, Hull, Trace, HullTrace, Model, ModelAt, Faces, Face, Row, Sees, Parts}

-- How a query is written.

-- a number with at most six decimals, in millionths
abbrev pub AreMillionths : List ℕ → ℤ → Type 0
AreMillionths text n = IsValue text 6 (record { numerator = n; places = 6 })

-- `X,Y,Z`
pub record ArePlaceNumbers (text : List ℕ) (x y z : ℤ) : Type 0 where
  pub first : List ℕ
  pub second : List ℕ
  pub third : List ℕ
  pub text_is : text ≡ first ++ (44 ∷ (second ++ (44 ∷ third)))
  pub is_x : AreMillionths first x
  pub is_y : AreMillionths second y
  pub is_z : AreMillionths third z

-- a place behind the name of what is asked there
pub record IsPlaceWord (name word : List ℕ) (x y z : ℤ) : Type 0 where
  pub numbers : List ℕ
  pub word_is : word ≡ name ++ numbers
  pub are_numbers : ArePlaceNumbers numbers x y z

-- there are two hulls
abbrev pub IsHullNumber : ℕ → Type 0
IsHullNumber hull = (hull ≡ 1) ⊎ (hull ≡ 2)

-- `hull=H,`
abbrev pub hull_name : ℕ → List ℕ
hull_name (suc zero) = codes "hull=1,"
hull_name _ = codes "hull=2,"

-- the ends of a segment: `X,Y,Z,U,V,W`
pub record AreEndNumbers (text : List ℕ) (from to : Millionths) : Type 0 where
  pub from_text : List ℕ
  pub to_text : List ℕ
  pub text_is : text ≡ from_text ++ (44 ∷ to_text)
  pub is_from : ArePlaceNumbers from_text from.x from.y from.z
  pub is_to : ArePlaceNumbers to_text to.x to.y to.z

-- two ends behind the name of what is asked along their segment
pub record IsTraceWord (name word : List ℕ) (from to : Millionths) : Type 0 where
  pub numbers : List ℕ
  pub word_is : word ≡ name ++ numbers
  pub are_ends : AreEndNumbers numbers from to

-- `hulltrace=H,`
abbrev pub hull_trace_name : ℕ → List ℕ
hull_trace_name (suc zero) = codes "hulltrace=1,"
hull_trace_name _ = codes "hulltrace=2,"

-- a number of a leaf, of an entity or of a face as it may be asked for has at most 18 digits
abbrev pub IsShort : ℕ → Type 0
IsShort n = n < 10 ^ 18

-- `model=E,`
abbrev pub model_name : ℕ → List ℕ
model_name entity = codes "model=" ++ (decimal entity ++ (44 ∷ []))

-- the word of a query
abbrev pub IsQueryWord : List ℕ → Query → Type 0
IsQueryWord word Count = word ≡ codes "count"
IsQueryWord word (At x y z) = IsPlaceWord (codes "at=") word x y z
IsQueryWord word (Hull hull x y z) = IsHullNumber hull × IsPlaceWord (hull_name hull) word x y z
IsQueryWord word (Trace from to) = IsTraceWord (codes "trace=") word from to
IsQueryWord word (HullTrace hull from to) = IsHullNumber hull × IsTraceWord (hull_trace_name hull) word from to
IsQueryWord word (Model entity) = (word ≡ codes "model=" ++ decimal entity) × IsShort entity
IsQueryWord word (ModelAt entity x y z) = IsShort entity × IsPlaceWord (model_name entity) word x y z
IsQueryWord word Faces = word ≡ codes "faces"
IsQueryWord word (Face n) = (word ≡ codes "face=" ++ decimal n) × IsShort n
IsQueryWord word (Row n) = (word ≡ codes "row=" ++ decimal n) × IsShort n
IsQueryWord word (Sees n m) = (word ≡ codes "sees=" ++ (decimal n ++ (44 ∷ decimal m))) × IsShort n × IsShort m
IsQueryWord word Parts = word ≡ codes "parts"

-- the words of queries, one by one
pub data AreQueryWords : List (List ℕ) → List Query → Type 0 where
  no_more : AreQueryWords [] []
  one_more : {word : List ℕ} {query : Query} {words : List (List ℕ)} {queries : List Query} →
      IsQueryWord word query → AreQueryWords words queries → AreQueryWords (word ∷ words) (query ∷ queries)
