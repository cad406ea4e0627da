-- The kinds of a node: document 01's codes, by the names of dtype.rs. `Unknown(Int(v))` has two codes, by the sign of
-- v (document 01's dyn v); UnknownAny, UnknownStr and UnknownFloat are its any, str and dyn float. A Field is a node
-- of its own, over the type that it names. Assumes nothing: these are definitions.
use Rattle.std.specs.Prelude.{ℕ, Bool, ◌&&◌, leb}

abbrev pub Null : ℕ
Null = 0

abbrev pub Boolean : ℕ
Boolean = 1

abbrev pub UInt8 : ℕ
UInt8 = 2

abbrev pub UInt16 : ℕ
UInt16 = 3

abbrev pub UInt32 : ℕ
UInt32 = 4

abbrev pub UInt64 : ℕ
UInt64 = 5

abbrev pub UInt128 : ℕ
UInt128 = 6

abbrev pub Int8 : ℕ
Int8 = 7

abbrev pub Int16 : ℕ
Int16 = 8

abbrev pub Int32 : ℕ
Int32 = 9

abbrev pub Int64 : ℕ
Int64 = 10

abbrev pub Int128 : ℕ
Int128 = 11

abbrev pub Float16 : ℕ
Float16 = 12

abbrev pub Float32 : ℕ
Float32 = 13

abbrev pub Float64 : ℕ
Float64 = 14

abbrev pub Decimal : ℕ
Decimal = 15

abbrev pub String : ℕ
String = 16

abbrev pub Binary : ℕ
Binary = 17

abbrev pub BinaryOffset : ℕ
BinaryOffset = 18

abbrev pub Date : ℕ
Date = 19

abbrev pub Datetime : ℕ
Datetime = 20

abbrev pub Duration : ℕ
Duration = 21

abbrev pub Time : ℕ
Time = 22

abbrev pub UnknownAny : ℕ
UnknownAny = 23

abbrev pub UnknownStr : ℕ
UnknownStr = 24

abbrev pub UnknownFloat : ℕ
UnknownFloat = 25

abbrev pub UnknownIntPos : ℕ
UnknownIntPos = 26

abbrev pub UnknownIntNeg : ℕ
UnknownIntNeg = 27

abbrev pub List : ℕ
List = 28

abbrev pub Array : ℕ
Array = 29

abbrev pub Struct : ℕ
Struct = 30

abbrev pub Field : ℕ
Field = 31

-- a kind from low to high
unfoldable pub between : ℕ → ℕ → ℕ → Bool
between low high k = leb low k && leb k high
