-- Document 01's worked cases, as one table: the cases that it marks [P], calls for every number of its table of
-- refusals but 13, which is retired, the order of refusals, the bounds of the arguments, the codes of the kinds and the
-- stored sheet; and what document 02's requests work out. Each row is its place, what is asked and the answer: `case n`
-- is of the corner n, `refusal n` is a call that is refused by n, `not_refused` a call that is not refused, and
-- `requested n` is of the request n. Assumes nothing: these are definitions.
use Rattle.std.specs.Prelude.{◌≡◌, Bool, true, false, cond, ◌&&◌, ℕ, ◌+◌, ◌-◌, ◌*◌, ◌^◌, ℤ, pos, negsuc, neg_ℤ}
use Rattle.std.specs.Prelude.{replicate, None, Some}
use Rattle.std.specs.List.{flat_map}
use mathlib.Core.List.{List, [], ◌∷◌, ◌++◌, map, flatten}
use Rattle.flat.specs.Kind
use Rattle.flat.specs.Tree.{DataType, leaf, list, array, struct, Fields, empty, field, kinds_of, args_of}
use Rattle.flat.specs.Reading.{type}
use Rattle.flat.specs.Limits.{lists, fields_of}
use Rattle.supertype_nested.specs.Nested.{SuperTypeOptions, options}
use Rattle.cases.specs.Question.{Limits, answer_to, FlatCall, check, check_encoded, get_supertype_call}
use Rattle.cases.specs.Question.{materialize_unknown_call, merge, Asked, supertype, nested_supertype, lossless}
use Rattle.cases.specs.Question.{smallest_dyn_int, can_cast, materialize, merge_all_call, number_of, root, encoded}
use Rattle.cases.specs.Question.{decoded, codes, Answered, joined, kind, verdict, result, merged, number, numbers}

-- a place in document 01: the corner of that number, "Why a call is turned down", or "Flat types and stored sheets"; or
-- document 02's request of that number
pub data Place : Type 0 where
  corner : ℕ → Place
  refusals : Place
  flat_types : Place
  request : ℕ → Place

pub record Case : Type 0 where
  pub place : Place
  pub asked : Asked
  pub answered : Answered

abbrev pub case : ℕ → Asked → Answered → Case
case n q a = record { place = corner n; asked = q; answered = a }

abbrev pub refusal : ℕ → FlatCall → Case
refusal n call = record { place = refusals; asked = number_of call; answered = number n }

abbrev pub not_refused : FlatCall → Case
not_refused = refusal 0

abbrev pub stored : Asked → Answered → Case
stored q a = record { place = flat_types; asked = q; answered = a }

abbrev pub requested : ℕ → Asked → Answered → Case
requested n q a = record { place = request n; asked = q; answered = a }

abbrev pub joins : DataType → Answered
joins t = joined (Some (type t))

abbrev pub no_type : Answered
no_type = joined None

abbrev pub yes : Answered
yes = verdict (Some true)

abbrev pub no : Answered
no = verdict (Some false)

abbrev pub no_verdict : Answered
no_verdict = verdict None

abbrev pub gives : DataType → Answered
gives t = result 0 (Some t)

abbrev pub refused_by : ℕ → Answered
refused_by n = result n None

-- a type without an argument: one node
abbrev pub lone : ℕ → DataType
lone k = leaf k 0

-- dyn v
abbrev pub dyn : ℤ → DataType
dyn (pos v) = leaf Kind.UnknownIntPos v
dyn (negsuc v) = leaf Kind.UnknownIntNeg v

-- a Decimal, and a Datetime
abbrev pub decimal_leaf : (precision scale : ℕ) → DataType
decimal_leaf precision scale = leaf Kind.Decimal (256 * scale + precision)

abbrev pub datetime_leaf : (zone unit : ℕ) → DataType
datetime_leaf zone unit = leaf Kind.Datetime (4 * zone + unit)

-- a Struct of one field, of two and of three
abbrev pub one : ℕ → DataType → DataType
one n t = struct (field n t empty)

abbrev pub pair : ℕ → DataType → ℕ → DataType → DataType
pair m t n u = struct (field m t (field n u empty))

abbrev pub triple : ℕ → DataType → ℕ → DataType → ℕ → DataType → DataType
triple k s m t n u = struct (field k s (field m t (field n u empty)))

-- of two, named from n on
abbrev pub two : ℕ → DataType → DataType → DataType
two n t u = pair n t (n + 1) u

-- the check of the arrays of a tree
abbrev pub check_type : DataType → FlatCall
check_type t = check (kinds_of t) (args_of t)

-- the [P] cases, for any flags i (implode) and s (primitive to string) and any fields fs
abbrev pub corners : Bool → Bool → Fields → List Case
corners i s fs =
    -- 1: Ints are equal whatever they hold, so the left one returns
    case 1 (supertype i s (dyn (pos 1)) (dyn (pos 300))) (joins (dyn (pos 1)))
    ∷ case 1 (supertype i s (dyn (pos 300)) (dyn (pos 1))) (joins (dyn (pos 300)))
    -- 2: flags off or on
    ∷ case 2 (supertype i s (lone Kind.UnknownAny) (lone Kind.String)) (joins (lone Kind.String))
    ∷ case 2 (supertype i s (lone Kind.String) (lone Kind.UnknownAny)) (joins (lone Kind.UnknownAny))
    -- 3: primitive to string on, then off
    ∷ case 3 (supertype i true (dyn (pos 5)) (lone Kind.UnknownStr)) (joins (lone Kind.UnknownAny))
    ∷ case 3 (supertype i true (lone Kind.UnknownStr) (dyn (pos 5))) (joins (lone Kind.UnknownStr))
    ∷ case 3 (supertype i false (dyn (pos 5)) (lone Kind.UnknownStr)) (joins (lone Kind.UnknownAny))
    ∷ case 3 (supertype i false (lone Kind.UnknownStr) (dyn (pos 5))) (joins (lone Kind.UnknownAny))
    -- 4: the smallest-type helper answers Null below −2^63
    ∷ case 4 (supertype i s (lone Kind.UInt64) (dyn (neg_ℤ (pos 1)))) (joins (lone Kind.Int64))
    ∷ case 4 (supertype i s (lone Kind.UInt64) (dyn (neg_ℤ (pos (2 ^ 63 + 1))))) (joins (lone Kind.UInt64))
    ∷ case 4 (smallest_dyn_int (neg_ℤ (pos (2 ^ 63 + 1)))) (kind Kind.Null)
    -- 5
    ∷ case 5 (supertype i s (lone Kind.UInt128) (lone Kind.Int8)) (joins (lone Kind.Int128))
    ∷ case 5 (lossless (lone Kind.UInt128) (lone Kind.Int8)) no_type
    -- 7
    ∷ case 7 (supertype i s (lone Kind.Boolean) (lone Kind.UnknownFloat)) (joins (lone Kind.UnknownAny))
    ∷ case 7 (supertype i s (lone Kind.Date) (dyn (pos 5))) (joins (lone Kind.UnknownAny))
    -- 9
    ∷ case 9 (supertype i s (lone Kind.Int64) (dyn (pos (2 ^ 63 - 1)))) (joins (lone Kind.Int64))
    ∷ case 9 (supertype i s (lone Kind.Int64) (dyn (pos (2 ^ 63)))) (joins (lone Kind.Float64))
    -- 11: an empty Struct to any Struct; otherwise unequal lengths
    ∷ case 11 (can_cast (struct empty) (struct fs)) yes
    ∷ case 11 (can_cast (one 1 (lone Kind.Int8)) (struct empty)) no
    ∷ case 11 (can_cast (one 1 (lone Kind.Int8)) (two 5 (lone Kind.String) (lone Kind.Null))) no
    ∷ case 11 (can_cast (two 1 (lone Kind.Null) (lone Kind.Int8)) (one 5 (lone Kind.Null))) no
    -- 12: left to right, the first no or no verdict; names don't count
    ∷ case 12 (can_cast (two 1 (lone Kind.Boolean) (lone Kind.Int8)) (two 5 (lone Kind.Null) (lone Kind.String))) no
    ∷ case 12 (can_cast (two 1 (lone Kind.Int8) (lone Kind.Boolean)) (two 5 (lone Kind.String) (lone Kind.Null)))
    no_verdict
    ∷ case 12 (can_cast (two 1 (lone Kind.Boolean) (lone Kind.Int8)) (two 5 (lone Kind.String) (lone Kind.Int64))) yes
    -- 14
    ∷ case 14 (can_cast (lone Kind.Boolean) (lone Kind.Null)) no
    ∷ case 14 (can_cast (lone Kind.Null) (lone Kind.Boolean)) yes
    -- 15: the limits of dyn v, then the other unknown kinds; any is kept if allowed, else the whole call is refused
    ∷ case 15 (materialize false (dyn (pos (2 ^ 31 - 1)))) (gives (lone Kind.Int32))
    ∷ case 15 (materialize false (dyn (pos (2 ^ 31)))) (gives (lone Kind.Int64))
    ∷ case 15 (materialize false (dyn (pos (2 ^ 63)))) (gives (lone Kind.UInt64))
    ∷ case 15 (materialize false (dyn (neg_ℤ (pos (2 ^ 63 + 1))))) (gives (lone Kind.Int128))
    ∷ case 15 (materialize false (lone Kind.UnknownFloat)) (gives (lone Kind.Float64))
    ∷ case 15 (materialize false (lone Kind.UnknownStr)) (gives (lone Kind.String))
    ∷ case 15 (materialize true (lone Kind.UnknownAny)) (gives (lone Kind.UnknownAny))
    ∷ case 15 (materialize false (lone Kind.UnknownAny)) (refused_by 7)
    ∷ case 15 (materialize true (two 1 (lone Kind.UnknownStr) (lone Kind.UnknownAny)))
    (gives (two 1 (lone Kind.String) (lone Kind.UnknownAny)))
    ∷ case 15 (materialize false (two 1 (lone Kind.UnknownStr) (lone Kind.UnknownAny))) (refused_by 7)
    -- 18: number and value of every answer, then the code that is left; 12 leaves the code that was held
    ∷ case 18 (merge_all_call (lone Kind.UInt64 ∷ lone Kind.Int8 ∷ lone Kind.UInt128 ∷ []))
    (merged ((0, 5) ∷ (0, 11) ∷ (12, 0) ∷ []) 11)
    ∷ case 18 (merge_all_call (lone Kind.UInt128 ∷ lone Kind.UInt8 ∷ [])) (merged ((0, 6) ∷ (0, 6) ∷ []) 6)
    ∷ []

-- the table of refusals: calls for every number, and the nearest calls that are not refused
abbrev pub causes : Bool → Bool → List Case
causes i s =
    -- 1: no node; one List over a Struct of 255 fields, and two; lengths that differ
    refusal 1 (check [] [])
    ∷ not_refused (check_type (lists 1 (struct (fields_of 255 (lone Kind.Int8)))))
    ∷ refusal 1 (check_type (lists 2 (struct (fields_of 255 (lone Kind.Int8)))))
    ∷ refusal 1 (check (Kind.Int8 ∷ []) [])
    ∷ refusal 1 (check (Kind.Int8 ∷ []) (0 ∷ 0 ∷ []))
    -- 1: a stored length under 2; no node; one byte less than 2 + 9 × n, as many, and one more
    ∷ refusal 1 (check_encoded (1 ∷ []))
    ∷ refusal 1 (check_encoded (0 ∷ 0 ∷ []))
    ∷ refusal 1 (check_encoded (1 ∷ 0 ∷ Kind.Int8 ∷ replicate 7 0))
    ∷ not_refused (check_encoded (1 ∷ 0 ∷ Kind.Int8 ∷ replicate 8 0))
    ∷ refusal 1 (check_encoded (1 ∷ 0 ∷ Kind.Int8 ∷ replicate 9 0))
    -- 2
    ∷ refusal 2 (check_type (leaf 32 0))
    -- 3
    ∷ refusal 3 (check_type (leaf Kind.Int8 1))
    -- 4: a field outside a Struct, no child, a node too many, a Struct's child that is no field
    ∷ refusal 4 (check_type (leaf 31 0))
    ∷ refusal 4 (check_type (lone Kind.List))
    ∷ refusal 4 (check (Kind.Int8 ∷ Kind.Int8 ∷ []) (0 ∷ 0 ∷ []))
    ∷ refusal 4 (check (Kind.Struct ∷ Kind.Int8 ∷ []) (1 ∷ 0 ∷ []))
    -- 5: 32 Lists over Int8, and 33
    ∷ not_refused (check_type (lists 32 (lone Kind.Int8)))
    ∷ refusal 5 (check_type (lists 33 (lone Kind.Int8)))
    -- 6: on either side
    ∷ refusal 6 (get_supertype_call i s (list (lone Kind.Int8)) (lone Kind.Int8) 1)
    ∷ refusal 6 (get_supertype_call i s (lone Kind.Int8) (struct empty) 1)
    -- 7
    ∷ refusal 7 (materialize_unknown_call false (list (lone Kind.UnknownAny)) 2)
    ∷ not_refused (materialize_unknown_call true (list (lone Kind.UnknownAny)) 2)
    -- 8: room for one node less than the result has; a None needs no room
    ∷ refusal 8 (get_supertype_call i s (lone Kind.Int8) (lone Kind.Int16) 0)
    ∷ not_refused (get_supertype_call i s (lone Kind.Int8) (lone Kind.Int16) 1)
    ∷ refusal 8 (materialize_unknown_call true (list (lone Kind.UnknownAny)) 1)
    ∷ not_refused (get_supertype_call i s (datetime_leaf 1 0) (datetime_leaf 2 0) 0)
    -- 9: channel 31, and channel 32
    ∷ not_refused (merge 0 31 (lone Kind.Int8))
    ∷ refusal 9 (merge 0 32 (lone Kind.Int8))
    -- 10: held codes at both ends of 2 to 11
    ∷ refusal 10 (merge 1 0 (lone Kind.Int8))
    ∷ not_refused (merge 2 0 (lone Kind.Int8))
    ∷ not_refused (merge 11 0 (lone Kind.Int8))
    ∷ refusal 10 (merge 12 0 (lone Kind.Int8))
    -- 11: offered codes at both ends of 2 to 11
    ∷ refusal 11 (merge 0 0 (leaf 1 0))
    ∷ not_refused (merge 0 0 (leaf 2 0))
    ∷ not_refused (merge 0 0 (leaf 11 0))
    ∷ refusal 11 (merge 0 0 (leaf 12 0))
    -- 12: unequal integers without an upcast, and equal ones
    ∷ refusal 12 (merge Kind.Int8 0 (lone Kind.UInt128))
    ∷ not_refused (merge Kind.UInt128 0 (lone Kind.UInt128))
    ∷ []

-- the order of refusals: the lowest number that applies
abbrev pub order : Bool → Bool → List Case
order i s =
    -- each of 1 to 5 looks at the whole type before the next: 1 and 2, 2 and 3, 3 and 4, 4 and 5
    refusal 1 (check (32 ∷ []) [])
    ∷ refusal 2 (check (Kind.List ∷ 32 ∷ []) (1 ∷ 0 ∷ []))
    ∷ refusal 3 (check (31 ∷ Kind.Int8 ∷ []) (0 ∷ 1 ∷ []))
    ∷ refusal 4 (let t = lists 33 (lone Kind.Int8) in check (kinds_of t ++ (Kind.Int8 ∷ [])) (args_of t ++ (0 ∷ [])))
    -- the left type through 1 to 5, then the right, then the rest
    ∷ refusal 5 (get_supertype_call i s (lists 33 (lone Kind.Int8)) (leaf 32 0) 1)
    ∷ refusal 4 (get_supertype_call i s (lone Kind.Int8) (leaf 31 0) 1)
    ∷ refusal 2 (get_supertype_call i s (list (lone Kind.Int8)) (leaf 32 0) 1)
    -- 6 and 7 where there is no room either: a refused call has no result
    ∷ refusal 6 (get_supertype_call i s (list (lone Kind.Int8)) (list (lone Kind.Int8)) 0)
    ∷ refusal 7 (materialize_unknown_call false (lone Kind.UnknownAny) 0)
    -- in a merge 1 to 5, then 9, then 10, then 11
    ∷ refusal 2 (merge 0 32 (leaf 32 0))
    ∷ refusal 9 (merge 1 32 (lone Kind.Boolean))
    ∷ refusal 10 (merge 1 0 (lone Kind.Boolean))
    ∷ []

-- the bounds of the arguments
abbrev pub bounds : List Case
bounds =
    -- precision 1 to 38, scale 0 to precision
    refusal 3 (check_type (decimal_leaf 0 0))
    ∷ not_refused (check_type (decimal_leaf 1 0))
    ∷ not_refused (check_type (decimal_leaf 1 1))
    ∷ refusal 3 (check_type (decimal_leaf 1 2))
    ∷ not_refused (check_type (decimal_leaf 38 38))
    ∷ refusal 3 (check_type (decimal_leaf 38 39))
    ∷ refusal 3 (check_type (decimal_leaf 39 0))
    -- units 0 to 2, zone below 2^32
    ∷ not_refused (check_type (datetime_leaf 0 2))
    ∷ refusal 3 (check_type (datetime_leaf 0 3))
    ∷ not_refused (check_type (datetime_leaf (2 ^ 32 - 1) 2))
    ∷ refusal 3 (check_type (datetime_leaf (2 ^ 32) 0))
    ∷ not_refused (check_type (leaf Kind.Duration 2))
    ∷ refusal 3 (check_type (leaf Kind.Duration 3))
    -- 0 to 255 fields: with 255 the argument fits, and the fields are missing
    ∷ not_refused (check_type (struct empty))
    ∷ refusal 4 (check_type (leaf Kind.Struct 255))
    ∷ refusal 3 (check_type (leaf Kind.Struct 256))
    -- a name below 2^32
    ∷ not_refused (check_type (one (2 ^ 32 - 1) (lone Kind.Int8)))
    ∷ refusal 3 (check_type (one (2 ^ 32) (lone Kind.Int8)))
    -- any v and any width
    ∷ not_refused (check_type (leaf Kind.UnknownIntPos (2 ^ 64 - 1)))
    ∷ not_refused (check_type (leaf Kind.UnknownIntNeg (2 ^ 64 - 1)))
    ∷ not_refused (check_type (array (2 ^ 64 - 1) (lone Kind.Int8)))
    -- all others have 0
    ∷ map (λ (k : ℕ). refusal 3 (check_type (leaf k 1)))
    (0 ∷ 1 ∷ 2 ∷ 3 ∷ 4 ∷ 5 ∷ 6 ∷ 7 ∷ 8 ∷ 9 ∷ 10 ∷ 11 ∷ 12 ∷ 13 ∷ 14 ∷ 16 ∷ 17 ∷ 18 ∷ 19 ∷ 22 ∷ 23 ∷ 24 ∷ 25 ∷ 28 ∷ [])

-- the kinds, in the order of their codes
abbrev pub kinds : List ℕ
kinds =
    Kind.Null
    ∷ Kind.Boolean
    ∷ Kind.UInt8
    ∷ Kind.UInt16
    ∷ Kind.UInt32
    ∷ Kind.UInt64
    ∷ Kind.UInt128
    ∷ Kind.Int8
    ∷ Kind.Int16
    ∷ Kind.Int32
    ∷ Kind.Int64
    ∷ Kind.Int128
    ∷ Kind.Float16
    ∷ Kind.Float32
    ∷ Kind.Float64
    ∷ Kind.Decimal
    ∷ Kind.String
    ∷ Kind.Binary
    ∷ Kind.BinaryOffset
    ∷ Kind.Date
    ∷ Kind.Datetime
    ∷ Kind.Duration
    ∷ Kind.Time
    ∷ Kind.UnknownAny
    ∷ Kind.UnknownStr
    ∷ Kind.UnknownFloat
    ∷ Kind.UnknownIntPos
    ∷ Kind.UnknownIntNeg
    ∷ Kind.List
    ∷ Kind.Array
    ∷ Kind.Struct
    ∷ Kind.Field
    ∷ []

-- the stored sheet of List(Int16)
abbrev pub sheet : List ℕ
sheet = 0x02 ∷ 0x00 ∷ 0x1C ∷ 0x08 ∷ replicate 16 0

-- the codes of the kinds; a root by its number, kind and argument, and one that is refused; the stored sheet both ways
abbrev pub sheets : List Case
sheets =
    stored (codes kinds) (numbers (0 ∷ 1 ∷ 2 ∷ 3 ∷ 4 ∷ 5 ∷ 6 ∷ 7 ∷ 8 ∷ 9 ∷ 10 ∷ 11 ∷ 12 ∷ 13 ∷ 14 ∷ 15
    ∷ 16 ∷ 17 ∷ 18 ∷ 19 ∷ 20 ∷ 21 ∷ 22 ∷ 23 ∷ 24 ∷ 25 ∷ 26 ∷ 27 ∷ 28 ∷ 29 ∷ 30 ∷ 31 ∷ []))
    ∷ stored (root (array (2 ^ 64 - 1) (lone Kind.Int8))) (numbers (0 ∷ 29 ∷ (2 ^ 64 - 1) ∷ []))
    ∷ stored (root (lone Kind.Array)) (numbers (4 ∷ 0 ∷ 0 ∷ []))
    ∷ stored (encoded (list (lone Kind.Int16))) (numbers sheet)
    ∷ stored (decoded sheet) (gives (list (lone Kind.Int16)))
    ∷ []

-- Two: the precision and the scale of a Decimal, an integer type, and the precision that the Decimal has beside it
abbrev pub decimals : List (ℕ × ℕ × ℕ × ℕ)
decimals =
    -- 10 digits are more than 8
    (10, 2, Kind.Int32, 38)
    ∷ (12, 2, Kind.Int32, 12)
    ∷ (38, 20, Kind.Int64, 38)
    ∷ (5, 0, Kind.UInt16, 5)
    ∷ (4, 0, Kind.UInt16, 38)
    -- the digit counts: as many digits before the point, and one less
    ∷ (4, 1, Kind.UInt8, 4)
    ∷ (4, 2, Kind.UInt8, 38)
    ∷ (3, 0, Kind.Int8, 3)
    ∷ (2, 0, Kind.Int8, 38)
    ∷ (6, 1, Kind.Int16, 6)
    ∷ (6, 2, Kind.Int16, 38)
    ∷ (11, 1, Kind.UInt32, 11)
    ∷ (11, 2, Kind.UInt32, 38)
    ∷ (19, 0, Kind.Int64, 19)
    ∷ (18, 0, Kind.Int64, 38)
    ∷ (20, 0, Kind.UInt64, 20)
    ∷ (19, 0, Kind.UInt64, 38)
    -- the 128-bit types always give 38
    ∷ (37, 0, Kind.UInt128, 38)
    ∷ (37, 0, Kind.Int128, 38)
    ∷ []

-- one of them in both orders
abbrev pub in_both_orders : Bool → Bool → ℕ × ℕ × ℕ × ℕ → List Case
in_both_orders i s r =
    requested 2 (supertype i s (decimal_leaf r.0 r.1) (lone r.2)) (joins (decimal_leaf r.3 r.1))
    ∷ requested 2 (supertype i s (lone r.2) (decimal_leaf r.0 r.1)) (joins (decimal_leaf r.3 r.1))
    ∷ []

-- Three: with the flags o of the call and i of its inner calls, two types in one order, and in both
abbrev pub one_way : SuperTypeOptions → SuperTypeOptions → DataType → DataType → Answered → List Case
one_way o i t u a = requested 3 (nested_supertype o i t u) a ∷ []

abbrev pub both_ways : SuperTypeOptions → SuperTypeOptions → DataType → DataType → Answered → List Case
both_ways o i t u a = one_way o i t u a ++ one_way o i u t a

-- Three: what nested joins work out
abbrev pub nested_joins : SuperTypeOptions → SuperTypeOptions → List Case
nested_joins o i =
    flatten
    -- List(Int8) with String gives String
    (one_way o i (list (lone Kind.Int8)) (lone Kind.String) (joins (lone Kind.String))
    -- String with List(Int8) under the outer implode flag tries the list first; where inner calls make no strings, that
    -- finds none, and the second order answers
    ∷ one_way o i (lone Kind.String) (list (lone Kind.Int8))
    (joins (cond (o.allow_implode_list && i.allow_primitive_to_string) (list (lone Kind.String)) (lone Kind.String)))
    -- a name repeated in the longer Struct keeps its first place and its last type
    ∷ both_ways o i (triple 1 (lone Kind.Int8) 2 (lone Kind.String) 1 (lone Kind.Int32))
    (pair 1 (lone Kind.Int16) 3 (lone Kind.Date))
    (joins (triple 1 (lone Kind.Int32) 2 (lone Kind.String) 3 (lone Kind.Date)))
    -- a new name repeated in the shorter one keeps its first place, and its types are joined
    ∷ both_ways o i (triple 1 (lone Kind.Int8) 2 (lone Kind.String) 1 (lone Kind.Int8))
    (pair 3 (lone Kind.Int32) 3 (lone Kind.Int16))
    (joins (triple 1 (lone Kind.Int8) 2 (lone Kind.String) 3 (lone Kind.Int32)))
    -- as many fields of the same names: field by field, and repeated names stay twice
    ∷ both_ways o i (pair 1 (lone Kind.Int8) 1 (lone Kind.Boolean)) (pair 1 (lone Kind.Int16) 1 (lone Kind.Boolean))
    (joins (pair 1 (lone Kind.Int16) 1 (lone Kind.Boolean)))
    -- as many fields, and a name that differs: the union, in which the left counts as the longer
    ∷ one_way o i (pair 1 (lone Kind.Int8) 2 (lone Kind.Int8)) (pair 1 (lone Kind.Int16) 3 (lone Kind.Boolean))
    (joins (triple 1 (lone Kind.Int16) 2 (lone Kind.Int8) 3 (lone Kind.Boolean)))
    ∷ one_way o i (pair 1 (lone Kind.Int16) 3 (lone Kind.Boolean)) (pair 1 (lone Kind.Int8) 2 (lone Kind.Int8))
    (joins (triple 1 (lone Kind.Int16) 3 (lone Kind.Boolean) 2 (lone Kind.Int8)))
    -- a field without a supertype before the first name that differs: None, though the union has an answer
    ∷ both_ways o i (pair 1 (lone Kind.Date) 1 (lone Kind.Boolean)) (pair 1 (lone Kind.Boolean) 2 (lone Kind.Int8))
    no_type
    -- a dyn number is joined with the first field alone, a number with each
    ∷ both_ways o i (two 1 (lone Kind.Int8) (lone Kind.Date)) (dyn (pos 300)) (joins (lone Kind.Int16))
    ∷ both_ways o i (struct empty) (dyn (pos 300)) no_type
    ∷ both_ways o i (two 1 (lone Kind.Int8) (lone Kind.UInt8)) (lone Kind.Int16)
    (joins (two 1 (lone Kind.Int16) (lone Kind.Int16)))
    ∷ both_ways o i (struct empty) (lone Kind.Int16) (joins (struct empty))
    -- an Array where both have its width, else a List
    ∷ both_ways o i (array 2 (lone Kind.Int8)) (array 2 (lone Kind.Int16)) (joins (array 2 (lone Kind.Int16)))
    ∷ both_ways o i (array 2 (lone Kind.Int8)) (array 3 (lone Kind.Int16)) (joins (list (lone Kind.Int16)))
    ∷ both_ways o i (list (lone Kind.Int8)) (array 2 (lone Kind.Int16)) (joins (list (lone Kind.Int16)))
    -- the flags of inner calls are not those of the call
    ∷ both_ways o i (list (lone Kind.Int8)) (list (lone Kind.String))
    (cond i.allow_primitive_to_string (joins (list (lone Kind.String))) no_type)
    ∷ both_ways o i (list (list (lone Kind.Int8))) (list (lone Kind.Int16))
    (cond i.allow_implode_list (joins (list (list (lone Kind.Int16)))) no_type)
    ∷ [])

-- what the requests work out
abbrev pub requests : Bool → Bool → List Case
requests i s =
    -- One: Null leaves the channel as it is and answers the code held, 0 if empty, with and without a number before it
    requested 1 (merge_all_call (lone Kind.Null ∷ lone Kind.Null ∷ [])) (merged ((0, 0) ∷ (0, 0) ∷ []) 0)
    ∷ requested 1 (merge_all_call (lone Kind.Null ∷ lone Kind.Int8 ∷ lone Kind.Null ∷ lone Kind.UInt8 ∷ []))
    (merged ((0, 0) ∷ (0, 7) ∷ (0, 7) ∷ (0, 8) ∷ []) 8)
    ∷ requested 1 (merge_all_call (lone Kind.UInt128 ∷ lone Kind.Int8 ∷ lone Kind.Null ∷ []))
    (merged ((0, 6) ∷ (12, 0) ∷ (0, 6) ∷ []) 6)
    -- One: 1 to 5, then 9, then 10 at both ends of 2 to 11, and no other number
    ∷ requested 1 (number_of (merge 1 32 (leaf Kind.Null 1))) (number 3)
    ∷ requested 1 (number_of (merge 1 32 (lone Kind.Null))) (number 9)
    ∷ requested 1 (number_of (merge 1 31 (lone Kind.Null))) (number 10)
    ∷ requested 1 (number_of (merge 2 31 (lone Kind.Null))) (number 0)
    ∷ requested 1 (number_of (merge 11 31 (lone Kind.Null))) (number 0)
    ∷ requested 1 (number_of (merge 12 31 (lone Kind.Null))) (number 10)
    -- Two: 8 where there is no room, and no other number
    ∷ requested 2 (number_of (get_supertype_call i s (decimal_leaf 10 2) (lone Kind.Int8) 0)) (number 8)
    ∷ requested 2 (number_of (get_supertype_call i s (lone Kind.UInt128) (decimal_leaf 10 2) 1)) (number 0)
    ∷ flat_map (in_both_orders i s) decimals

-- the table, for any flags and any fields
abbrev pub table : Bool → Bool → Fields → List Case
table i s fs = corners i s fs ++ (causes i s ++ (order i s ++ (bounds ++ (sheets ++ requests i s))))

-- every row's answer is what the definitions answer
unfoldable pub Hold : Limits → List Case → Type 0
Hold l rows = map (λ (c : Case). answer_to l c.asked) rows ≡ map (λ (c : Case). c.answered) rows

-- The claim: at these limits the table holds, and so do the nested joins, with any flags j and t of inner calls.
abbrev pub CasesHold : (nodes deep channels width : ℕ) → Type 0
CasesHold nodes deep channels width =
    let l : Limits = record { nodes = nodes; deep = deep; channels = channels; width = width } in
    (i s j t : Bool) (fs : Fields) → Hold l (table i s fs) × Hold l (nested_joins (options i s) (options j t))
