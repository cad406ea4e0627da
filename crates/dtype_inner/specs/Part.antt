-- A part of a lent slice, as a result. Assumes nothing: these are definitions.
use Rattle.std.specs.Prelude.{◌≡◌, List, [], ℕ, ◌+◌, ◌-◌, ◌*◌, ◌≤◌, length, drop}
use Rattle.std.specs.Prelude.{Option, None, Some, unwrap_or, Result}
use Rattle.std.specs.Prelude.{option_map}
use Rattle.std.specs.Borrow.{Bor}
use Rattle.flat.specs.Tree.{DataType, kinds_of, args_of}
use Rattle.flat.specs.Reading.{Reading, refused, type}
use Rattle.flat.specs.Output.{optional_of}
use Rattle.flat.specs.Reply.{value_in}
use Rattle.flat.specs.declared.error.Error.{Error}

-- What a call finds in a type; there is none where the call is refused.
abbrev pub found : (DataType → Option DataType) → Reading → Option DataType
found part (refused e) = None
found part (type t) = part t

-- the part of a type as a type, or the refusal; nothing where the type has no such part
abbrev pub part_reading : (DataType → Option DataType) → Reading → Option Reading
part_reading part (refused e) = Some (refused e)
part_reading part (type t) = option_map type (part t)

-- which of the three it is: Some with the part's number of nodes, None, or the refusal
abbrev pub inner_of : (DataType → Option DataType) → Reading → Result (Option ℕ) Error
inner_of part r = optional_of (part_reading part r)

-- the number of nodes that an answer tells, and 0 where it tells none
abbrev pub nodes_told : Result (Option ℕ) Error → ℕ
nodes_told = value_in (λ count. unwrap_or count 0)

-- the kinds and the arguments of what was found, and nothing where there is none
abbrev pub part_kinds : Option DataType → List ℕ
part_kinds None = []
part_kinds (Some t) = kinds_of t

abbrev pub part_args : Option DataType → List ℕ
part_args None = []
part_args (Some t) = args_of t

-- the last n elements of l are these
pub record Last (n : ℕ) (l these : List ℕ) : Type 0 where
  pub within : n ≤ length l
  pub size : length these ≡ n
  pub shows : drop (length l - n) l ≡ these

-- r is the caller's own: the end of the slice whole, of elements of so many bytes, and it shows these
pub record EndOf {A : Type 0} (bytes : ℕ) (shown : List A) (whole r : Bor (List A)) : Type 0 where
  pub block : r.ref_ptr.0 ≡ whole.ref_ptr.0
  pub place : r.ref_ptr.1 ≡ whole.ref_ptr.1 + (length whole.now - length shown) * bytes
  pub shows : r.now ≡ shown
