-- The shape of an Array type as a record: a count and as many places as a type is deep, unused places zero.
-- Assumes nothing: these are definitions.
use Rattle.std.specs.Prelude.{List, [], ◌++◌, ℕ, length, take, drop, replicate}
use Rattle.std.specs.Prelude.{Option, None, Some, Result, Ok, Err}
use Rattle.std.specs.List.{prefix_len}
use Rattle.flat.specs.Kind
use Rattle.flat.specs.Reading.{Reading, refused, type}
use Rattle.flat.specs.declared.error.Error.{Error}
use Rattle.dtype_inner.specs.Inner.{get_shape}
use Rattle.flat.specs.Kind.{between}
use Rattle.dtype_inner.specs.declared.Shape.{Shape}

-- ws in n places, the rest zero
unfoldable pub padded : ℕ → List ℕ → List ℕ
padded n ws = ws ++ drop (length ws) (replicate n 0)

-- these widths
abbrev pub shape : ℕ → List ℕ → Shape
shape places ws = record { count = length ws; widths = padded places ws }

-- None has count 0 and all zeros
abbrev pub shape_found : ℕ → Option (List ℕ) → Shape
shape_found places None = shape places []
shape_found places (Some ws) = shape places ws

abbrev pub shape_of : ℕ → Reading → Result Shape Error
shape_of places (refused e) = Err e
shape_of places (type t) = Ok (shape_found places (get_shape t))

-- how many Arrays stand at the front of the kinds, and their widths
abbrev pub arrays_at : List ℕ → ℕ
arrays_at ks = prefix_len (between Kind.Array Kind.Array) ks

abbrev pub widths_at : List ℕ → List ℕ → List ℕ
widths_at ks xs = take (arrays_at ks) xs
