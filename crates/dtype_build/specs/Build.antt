-- What the calls come to that build a type anew. Assumes nothing: these are definitions.
use Rattle.std.specs.Prelude.{Bool}
use Rattle.std.specs.Prelude.{Option, None, Some}
use Rattle.flat.specs.Tree.{DataType}
use Rattle.flat.specs.Reading.{Reading, refused, type}
use Rattle.flat.specs.declared.error.Error.TheVariants.{Unknown}
use Rattle.dtype_build.specs.Materialize.{materialize_unknown}
use Rattle.dtype.specs.Physical.{to_physical}

-- 7: the source's error is a refusal of the whole call
abbrev pub or_unknown : Option DataType → Reading
or_unknown None = refused Unknown
or_unknown (Some t) = type t

-- what `materialize_unknown` comes to: refusals 1 to 5, then 7, or the type
unfoldable pub materialized : Bool → Reading → Reading
materialized allow (refused e) = refused e
materialized allow (type t) = or_unknown (materialize_unknown allow t)

-- what `to_physical` comes to: refusals 1 to 5, or the type
unfoldable pub physical : Reading → Reading
physical (refused e) = refused e
physical (type t) = type (to_physical t)
