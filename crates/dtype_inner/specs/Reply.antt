-- The reply that a shape is told by. Assumes nothing: these are definitions.
use Rattle.std.specs.Prelude.{ℕ, Result, Ok, Err, replicate}
use Rattle.flat.specs.Refusal.{number_of}
use Rattle.flat.specs.declared.error.Error.{Error}
use Rattle.dtype_inner.specs.declared.Shape.{Shape}
use Rattle.dtype_inner.specs.declared.reply.ShapeReply.{ShapeReply}

-- 0 and the shape, or a refusal's number and no widths, in so many places
abbrev pub shape_reply : ℕ → Result Shape Error → ShapeReply
shape_reply deep (Ok s) = record { number = 0; count = s.count; widths = s.widths }
shape_reply deep (Err e) = record { number = number_of e; count = 0; widths = replicate deep 0 }
