-- `get_supertype_with_options` of two valid types: refusal 6, then the rule. Assumes nothing: these are definitions.
use Rattle.std.specs.Prelude.{Bool, cond, ◌||◌, ℕ, Option, Some, Result, Ok, Err}
use Rattle.flat.specs.Tree.{DataType}
use Rattle.flat.specs.Reading.{Reading, refused}
use Rattle.flat.specs.declared.error.Error.{Error}
use Rattle.flat.specs.declared.error.Error.TheVariants.{Nested}
use Rattle.flat.specs.declared.Node.{Node}
use Rattle.dtype.specs.Predicate.{is_nested}
use Rattle.supertype_answer.specs.Join.{root_node, found_of}
use Rattle.supertype_arms.specs.Supertype.{supertype}

-- 6: a nested type
unfoldable pub pair_checked : ℕ → ℕ → Result (Unit {0}) Error
pair_checked k l = cond (is_nested k || is_nested l) (Err Nested) (Ok tt)

-- what was found where a check passes, else its refusal
abbrev pub after_check : Result (Unit {0}) Error → Option Reading → Option Reading
after_check (Err e) found = Some (refused e)
after_check (Ok passed) found = found

-- what a call finds for two roots
unfoldable pub root_supertype : Bool → Bool → Node → Node → Option Reading
root_supertype implode to_string l r =
    after_check (pair_checked l.kind r.kind) (found_of (supertype implode to_string l r))

-- what a call finds for two types
unfoldable pub supertype_of : Bool → Bool → DataType → DataType → Option Reading
supertype_of implode to_string l r = root_supertype implode to_string (root_node l) (root_node r)
