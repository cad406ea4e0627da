-- What the scan of the check says of two lists: one pass, with the number of fields still owed and a bound of the
-- depth. It accepts types only (proofs/Scanned.antt), nearly every one, and every one where the bound is twice the
-- number of its nodes (proofs/Complete.antt); no answer of the check rests on these definitions. Assumes nothing:
-- these are definitions.
use Rattle.std.specs.Prelude.{Bool, false, cond, not, ◌&&◌, List, [], ◌∷◌, ℕ, suc, ◌+◌, ◌-◌, ◌≤◌, leb, ltb, eqb}
use Rattle.flat.specs.Kind
use Rattle.flat.specs.Argument.{argument_fits}
use Rattle.flat.specs.Reader.{Children, no_child, under_list, under_array, fields, no_type, children}
use Rattle.flat.specs.Reading.{length_fits}
use Rattle.flat.specs.declared.scan.Scan.{Scan}

-- nothing is owed yet
abbrev pub start : Scan
start = record { owed = 0; outer = 0; base = 0; depth = 0 }

-- what stands next, and the outermost Struct's fields, are no deeper than so many levels
pub record NoDeeper (deep : ℕ) (s : Scan) : Type 0 where
  pub depth : s.depth ≤ deep
  pub base : s.base ≤ deep

-- before a node that has children: where fewer fields are owed than the outermost Struct owed, all of them are its own
unfoldable pub settled : Scan → Scan
settled s =
    cond (ltb s.owed s.outer) (record { owed = s.owed; outer = s.owed; base = s.base; depth = s.base }) s

-- under a List or an Array: one level more
unfoldable pub wrapped : Scan → Scan
wrapped s =
    record {
      owed = (settled s).owed;
      outer = (settled s).outer;
      base = (settled s).base;
      depth = suc (settled s).depth;
    }

-- under a Struct of m fields, whose types are two levels deeper; where nothing is owed it is the outermost
unfoldable pub opened : ℕ → Scan → Scan
opened m s =
    cond (eqb s.owed 0)
    (record { owed = m; outer = m; base = suc (suc (settled s).depth); depth = suc (suc (settled s).depth) })
    (record {
      owed = s.owed + m;
      outer = (settled s).outer;
      base = (settled s).base;
      depth = suc (suc (settled s).depth);
    })

-- after a field: one is paid for
unfoldable pub paid : Scan → Scan
paid s = record { owed = s.owed - 1; outer = s.outer; base = s.base; depth = s.depth }

-- a node that can be the root of a type: no field, and its argument follows its kind's rule
unfoldable pub type_fits : ℕ → ℕ → Bool
type_fits k a = not (eqb k Kind.Field) && argument_fits k a

-- a node that is a field, whose argument follows the rule of a field's name
unfoldable pub field_fits : ℕ → ℕ → Bool
field_fits k a = eqb k Kind.Field && argument_fits k a

-- which of three answers counts after a node: that for the fields still owed, for the type under it, or for its own
-- fields and then those still owed
abbrev pub after : Children → Bool → Bool → Bool → Bool
after no_child x y z = x
after under_list x y z = y
after under_array x y z = y
after fields x y z = z
after no_type x y z = false

unfoldable mutual
  -- a type stands at the front, then the fields still owed, and that is all
  pub scan_type : ℕ → Scan → List ℕ → List ℕ → Bool
  scan_type deep s [] xs = false
  scan_type deep s (k ∷ ks) [] = false
  scan_type deep s (k ∷ ks) (a ∷ xs) =
      type_fits k a
      && after (children k a) (scan_fields deep s ks xs)
      (leb (wrapped s).depth deep && scan_type deep (wrapped s) ks xs)
      (leb (opened a s).depth deep && scan_fields deep (opened a s) ks xs)

  -- the fields still owed stand there, and that is all
  pub scan_fields : ℕ → Scan → List ℕ → List ℕ → Bool
  scan_fields deep s [] [] = eqb s.owed 0
  scan_fields deep s [] (a ∷ xs) = false
  scan_fields deep s (k ∷ ks) [] = false
  scan_fields deep s (k ∷ ks) (a ∷ xs) = ltb 0 s.owed && field_fits k a && scan_type deep (paid s) ks xs

-- two arrays of any length that the scan accepts
unfoldable pub scan_accepts : ℕ → ℕ → List ℕ → List ℕ → Bool
scan_accepts nodes deep ks xs = length_fits nodes ks xs && scan_type deep start ks xs
