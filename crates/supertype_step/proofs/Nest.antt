-- The steps of two nested types. Assumes nothing.
use Rattle.std.specs.Bool.{then_some}
use Rattle.std.specs.Prelude.{None, Some, option_map}
use mathlib.Core.Path.{◌≡◌, refl, sym, ap, ◌∙◌}
use mathlib.Core.Bool.{Bool, true, false, cond, ◌&&◌}
use Prim.Native.Nat.{ℕ, ◌≤◌, ◌<◌}
use native.Mathlib.Omega.{arith}
use native.Mathlib.Decide.{dec_lt}
use borrow.Author.Tests.{lt-ltb, le-ltb, eq-eqb, ne_eqb}
use Rattle.flat.specs.Kind as kind
use Rattle.flat.specs.Tree.{DataType, list, array, struct, Fields, count, head_kind, head_arg}
use Rattle.flat.proofs.Truths.{never}
use Rattle.dtype_inner.specs.Inner.{inner_dtype}
use Rattle.flat.specs.declared.Node.{Node}
use Rattle.supertype_answer.specs.Join.{node}
use Rattle.supertype_arms.specs.Supertype.{is}
use Rattle.supertype_nested.specs.Nested.{SuperTypeOptions, TreeCall, supertype_tree_with}
use Rattle.supertype_nested.specs.Step.{Fair}
use Rattle.supertype_nested.proofs.Steps.{two_lists, list_with_array, array_with_list, two_arrays}
use Rattle.supertype_nested.proofs.Steps.{same_count, left_longer, right_longer}
use Rattle.supertype_nested.proofs.Beside.{taken_in, list_with_struct, struct_with_list}
use Rattle.supertype_nested.proofs.Beside.{array_with_struct, struct_with_array}
use Rattle.supertype_step.specs.declared.Side.{Side}
use Rattle.supertype_step.specs.declared.Step.{Step}
use Rattle.supertype_step.specs.Decided.{either_fields, run_step, RootOf, is_list, is_array}
use Rattle.supertype_step.specs.Decided.{Wraps, list_wraps, array_wraps, Decided, DecidedBy}
use Rattle.supertype_step.proofs.Roots.{IsStruct, fields_of_lem, wraps_root, struct_root}

-- ---- of two types

module _ (c : TreeCall) (fair : Fair c) (o : SuperTypeOptions) where
  -- Structs: the unions, by the number of fields
  either : (fs gs : Fields) → supertype_tree_with c o (struct fs) (struct gs) ≡ option_map struct (either_fields c fs gs)
  unfolding either_fields
  either fs gs = go (dec_lt (count fs) (count gs)) (dec_lt (count gs) (count fs))
    where
      go : Dec (count fs < count gs) → Dec (count gs < count fs)
          → supertype_tree_with c o (struct fs) (struct gs) ≡ option_map struct (either_fields c fs gs)
      go (yes h) q = rw (lt-ltb (count fs) (count gs) h) (right_longer c fair o fs gs h)
      go (no h) (yes g) =
          rw (le-ltb (count fs) (count gs) (omega arith), lt-ltb (count gs) (count fs) g) (left_longer c fair o fs gs g)
      go (no h) (no g) =
          rw (le-ltb (count fs) (count gs) (omega arith), le-ltb (count gs) (count fs) (omega arith))
          (same_count c fair o fs gs (omega arith))

  two_structs : {l r : DataType} → IsStruct l → IsStruct r → Decided c o l r (Some Step.Fields)
  unfolding run_step head_kind
  two_structs (fields_of_lem {fs}) (fields_of_lem {fs = gs}) = record { answers = either fs gs; parts = (refl, refl) }

  -- a Struct with a List or an Array, on either side
  struct_in : {l r : DataType} → IsStruct l → Wraps r → (is kind.List (head_kind r) && o.allow_implode_list) ≡ true
      → Decided c o l r (Some (Step.Within Side.Right))
  unfolding run_step head_kind inner_dtype
  struct_in (fields_of_lem {fs}) (list_wraps {t}) e =
      record {
        answers = struct_with_list c o t fs ∙ ap (λ (i : Bool). taken_in c o i t (struct fs)) e;
        parts = refl;
      }
  struct_in fields_of_lem array_wraps e = never e

  struct_out : {l r : DataType} → IsStruct l → Wraps r → (is kind.List (head_kind r) && o.allow_implode_list) ≡ false
      → Decided c o l r None
  unfolding run_step head_kind
  struct_out (fields_of_lem {fs}) (list_wraps {t}) e =
      record {
        answers = struct_with_list c o t fs ∙ ap (λ (i : Bool). taken_in c o i t (struct fs)) e;
        parts = tt;
      }
  struct_out (fields_of_lem {fs}) (array_wraps {w} {t}) e =
      record { answers = struct_with_array c o w t fs; parts = tt }

  in_struct : {l r : DataType} → Wraps l → IsStruct r → (is kind.List (head_kind l) && o.allow_implode_list) ≡ true
      → Decided c o l r (Some (Step.Within Side.Left))
  unfolding run_step head_kind inner_dtype
  in_struct (list_wraps {t}) (fields_of_lem {fs}) e =
      record {
        answers = list_with_struct c o t fs ∙ ap (λ (i : Bool). taken_in c o i t (struct fs)) e;
        parts = refl;
      }
  in_struct array_wraps fields_of_lem e = never e

  out_struct : {l r : DataType} → Wraps l → IsStruct r → (is kind.List (head_kind l) && o.allow_implode_list) ≡ false
      → Decided c o l r None
  unfolding run_step head_kind
  out_struct (list_wraps {t}) (fields_of_lem {fs}) e =
      record {
        answers = list_with_struct c o t fs ∙ ap (λ (i : Bool). taken_in c o i t (struct fs)) e;
        parts = tt;
      }
  out_struct (array_wraps {w} {t}) (fields_of_lem {fs}) e =
      record { answers = array_with_struct c o w t fs; parts = tt }

  -- Lists and Arrays: a List, but of two Arrays of one width
  abbrev OneWidth : DataType → DataType → Type 0
  OneWidth l r = (head_kind l ≡ kind.Array) × (head_kind r ≡ kind.Array) × (head_arg l ≡ head_arg r)

  wrap_list : {l r : DataType} → Wraps l → Wraps r → (OneWidth l r → ⊥) → Decided c o l r (Some (Step.Under (node kind.List 0)))
  unfolding run_step head_kind head_arg inner_dtype
  wrap_list (list_wraps {t}) (list_wraps {t = u}) n =
      record { answers = two_lists c fair o t u; parts = (is_list, list_wraps, list_wraps) }
  wrap_list (list_wraps {t}) (array_wraps {w = v} {t = u}) n =
      record { answers = list_with_array c fair o v t u; parts = (is_list, list_wraps, array_wraps) }
  wrap_list (array_wraps {w} {t}) (list_wraps {t = u}) n =
      record { answers = array_with_list c fair o w t u; parts = (is_list, array_wraps, list_wraps) }
  wrap_list (array_wraps {w} {t}) (array_wraps {w = v} {t = u}) n =
      record {
        answers = two_arrays c fair o w v t u
            ∙ ap (λ (b : Bool). option_map (λ z. cond b (array w z) (list z)) (c t u)) (ne_eqb w v (λ e. n (refl, refl, e)));
        parts = (is_list, array_wraps, array_wraps);
      }

  wrap_array : {l r : DataType} → Wraps l → Wraps r → OneWidth l r
      → Decided c o l r (Some (Step.Under (node kind.Array (head_arg l))))
  unfolding run_step head_kind head_arg inner_dtype
  wrap_array list_wraps v e = absurd (omega (arith, e.0))
  wrap_array array_wraps list_wraps e = absurd (omega (arith, e.1))
  wrap_array (array_wraps {w} {t}) (array_wraps {w = v} {t = u}) e =
      record {
        answers = two_arrays c fair o w v t u
            ∙ ap (λ (b : Bool). option_map (λ z. cond b (array w z) (list z)) (c t u)) (eq-eqb w v e.2);
        parts = (is_array, array_wraps, array_wraps);
      }

-- ---- by their roots

-- the kind of a List or an Array
abbrev pub Wrap : ℕ → Type 0
Wrap k = (kind.List ≤ k) × (k < kind.Struct)

module _ (o : SuperTypeOptions) (a x b y : ℕ) where
  -- a type's kind is its root's
  at_root : {t : DataType} {k v : ℕ} (q : Bool) → RootOf t k v → (is kind.List k && o.allow_implode_list) ≡ q
      → (is kind.List (head_kind t) && o.allow_implode_list) ≡ q
  at_root q h e = ap (λ (k : ℕ). is kind.List k && o.allow_implode_list) h.kind ∙ e

  pub by_fields : a ≡ kind.Struct → b ≡ kind.Struct → DecidedBy o a x b y (Some Step.Fields)
  by_fields e g c fair l r p q = two_structs c fair o (struct_root l p e) (struct_root r q g)

  pub by_right : a ≡ kind.Struct → Wrap b → {i : Bool} → i ≡ (is kind.List b && o.allow_implode_list)
      → DecidedBy o a x b y (then_some i (Step.Within Side.Right))
  by_right e w {i = true} h c fair l r p q =
      struct_in c fair o (struct_root l p e) (wraps_root r q w.0 w.1) (at_root true q (sym h))
  by_right e w {i = false} h c fair l r p q =
      struct_out c fair o (struct_root l p e) (wraps_root r q w.0 w.1) (at_root false q (sym h))

  pub by_left : Wrap a → b ≡ kind.Struct → {i : Bool} → i ≡ (is kind.List a && o.allow_implode_list)
      → DecidedBy o a x b y (then_some i (Step.Within Side.Left))
  by_left w g {i = true} h c fair l r p q =
      in_struct c fair o (wraps_root l p w.0 w.1) (struct_root r q g) (at_root true p (sym h))
  by_left w g {i = false} h c fair l r p q =
      out_struct c fair o (wraps_root l p w.0 w.1) (struct_root r q g) (at_root false p (sym h))

  pub by_list : {root : Node} → root ≡ node kind.List 0 → Wrap a → Wrap b
      → ((a ≡ kind.Array) × (b ≡ kind.Array) × (x ≡ y) → ⊥) → DecidedBy o a x b y (Some (Step.Under root))
  by_list h w v n c fair l r p q =
      rw h (wrap_list c fair o (wraps_root l p w.0 w.1) (wraps_root r q v.0 v.1)
      (λ e. n (sym p.kind ∙ e.0, sym q.kind ∙ e.1, sym p.arg ∙ e.2 ∙ q.arg)))

  pub by_array : a ≡ kind.Array → b ≡ kind.Array → x ≡ y → DecidedBy o a x b y (Some (Step.Under (node a x)))
  by_array e g n c fair l r p q =
      rw (e, ← p.arg)
      (wrap_array c fair o (wraps_root l p (omega arith) (omega arith)) (wraps_root r q (omega arith) (omega arith))
      (p.kind ∙ e, q.kind ∙ g, p.arg ∙ n ∙ sym q.arg))
