-- A type and fields at the front of two arrays: what the tests of specs/View.antt say, and what stands there behind a
-- node and behind a field. Assumes nothing.
use mathlib.Core.Path.{◌≡◌, refl, sym, ap, ap₂, ◌∙◌, subst}
use mathlib.Core.Bool.{Bool, true, false, ◌&&◌}
use mathlib.Core.List.{List, [], ◌∷◌, ◌++◌}
use Rattle.std.specs.Prelude.{Option, None, Some, option_map, option_and_then}
use Prim.Native.Nat.{ℕ, zero, suc, ◌+◌, ◌-◌, ◌≤◌, ◌<◌}
use native.Mathlib.Omega.{arith}
use lib.Dec.{eqb, leb}
use lib.ListN.{length, get_or, take, drop}
use lib.Seq.{take_at}
use borrow.Author.Tests.{eq-eqb, eqb-true, le-leb, leb-true}
use Rattle.flat.specs.Kind as kind
use Rattle.flat.specs.Argument.{argument_fits}
use Rattle.flat.specs.Reader.{node_at, fields_at, under_field}
use Rattle.flat.specs.Span.{span_within}
use Rattle.flat.specs.Tree.{DataType, leaf, list, array, struct, Fields, empty, field, count, size, sizes}
use Rattle.flat.specs.Tree.{kinds_of, args_of, head_kind, head_arg}
use Rattle.flat.specs.Walk.{FrontFields, Valid, ValidRun, type_at, run_at}
use Rattle.flat.proofs.Onward.{onward}
use Rattle.flat.proofs.Positions.{fields_step, fields_zero}
use Rattle.flat.proofs.ReadBack.{Good, Sound, sound, count_is}
use Rattle.flat.proofs.Sizes.{length_kinds, length_args, depth_lt}
use Rattle.flat.proofs.Spans.{type_ended, type_deeper}
use Rattle.flat.proofs.Truths.{impossible, never, both_true}
use Rattle.flat.proofs.Walks.{Unary, length_from, node_of, run_of, type_is, run_is, valid_of}
use Rattle.flat.proofs.Walks.{type_leaf, one_valid, type_one, struct_valid, type_struct, run_end}
use Rattle.flat.proofs.Walks.{field_valid, others_valid, run_field, type_kind, type_arg}
use Rattle.dtype.specs.Equality.{equal}
use Rattle.dtype_eq.specs.Nodes.{starts_with}
use Rattle.dtype_eq.proofs.Scans.{starts_type}
use Rattle.dtype_inner.specs.Inner.{inner_dtype}
use Rattle.supertype_nested.specs.Laws.{Each, LeavesFit, FieldsFit}
use Rattle.supertype_place.specs.View.{from, most_nodes, leaves_fit, fields_fit}
use Rattle.supertype_place.specs.View.{read_fits, paired, type_stands, run_stands}
use Rattle.supertype_place.specs.Viewed.{front_of}

-- ---- the tests

-- what a leaf, a name and so on comes to, as a test and as a fact
mutual
  unfolding leaves_fit Each

  leaves_of : (t : DataType) → leaves_fit t ≡ true → LeavesFit t
  leaves_of (leaf k a) e = e
  leaves_of (list t) e = leaves_of t e
  leaves_of (array w t) e = leaves_of t e
  leaves_of (struct fs) e = fields_of_lem fs e

  fields_of_lem : (fs : Fields) → fields_fit fs ≡ true → FieldsFit fs
  fields_of_lem empty e = tt
  fields_of_lem (field name t fs) e =
      let a = both_true (argument_fits kind.Field name) (leaves_fit t && fields_fit fs) e in
      let b = both_true (leaves_fit t) (fields_fit fs) a.1 in
      (a.0, leaves_of t b.0, fields_of_lem fs b.1)

both_yes : {a b : Bool} → a ≡ true → b ≡ true → (a && b) ≡ true
both_yes {a} {b} e h = ap₂ (λ (a b : Bool). a && b) e h

mutual
  unfolding leaves_fit Each

  test_leaves : (t : DataType) → LeavesFit t → leaves_fit t ≡ true
  test_leaves (leaf k a) f = f
  test_leaves (list t) f = test_leaves t f
  test_leaves (array w t) f = test_leaves t f
  test_leaves (struct fs) f = test_fields fs f

  test_fields : (fs : Fields) → FieldsFit fs → fields_fit fs ≡ true
  test_fields empty f = refl
  test_fields (field name t fs) f = both_yes f.0 (both_yes (test_leaves t f.1) (test_fields fs f.2))

-- two arrays of one length, no larger than any step needs
alike_of : (ks xs : List ℕ) → paired ks xs ≡ true → (length ks ≡ length xs) × (length ks ≤ most_nodes)
alike_of ks xs e =
    let a = both_true (eqb (length ks) (length xs)) (leb (length ks) most_nodes) e in
    (eqb-true (length ks) (length xs) a.0, leb-true (length ks) most_nodes a.1)

test_alike : (ks xs : List ℕ) → length ks ≡ length xs → length ks ≤ most_nodes → paired ks xs ≡ true
test_alike ks xs e h = both_yes (eq-eqb (length ks) (length xs) e) (le-leb (length ks) most_nodes h)

-- A type at the front. The orders follow from the rest, and stand here for the arithmetic of the code.
pub record TypeFront (ks xs : List ℕ) : Type 0 where
  pub valid : Valid ks xs
  pub fits : LeavesFit (type_at ks xs)
  pub even : length ks ≡ length xs
  pub most : length ks ≤ most_nodes
  pub pos : 1 ≤ size (type_at ks xs)
  pub kinds : size (type_at ks xs) ≤ length ks
  pub args : size (type_at ks xs) ≤ length xs

-- m fields at the front
pub record RunFront (m : ℕ) (ks xs : List ℕ) : Type 0 where
  pub valid : ValidRun m ks xs
  pub fits : FieldsFit (run_at m ks xs)
  pub even : length ks ≡ length xs
  pub most : length ks ≤ most_nodes
  pub pos : m ≤ sizes (run_at m ks xs)
  pub kinds : sizes (run_at m ks xs) ≤ length ks
  pub args : sizes (run_at m ks xs) ≤ length xs

some_read : {A : Type 0} (f : A → Bool) (q : Option A) → read_fits f q ≡ true → (x : A) × (q ≡ Some x) × (f x ≡ true)
some_read f None e = never e
some_read f (Some x) e = (x, refl, e)

-- from the test and from the parts
pub front_type : (ks xs : List ℕ) → length ks ≤ most_nodes → Valid ks xs → LeavesFit (type_at ks xs) → TypeFront ks xs
front_type ks xs m v f = record {
  valid = v;
  fits = f;
  even = v.even;
  most = m;
  pos = v.pos;
  kinds = v.within;
  args = omega (arith, v.within, v.even);
}

front_run : (m : ℕ) (ks xs : List ℕ) → length ks ≤ most_nodes → ValidRun m ks xs → FieldsFit (run_at m ks xs)
    → RunFront m ks xs
front_run m ks xs h v f = record {
  valid = v;
  fits = f;
  even = v.even;
  most = h;
  pos = v.pos;
  kinds = v.within;
  args = omega (arith, v.within, v.even);
}

pub type_front : {ks xs : List ℕ} → type_stands ks xs ≡ true → TypeFront ks xs
unfolding type_stands
type_front {ks} {xs} e =
    let a = both_true (paired ks xs) (read_fits leaves_fit (node_at ks xs)) e in
    let b = alike_of ks xs a.0 in
    let r = some_read leaves_fit (node_at ks xs) a.1 in
    front_type ks xs b.1 (valid_of (node_of ks xs r.0 b.0 r.1))
    (subst LeavesFit (sym (type_is ks xs r.0 r.1)) (leaves_of r.0 r.2))

pub run_front : {m : ℕ} {ks xs : List ℕ} → run_stands m ks xs ≡ true → RunFront m ks xs
unfolding run_stands
run_front {m} {ks} {xs} e =
    let a = both_true (paired ks xs) (read_fits fields_fit (fields_at m ks xs)) e in
    let b = alike_of ks xs a.0 in
    let r = some_read fields_fit (fields_at m ks xs) a.1 in
    front_run m ks xs b.1 (subst (FrontFields m ks xs) (sym (run_is m ks xs r.0 r.1)) (run_of m ks xs r.0 b.0 r.1))
    (subst FieldsFit (sym (run_is m ks xs r.0 r.1)) (fields_of_lem r.0 r.2))

pub type_stood : {ks xs : List ℕ} → TypeFront ks xs → type_stands ks xs ≡ true
unfolding type_stands
type_stood {ks} {xs} v =
    both_yes (test_alike ks xs v.even v.most)
    (ap (read_fits leaves_fit) v.valid.read ∙ test_leaves (type_at ks xs) v.fits)

pub run_stood : {m : ℕ} {ks xs : List ℕ} → RunFront m ks xs → run_stands m ks xs ≡ true
unfolding run_stands
run_stood {m} {ks} {xs} v =
    both_yes (test_alike ks xs v.even v.most)
    (ap (read_fits fields_fit) v.valid.read ∙ test_fields (run_at m ks xs) v.fits)

-- ---- a type

-- what was read at the front of two arrays stands there
read_front : (ks xs : List ℕ) → Valid ks xs → Sound ks xs (Some (type_at ks xs))
read_front ks xs v = subst (λ (q : Option DataType). Sound ks xs q) v.read (sound ks xs)

-- a part is no longer
part_most : (j : ℕ) (l : List ℕ) → length l ≤ most_nodes → length (from j l) ≤ most_nodes
part_most j l h = omega (arith, length_from j l)

unary_inner : {k a : ℕ} {f : DataType → DataType} → Unary k a f → (t : DataType) → inner_dtype (f t) ≡ Some t
unfolding inner_dtype
unary_inner Unary.is_list t = refl
unary_inner Unary.is_array t = refl

unary_fits : {k a : ℕ} {f : DataType → DataType} → Unary k a f → (t : DataType) → LeavesFit (f t) → LeavesFit t
unfolding Each
unary_fits Unary.is_list t h = h
unary_fits Unary.is_array t h = h

module _ {ks xs : List ℕ} (v : TypeFront ks xs) where
  -- its kinds and arguments, and what stands after them
  pub kinds_all : ks ≡ kinds_of (type_at ks xs) ++ drop (size (type_at ks xs)) ks
  kinds_all = (read_front ks xs v.valid).0

  pub args_all : xs ≡ args_of (type_at ks xs) ++ drop (size (type_at ks xs)) xs
  args_all = (read_front ks xs v.valid).1

  -- each leaf has a leaf's kind
  pub type_good : Good (type_at ks xs)
  type_good = (read_front ks xs v.valid).2

  -- its kinds and arguments alone
  pub kinds_alone : take (size (type_at ks xs)) ks ≡ kinds_of (type_at ks xs)
  kinds_alone =
      let t : DataType = type_at ks xs in
      ap (take (size t)) kinds_all ∙ take_at (kinds_of t) _ (size t) (length_kinds t)

  pub args_alone : take (size (type_at ks xs)) xs ≡ args_of (type_at ks xs)
  args_alone =
      let t : DataType = type_at ks xs in
      ap (take (size t)) args_all ∙ take_at (args_of t) _ (size t) (length_args t)

  -- a leaf is one node
  pub leaf_one : get_or ks 0 0 < kind.List → size (type_at ks xs) ≡ 1
  unfolding size
  leaf_one h = ap size (type_leaf ks xs v.valid h)

  pub root_kind : head_kind (type_at ks xs) ≡ get_or ks 0 0
  root_kind = type_kind ks xs v.valid

  pub root_arg : head_arg (type_at ks xs) ≡ get_or xs 0 0
  root_arg = type_arg ks xs v.valid

  -- what the walk over its nodes answers: it is no deeper than the nodes are many
  pub span_is : span_within (length ks) (type_at ks xs) ≡ Some (size (type_at ks xs))
  span_is = go _ refl
    where
      t : DataType
      t = type_at ks xs

      go : (r : Option ℕ) → r ≡ span_within (length ks) t → span_within (length ks) t ≡ Some (size t)
      go None e = absurd (omega (arith, type_deeper (length ks) t e, depth_lt t, v.kinds))
      go (Some n) e = sym e ∙ ap Some (type_ended (length ks) t n e).0

  -- under a List or an Array
  module _ (h : (kind.List ≤ head_kind (type_at ks xs)) × (head_kind (type_at ks xs) ≤ kind.Array)) where
    over : (kind.List ≤ get_or ks 0 0) × (get_or ks 0 0 ≡ kind.Struct → ⊥)
    over = (omega (arith, root_kind), λ e. omega (arith, root_kind))

    pub inner_front : TypeFront (from 1 ks) (from 1 xs)
    inner_front =
        let o = type_one ks xs v.valid over.0 over.1 in
        front_type (from 1 ks) (from 1 xs) (part_most 1 ks v.most) (one_valid ks xs v.valid over.0 over.1)
        (unary_fits o.1 (type_at (from 1 ks) (from 1 xs)) (subst LeavesFit o.2 v.fits))

    pub inner_is : inner_dtype (type_at ks xs) ≡ Some (type_at (from 1 ks) (from 1 xs))
    inner_is =
        let o = type_one ks xs v.valid over.0 over.1 in
        ap inner_dtype o.2 ∙ unary_inner o.1 (type_at (from 1 ks) (from 1 xs))

  -- under a Struct
  module _ (h : head_kind (type_at ks xs) ≡ kind.Struct) where
    struct_kind : get_or ks 0 0 ≡ kind.Struct
    struct_kind = sym root_kind ∙ h

    pub struct_is : type_at ks xs ≡ struct (run_at (get_or xs 0 0) (from 1 ks) (from 1 xs))
    struct_is = type_struct ks xs v.valid struct_kind

    pub struct_front : RunFront (get_or xs 0 0) (from 1 ks) (from 1 xs)
    unfolding Each
    struct_front =
        front_run (get_or xs 0 0) (from 1 ks) (from 1 xs) (part_most 1 ks v.most)
        (struct_valid ks xs v.valid struct_kind) (subst LeavesFit struct_is v.fits)

-- the nodes of a type at the front of those of another: the types are equal
pub same_types : {ks xs ls ys : List ℕ} → TypeFront ks xs → TypeFront ls ys → {b : Bool}
    → b ≡ starts_with ks xs (take (size (type_at ls ys)) ls) (take (size (type_at ls ys)) ys)
    → b ≡ equal (type_at ks xs) (type_at ls ys)
same_types {ks} {xs} {ls} {ys} v w h =
    let t : DataType = type_at ks xs in
    let u : DataType = type_at ls ys in
    h ∙ ap₂ (starts_with ks xs) (kinds_alone w) (args_alone w)
    ∙ ap₂ (λ (a b : List ℕ). starts_with a b (kinds_of u) (args_of u)) (kinds_all v) (args_all v)
    ∙ starts_type t u (type_good v) (type_good w) _ _

-- ---- fields

-- no fields
pub no_field : (m : ℕ) (ks xs : List ℕ) → m ≡ 0 → run_at m ks xs ≡ empty
no_field m ks xs e = run_end m ks xs e

-- how many there are
pub run_many : {m : ℕ} {ks xs : List ℕ} → RunFront m ks xs → count (run_at m ks xs) ≡ m
run_many {m} {ks} {xs} v = count_is m ks xs (run_at m ks xs) v.valid.read

-- the first one
module _ {m : ℕ} {ks xs : List ℕ} (v : RunFront m ks xs) (p : m ≡ 0 → ⊥) where
  abbrev first : DataType
  first = type_at (from 1 ks) (from 1 xs)

  past : (l : List ℕ) → from (size (type_at (from 1 ks) (from 1 xs)) + 1) l
      ≡ from (size (type_at (from 1 ks) (from 1 xs))) (from 1 l)
  past l = sym (onward 1 (size first) (size first + 1) l (omega arith))

  -- the run is that field, and those behind it
  pub first_field : run_at m ks xs
      ≡ field (get_or xs 0 0) (type_at (from 1 ks) (from 1 xs))
      (run_at (m - 1) (from (size (type_at (from 1 ks) (from 1 xs))) (from 1 ks))
      (from (size (type_at (from 1 ks) (from 1 xs))) (from 1 xs)))
  first_field =
      run_field m ks xs v.valid p (size first) refl
      ∙ ap₂ (λ (a b : List ℕ). field (get_or xs 0 0) first (run_at (m - 1) a b)) (past ks) (past xs)

  both_fit : LeavesFit (type_at (from 1 ks) (from 1 xs))
      × FieldsFit (run_at (m - 1) (from (size (type_at (from 1 ks) (from 1 xs))) (from 1 ks))
      (from (size (type_at (from 1 ks) (from 1 xs))) (from 1 xs)))
  unfolding Each
  both_fit = let f = subst FieldsFit first_field v.fits in (f.1, f.2)

  -- its type
  pub field_front : TypeFront (from 1 ks) (from 1 xs)
  field_front = front_type (from 1 ks) (from 1 xs) (part_most 1 ks v.most) (field_valid m ks xs v.valid p) both_fit.0

  -- the fields behind it
  pub behind_front : RunFront (m - 1) (from (size (type_at (from 1 ks) (from 1 xs))) (from 1 ks))
      (from (size (type_at (from 1 ks) (from 1 xs))) (from 1 xs))
  behind_front =
      front_run (m - 1) _ _ (part_most (size first) (from 1 ks) (part_most 1 ks v.most))
      (subst (λ (a : List ℕ). ValidRun (m - 1) a (from (size first) (from 1 xs))) (past ks)
      (subst (λ (a : List ℕ). ValidRun (m - 1) (from (size first + 1) ks) a) (past xs)
      (others_valid m ks xs v.valid p (size first) refl)))
      both_fit.1

-- the fields behind the first one, by numbers that equal theirs
pub behind_as : (name : ℕ) (t : DataType) {i j k n : ℕ} (ks xs : List ℕ) → j ≡ i → n ≡ k
    → field name t (run_at i (from k ks) (from k xs)) ≡ field name t (run_at j (from n ks) (from n xs))
behind_as name t ks xs e h =
    ap₂ (λ (i k : ℕ). field name t (run_at i (from k ks) (from k xs))) (sym e) (sym h)

-- the first n of them
front_read : (n m : ℕ) (ks xs : List ℕ) (fs : Fields) → n ≤ m → fields_at m ks xs ≡ Some fs
    → fields_at n ks xs ≡ Some (front_of n fs)
unfolding front_of
front_read zero m ks xs fs h p = fields_zero ks xs
front_read (suc n) zero ks xs fs h p = absurd (omega arith)
front_read (suc n) (suc m) [] xs fs h p = let e = sym p ∙ fields_step (suc m) [] xs in impossible cc
front_read (suc n) (suc m) (k ∷ ks) [] fs h p = let e = sym p ∙ fields_step (suc m) (k ∷ ks) [] in impossible cc
front_read (suc n) (suc m) (k ∷ ks) (a ∷ xs) fs h p =
    fields_step (suc n) (k ∷ ks) (a ∷ xs)
    ∙ at_kind (eqb k kind.Field) (sym (fields_step (suc m) (k ∷ ks) (a ∷ xs)) ∙ p)
    (λ i gs q. front_read n m (drop i ks) (drop i xs) gs (omega arith) q)
  where
    Again : Type 0
    Again = (i : ℕ) (gs : Fields) → fields_at m (drop i ks) (drop i xs) ≡ Some gs
        → fields_at n (drop i ks) (drop i xs) ≡ Some (front_of n gs)

    at_others : (t : DataType) (r : Option Fields) → fields_at m (drop (size t) ks) (drop (size t) xs) ≡ r
        → option_map (field a t) r ≡ Some fs → Again
        → option_map (field a t) (fields_at n (drop (size t) ks) (drop (size t) xs)) ≡ Some (front_of (suc n) fs)
    at_others t None s e again = impossible cc
    at_others t (Some gs) s e again =
        let d : field a t gs ≡ fs = cc in
        ap (option_map (field a t)) (again (size t) gs s) ∙ ap (λ (z : Fields). Some (front_of (suc n) z)) d

    at_type : (r : Option DataType)
        → option_and_then (λ t. option_map (field a t) (fields_at m (drop (size t) ks) (drop (size t) xs))) r ≡ Some fs
        → Again
        → option_and_then (λ t. option_map (field a t) (fields_at n (drop (size t) ks) (drop (size t) xs))) r
        ≡ Some (front_of (suc n) fs)
    at_type None e again = impossible cc
    at_type (Some t) e again = at_others t (fields_at m (drop (size t) ks) (drop (size t) xs)) refl e again

    at_kind : (b : Bool) → under_field node_at fields_at b m a ks xs ≡ Some fs → Again
        → under_field node_at fields_at b n a ks xs ≡ Some (front_of (suc n) fs)
    at_kind false e again = impossible cc
    at_kind true e again = at_type (node_at ks xs) e again

front_fits : (n : ℕ) (fs : Fields) → FieldsFit fs → FieldsFit (front_of n fs)
unfolding front_of Each
front_fits zero fs f = tt
front_fits (suc n) empty f = tt
front_fits (suc n) (field name t fs) f = (f.0, f.1, front_fits n fs f.2)

module _ {n m : ℕ} {ks xs : List ℕ} (v : RunFront m ks xs) (h : n ≤ m) where
  first_read : fields_at n ks xs ≡ Some (front_of n (run_at m ks xs))
  first_read = front_read n m ks xs (run_at m ks xs) h v.valid.read

  pub front_is : run_at n ks xs ≡ front_of n (run_at m ks xs)
  front_is = run_is n ks xs (front_of n (run_at m ks xs)) first_read

  pub front_stands : RunFront n ks xs
  front_stands =
      front_run n ks xs v.most
      (subst (FrontFields n ks xs) (sym front_is) (run_of n ks xs (front_of n (run_at m ks xs)) v.even first_read))
      (subst FieldsFit (sym front_is) (front_fits n (run_at m ks xs) v.fits))
