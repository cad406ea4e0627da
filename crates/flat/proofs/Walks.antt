-- What a walk of a valid type meets: the cases at a node and at a field, in the terms of the parts that it hands on,
-- and what holds of those parts. They are stated once, for every walk. Assumes nothing.
use mathlib.Core.Path.{◌≡◌, refl, sym, ap, ap₂, ◌∙◌, subst}
use mathlib.Core.Bool.{Bool, true, false}
use mathlib.Core.List.{List}
use Rattle.std.specs.Prelude.{Option, None, Some}
use Rattle.std.specs.Prelude.{option_map, option_and_then}
use Prim.Native.Nat.{ℕ, zero, suc, ◌+◌, ◌-◌, ◌≤◌, ◌<◌}
use native.Mathlib.Omega.{arith}
use lib.Dec.{eqb}
use lib.ListN.{length, get_or, take, drop, length-drop}
use lib.Seq.{drop-drop}
use borrow.Author.Tests.{eqb-true}
use Rattle.flat.specs.Kind
use Rattle.flat.specs.Tree.{DataType, leaf, list, array, struct, Fields, empty, field, size, sizes, count}
use Rattle.flat.specs.Tree.{head_kind, head_arg}
use Rattle.flat.specs.Reader.{Children, no_child, under_list, under_array, fields, no_type, children}
use Rattle.flat.specs.Reader.{under_node, under_field, node_at, fields_at}
use Rattle.flat.specs.Walk.{FrontType, FrontFields, with_default, type_at, run_at, Valid, ValidRun}
use Rattle.flat.proofs.Truths.{impossible}
use Rattle.flat.proofs.Sizes.{size_pos}
use Rattle.flat.proofs.ReadBack.{View, is_leaf, is_struct, is_other, view, bounded, bounds, count_read, count_is}
use Rattle.flat.proofs.Positions.{rest, node_at_lem, fields_at_lem, fields_zero}

-- a slice after its first j elements, as the code hands it on
abbrev pub from : ℕ → List ℕ → List ℕ
from j l = take (length l - j) (drop j l)

pub length_from : (j : ℕ) (l : List ℕ) → length (from j l) ≡ length l - j
length_from j l = rw (rest, length-drop)

-- a part is shorter, for a walk's measure t
pub shorter : (l : List ℕ) (n t : ℕ) → length l ≡ t → 0 < length l → length (from (n + 1) l) < t
shorter l n t e h = let a = length_from (n + 1) l in omega arith

pub node_of : (ks xs : List ℕ) (t : DataType) → length ks ≡ length xs → node_at ks xs ≡ Some t → FrontType ks xs t
node_of ks xs t e r = record { read = r; even = e; pos = size_pos t; within = bounded ks xs t r }

pub run_of :
    (m : ℕ) (ks xs : List ℕ) (fs : Fields) → length ks ≡ length xs → fields_at m ks xs ≡ Some fs → FrontFields m ks xs fs
run_of m ks xs fs e r = record { read = r; even = e; pos = count_read m ks xs fs r; within = bounds m ks xs fs r }

part_even : (j : ℕ) (ks xs : List ℕ) → length ks ≡ length xs → length (from j ks) ≡ length (from j xs)
part_even j ks xs e = let a = length_from j ks in let b = length_from j xs in omega arith

-- a node over one type
pub data Unary : ℕ → ℕ → (DataType → DataType) → Type 0 where
  is_list : Unary Kind.List 0 list
  is_array : {a : ℕ} → Unary Kind.Array a (array a)

-- the cases at a node
pub data AtNode (ks xs : List ℕ) : DataType → Type 0 where
  at_leaf : get_or ks 0 0 ≤ Kind.UnknownIntNeg → AtNode ks xs (leaf (get_or ks 0 0) (get_or xs 0 0))
  at_one :
      {f : DataType → DataType} {u : DataType} → Unary (get_or ks 0 0) (get_or xs 0 0) f
      → FrontType (from 1 ks) (from 1 xs) u → AtNode ks xs (f u)
  at_struct :
      {fs : Fields} → get_or ks 0 0 ≡ Kind.Struct → FrontFields (get_or xs 0 0) (from 1 ks) (from 1 xs) fs
      → AtNode ks xs (struct fs)

some_of : {A B : Type 0} (f : A → B) (q : Option A) (b : B) → option_map f q ≡ Some b → (a : A) × (q ≡ Some a) × (b ≡ f a)
some_of f None b e = impossible cc
some_of f (Some a) b e = (a, refl, cc)

pub at_node : (ks xs : List ℕ) (t : DataType) → FrontType ks xs t → AtNode ks xs t
at_node ks xs t n =
    go (children (get_or ks 0 0) (get_or xs 0 0)) (view (get_or ks 0 0) (get_or xs 0 0)) refl refl
    (sym (node_at_lem ks xs 0 (omega arith) (omega arith) (children (get_or ks 0 0) (get_or xs 0 0)) refl) ∙ n.read)
  where
    one :
        (f : DataType → DataType) → Unary (get_or ks 0 0) (get_or xs 0 0) f
        → option_map f (node_at (drop 1 ks) (drop 1 xs)) ≡ Some t → AtNode ks xs t
    one f u e = let s = some_of f (node_at (drop 1 ks) (drop 1 xs)) t e in
        subst (λ (z : DataType). AtNode ks xs z) (sym s.2)
        (at_one u (node_of (from 1 ks) (from 1 xs) s.0 (part_even 1 ks xs n.even) (rw (rest, rest) s.1)))

    go :
        {k a : ℕ} (s : Children) → View k a s → get_or ks 0 0 ≡ k → get_or xs 0 0 ≡ a
        → under_node node_at fields_at s (get_or ks 0 0) (get_or xs 0 0) (drop 1 ks) (drop 1 xs) ≡ Some t → AtNode ks xs t
    go no_child (is_leaf h) p q e =
        subst (λ (z : DataType). AtNode ks xs z) (let y : leaf (get_or ks 0 0) (get_or xs 0 0) ≡ t = cc in y)
        (at_leaf (omega arith))
    go under_list View.is_list p q e = one list (rw (p, q) Unary.is_list) e
    go under_array (View.is_array {a}) p q e = one (array (get_or xs 0 0)) (rw p Unary.is_array) e
    go fields is_struct p q e = let s = some_of struct (fields_at (get_or xs 0 0) (drop 1 ks) (drop 1 xs)) t e in
        subst (λ (z : DataType). AtNode ks xs z) (sym s.2) (at_struct p (run_of (get_or xs 0 0) (from 1 ks) (from 1 xs) s.0 (part_even 1 ks xs n.even) (rw (rest, rest) s.1)))
    go no_type is_other p q e = impossible cc

-- the cases at m fields
pub data AtRun (m : ℕ) (ks xs : List ℕ) : Fields → Type 0 where
  at_end : m ≡ 0 → AtRun m ks xs empty
  at_field :
      {t : DataType} {fs : Fields} → 0 < m → get_or ks 0 0 ≡ Kind.Field → FrontType (from 1 ks) (from 1 xs) t
      → ((n : ℕ) → n ≡ size t → FrontFields (m - 1) (from (n + 1) ks) (from (n + 1) xs) fs)
      → AtRun m ks xs (field (get_or xs 0 0) t fs)

pub at_run : (m : ℕ) (ks xs : List ℕ) (fs : Fields) → FrontFields m ks xs fs → AtRun m ks xs fs
at_run zero ks xs fs r =
    subst (λ (z : Fields). AtRun zero ks xs z)
    (let e = sym (fields_zero ks xs) ∙ r.read in let y : empty ≡ fs = cc in y) (at_end refl)
at_run (suc m) ks xs fs r = by_field (eqb (get_or ks 0 0) Kind.Field) refl (sym (fields_at_lem (suc m) ks xs 0 (omega arith) (omega arith) (omega arith) (eqb (get_or ks 0 0) Kind.Field) refl) ∙ r.read)
  where
    past : (t : DataType) (n : ℕ) → n ≡ size t → (l : List ℕ) → from (n + 1) l ≡ drop (size t) (drop 1 l)
    past t n y l =
        rest l (n + 1) ∙ ap (λ (i : ℕ). drop i l) (let z : n + 1 ≡ 1 + size t = omega arith in z) ∙ sym
        (drop-drop (size t) 1 l)

    at_type : get_or ks 0 0 ≡ Kind.Field → (q : Option DataType) → node_at (drop 1 ks) (drop 1 xs) ≡ q → option_and_then (λ t. option_map (field (get_or xs 0 0) t) (fields_at (suc m - 1) (drop (size t) (drop 1 ks)) (drop (size t) (drop 1 xs)))) q ≡ Some fs → AtRun (suc m) ks xs fs
    at_type k None q e = impossible cc
    at_type k (Some t) q e =
        let s = some_of (field (get_or xs 0 0) t) (fields_at (suc m - 1) (drop (size t) (drop 1 ks)) (drop (size t) (drop 1 xs))) fs e in
        subst (λ (z : Fields). AtRun (suc m) ks xs z) (sym s.2)
        (at_field (omega arith) k (node_of (from 1 ks) (from 1 xs) t (part_even 1 ks xs r.even) (rw (rest, rest) q))
        (λ n y. run_of (suc m - 1) (from (n + 1) ks) (from (n + 1) xs) s.0 (part_even (n + 1) ks xs r.even)
        (ap₂ (fields_at (suc m - 1)) (past t n y ks) (past t n y xs) ∙ s.1)))

    by_field :
        (b : Bool) → eqb (get_or ks 0 0) Kind.Field ≡ b
        → under_field node_at fields_at b (suc m - 1) (get_or xs 0 0) (drop 1 ks) (drop 1 xs) ≡ Some fs
        → AtRun (suc m) ks xs fs
    by_field false k e = impossible cc
    by_field true k e = at_type (eqb-true (get_or ks 0 0) Kind.Field k) (node_at (drop 1 ks) (drop 1 xs)) refl e

-- ---- the laws in the words of a walk's contract
pub type_is : (ks xs : List ℕ) (t : DataType) → node_at ks xs ≡ Some t → type_at ks xs ≡ t
unfolding type_at
type_is ks xs t e = ap (with_default (leaf 0 0)) e

pub run_is : (m : ℕ) (ks xs : List ℕ) (fs : Fields) → fields_at m ks xs ≡ Some fs → run_at m ks xs ≡ fs
unfolding run_at
run_is m ks xs fs e = ap (with_default empty) e

pub valid_of : {ks xs : List ℕ} {t : DataType} → FrontType ks xs t → Valid ks xs
valid_of {ks} {xs} {t} n = subst (λ (z : DataType). FrontType ks xs z) (sym (type_is ks xs t n.read)) n

pub valid_run_of : {m : ℕ} {ks xs : List ℕ} {fs : Fields} → FrontFields m ks xs fs → ValidRun m ks xs
valid_run_of {m} {ks} {xs} {fs} n = subst (λ (z : Fields). FrontFields m ks xs z) (sym (run_is m ks xs fs n.read)) n

unary_kind : {k a : ℕ} {f : DataType → DataType} → Unary k a f → (Kind.UnknownIntNeg < k) × (k < Kind.Struct)
unary_kind Unary.is_list = omega arith
unary_kind Unary.is_array = omega arith

module _ (ks xs : List ℕ) (v : Valid ks xs) where
  pub type_leaf : get_or ks 0 0 < Kind.List → type_at ks xs ≡ leaf (get_or ks 0 0) (get_or xs 0 0)
  type_leaf l = go (type_at ks xs) (at_node ks xs (type_at ks xs) v)
    where
      go : (t : DataType) → AtNode ks xs t → t ≡ leaf (get_or ks 0 0) (get_or xs 0 0)
      go t (at_leaf h) = refl
      go t (at_one u n) = absurd (omega (arith, unary_kind u))
      go t (at_struct e r) = absurd (omega arith)

  -- under a List or an Array
  module _ (l : Kind.List ≤ get_or ks 0 0) (s : get_or ks 0 0 ≡ Kind.Struct → ⊥) where
    one_of : (f : DataType → DataType) × Unary (get_or ks 0 0) (get_or xs 0 0) f × (type_at ks xs ≡ f (type_at (from 1 ks) (from 1 xs))) × Valid (from 1 ks) (from 1 xs)
    one_of = go (type_at ks xs) (at_node ks xs (type_at ks xs) v)
      where
        go : (t : DataType) → AtNode ks xs t → (f : DataType → DataType) × Unary (get_or ks 0 0) (get_or xs 0 0) f × (t ≡ f (type_at (from 1 ks) (from 1 xs))) × Valid (from 1 ks) (from 1 xs)
        go t (at_leaf h) = absurd (omega arith)
        go t (at_one {f} {u} w n) = (f, w, ap f (sym (type_is (from 1 ks) (from 1 xs) u n.read)), valid_of n)
        go t (at_struct e r) = absurd (s e)

    pub one_valid : Valid (from 1 ks) (from 1 xs)
    one_valid = one_of.3

    pub type_one : (f : DataType → DataType) × Unary (get_or ks 0 0) (get_or xs 0 0) f × (type_at ks xs ≡ f (type_at (from 1 ks) (from 1 xs)))
    type_one = (one_of.0, one_of.1, one_of.2)

  -- under a Struct
  module _ (s : get_or ks 0 0 ≡ Kind.Struct) where
    pub struct_of : (type_at ks xs ≡ struct (run_at (get_or xs 0 0) (from 1 ks) (from 1 xs))) × ValidRun (get_or xs 0 0) (from 1 ks) (from 1 xs)
    struct_of = go (type_at ks xs) (at_node ks xs (type_at ks xs) v)
      where
        go : (t : DataType) → AtNode ks xs t → (t ≡ struct (run_at (get_or xs 0 0) (from 1 ks) (from 1 xs))) × ValidRun (get_or xs 0 0) (from 1 ks) (from 1 xs)
        go t (at_leaf h) = absurd (omega arith)
        go t (at_one w n) = absurd (omega (arith, unary_kind w))
        go t (at_struct {fs} e r) =
            (ap struct (sym (run_is (get_or xs 0 0) (from 1 ks) (from 1 xs) fs r.read)), valid_run_of r)

    pub struct_valid : ValidRun (get_or xs 0 0) (from 1 ks) (from 1 xs)
    struct_valid = struct_of.1

    pub type_struct : type_at ks xs ≡ struct (run_at (get_or xs 0 0) (from 1 ks) (from 1 xs))
    type_struct = struct_of.0

pub run_end : (m : ℕ) (ks xs : List ℕ) → m ≡ 0 → run_at m ks xs ≡ empty
run_end m ks xs e = run_is m ks xs empty (ap (λ (i : ℕ). fields_at i ks xs) e ∙ fields_zero ks xs)

module _ (m : ℕ) (ks xs : List ℕ) (v : ValidRun m ks xs) (p : (m ≡ 0) → ⊥) where
  field_of : (get_or ks 0 0 ≡ Kind.Field) × Valid (from 1 ks) (from 1 xs) × ((n : ℕ) → n ≡ size (type_at (from 1 ks) (from 1 xs)) → ValidRun (m - 1) (from (n + 1) ks) (from (n + 1) xs) × (run_at m ks xs ≡ field (get_or xs 0 0) (type_at (from 1 ks) (from 1 xs)) (run_at (m - 1) (from (n + 1) ks) (from (n + 1) xs))))
  field_of = go (run_at m ks xs) (at_run m ks xs (run_at m ks xs) v)
    where
      go : (gs : Fields) → AtRun m ks xs gs → (get_or ks 0 0 ≡ Kind.Field) × Valid (from 1 ks) (from 1 xs) × ((n : ℕ) → n ≡ size (type_at (from 1 ks) (from 1 xs)) → ValidRun (m - 1) (from (n + 1) ks) (from (n + 1) xs) × (gs ≡ field (get_or xs 0 0) (type_at (from 1 ks) (from 1 xs)) (run_at (m - 1) (from (n + 1) ks) (from (n + 1) xs))))
      go gs (at_end e) = absurd (p e)
      go gs (at_field {t} {fs} h e n r) =
          let i : type_at (from 1 ks) (from 1 xs) ≡ t = type_is (from 1 ks) (from 1 xs) t n.read in (
            e,
            valid_of n,
            λ j q. let s = r j (q ∙ ap size i) in
                (valid_run_of s, ap (λ (u : DataType). field (get_or xs 0 0) u fs) (sym i) ∙ ap (field (get_or xs 0 0) (type_at (from 1 ks) (from 1 xs))) (sym (run_is (m - 1) (from (j + 1) ks) (from (j + 1) xs) fs s.read))),
          )

  pub field_valid : Valid (from 1 ks) (from 1 xs)
  field_valid = field_of.1

  module _ (n : ℕ) (e : n ≡ size (type_at (from 1 ks) (from 1 xs))) where
    pub others_valid : ValidRun (m - 1) (from (n + 1) ks) (from (n + 1) xs)
    others_valid = (field_of.2 n e).0

    pub run_field : run_at m ks xs ≡ field (get_or xs 0 0) (type_at (from 1 ks) (from 1 xs)) (run_at (m - 1) (from (n + 1) ks) (from (n + 1) xs))
    run_field = (field_of.2 n e).1

    pub field_nodes_lem : sizes (run_at m ks xs) ≡ suc (n + sizes (run_at (m - 1) (from (n + 1) ks) (from (n + 1) xs)))
    unfolding size
    field_nodes_lem = ap sizes run_field ∙ rw e

module _ (ks xs : List ℕ) (v : Valid ks xs) where
  heads : (head_kind (type_at ks xs) ≡ get_or ks 0 0) × (head_arg (type_at ks xs) ≡ get_or xs 0 0)
  unfolding head_kind head_arg
  heads = go (type_at ks xs) (at_node ks xs (type_at ks xs) v)
    where
      one :
          {k a : ℕ} {f : DataType → DataType} → Unary k a f → (u : DataType)
          → (head_kind (f u) ≡ k) × (head_arg (f u) ≡ a)
      one Unary.is_list u = (refl, refl)
      one Unary.is_array u = (refl, refl)

      go : (t : DataType) → AtNode ks xs t → (head_kind t ≡ get_or ks 0 0) × (head_arg t ≡ get_or xs 0 0)
      go t (at_leaf h) = (refl, refl)
      go t (at_one {f} {u} w n) = one w u
      go t (at_struct {fs} e r) = (sym e, count_is (get_or xs 0 0) (from 1 ks) (from 1 xs) fs r.read)

  pub type_kind : head_kind (type_at ks xs) ≡ get_or ks 0 0
  type_kind = heads.0

  pub type_arg : head_arg (type_at ks xs) ≡ get_or xs 0 0
  type_arg = heads.1

pub unary_size : {k a : ℕ} {f : DataType → DataType} → Unary k a f → (t : DataType) → size (f t) ≡ suc (size t)
unfolding size
unary_size Unary.is_list t = refl
unary_size Unary.is_array t = refl

-- how many nodes stand under a node
module _ (ks xs : List ℕ) (v : Valid ks xs) where
  pub one_nodes :
      (l : Kind.List ≤ get_or ks 0 0) (s : get_or ks 0 0 ≡ Kind.Struct → ⊥)
      → size (type_at ks xs) ≡ suc (size (type_at (from 1 ks) (from 1 xs)))
  one_nodes l s = let f = type_one ks xs v l s in ap size f.2 ∙ unary_size f.1 (type_at (from 1 ks) (from 1 xs))

  pub struct_nodes :
      get_or ks 0 0 ≡ Kind.Struct → size (type_at ks xs) ≡ suc (sizes (run_at (get_or xs 0 0) (from 1 ks) (from 1 xs)))
  unfolding size
  struct_nodes s = ap size (type_struct ks xs v s)

  pub struct_count : get_or ks 0 0 ≡ Kind.Struct → count (run_at (get_or xs 0 0) (from 1 ks) (from 1 xs)) ≡ get_or xs 0 0
  struct_count s =
      count_is (get_or xs 0 0) (from 1 ks) (from 1 xs) (run_at (get_or xs 0 0) (from 1 ks) (from 1 xs))
      (struct_valid ks xs v s).read
