-- The walk that builds a type: what stands at the places of `node_form` and `field_form`, as records, and what follows
-- there. A node is stored, the parts after it are handed on, and they come back with what stands under the node.
-- Assumes nothing.
use mathlib.Core.Path.{◌≡◌, refl, sym, ap, ◌∙◌}
use mathlib.Core.List.{List, ◌∷◌}
use Prim.Native.Nat.{ℕ, suc, ◌+◌, ◌-◌, ◌≤◌, ◌<◌}
use native.Mathlib.Omega.{arith}
use native.Mathlib.Nat.{zero-add, add-zero}
use native.Mathlib.Numerals.{add-one}
use lib.ListN.{length, get_or, set, take-append-drop}
use Rattle.flat.specs.Kind
use Rattle.flat.specs.Tree.{DataType, leaf, Fields, size, sizes, kinds_of, kinds_ofs, args_of, args_ofs}
use Rattle.flat.specs.Walk.{Valid, ValidRun, type_at, run_at}
use Rattle.flat.specs.Reading.{type}
use Rattle.flat.specs.Output.{fitting, over, Writes}
use Rattle.std.specs.Prelude.{Ok}
use Rattle.flat.proofs.Truths.{over_one}
use Rattle.flat.proofs.Sizes.{length_kinds, length_kindss, length_args}
use Rattle.flat.proofs.Outputs.{writes_type, room}
use Rattle.flat.proofs.Walks.{from, length_from, Unary, is_list, is_array, type_leaf, type_one, one_valid, one_nodes}
use Rattle.flat.proofs.Walks.{type_struct, struct_valid, struct_nodes, struct_count, run_end}
use Rattle.flat.proofs.Onward.{from_zero, next_valid, next_run, next_field, next_nodes}
use Rattle.dtype_build.specs.Leaf.{leaf_with, map_leaves, map_fields, HasRoom, Built, BuiltType, BuiltFields}
use Rattle.dtype_build.proofs.Forms.{size_map, sizes_map, count_map}
use Rattle.dtype_build.proofs.Writes.{after, back, to_be, after_length, back_length, next, over_front}

-- ---- a leaf, its kind and its argument stored
pub leaf_stored : {t : DataType} {K A : List ℕ} → HasRoom 1 K A → (y z : ℕ) → leaf y z ≡ t
    → BuiltType t K A (set K 0 y) (set A 0 z) 1
unfolding kinds_of args_of
leaf_stored {K = K} {A = A} o y z e =
    rw (← e) (record { nodes = refl; kinds = over_one K (omega arith) y; args = over_one A (omega arith) z })

-- ---- a type

-- What a walk over a type is given: the type at the front of ks and xs, and K and A with room for it.
pub record Task : Type 0 where
  pub kind_in : ℕ → ℕ → ℕ
  pub ks : List ℕ
  pub xs : List ℕ
  pub K : List ℕ
  pub A : List ℕ
  pub valid : Valid ks xs
  pub room : HasRoom (size (type_at ks xs)) K A

-- the type that is to be built
abbrev pub result : Task → DataType
result p = map_leaves (leaf_with p.kind_in) (type_at p.ks p.xs)

-- the parts of K and A after the node at the front, once that is stored
abbrev pub kinds_after : Task → List ℕ
kinds_after p = after 0 (get_or p.ks 0 0) p.K

abbrev pub args_after : Task → List ℕ
args_after p = after 0 (get_or p.xs 0 0) p.A

module _ (p : Task) where
  open p use {kind_in, ks, xs, K, A, valid}

  -- where the type is a leaf, the leaf is all of it
  pub leaf_built : get_or ks 0 0 < Kind.List → {K' A' : List ℕ} {r : ℕ} →
      BuiltType (leaf_with kind_in (get_or ks 0 0) (get_or xs 0 0)) K A K' A' r → BuiltType (result p) K A K' A' r
  unfolding map_leaves
  leaf_built l w = rw (type_leaf ks xs valid l) w

  -- the answer is the type's own number of nodes
  built_size : {K₀ A₀ K' A' : List ℕ} {r : ℕ} → BuiltType (result p) K₀ A₀ K' A' r → r ≡ size (type_at ks xs)
  built_size w = w.nodes ∙ length_kinds (result p) ∙ size_map kind_in (type_at ks xs)

  -- what was built was written
  pub built_writes : {K' A' : List ℕ} {r : ℕ} → BuiltType (result p) K A K' A' r →
      Writes (fitting (length K) (length A) (type (result p))) K A K' A' (Ok r)
  built_writes w =
      let fits = room (length K) (length A) (result p) (rw size_map p.room.kinds) (rw size_map p.room.args) in
      writes_type fits (w.nodes ∙ length_kinds (result p)) w.kinds w.args

-- ---- a node that is no leaf

-- the kinds and the arguments that are built of fields
abbrev pub kinds_built : (ℕ → ℕ → ℕ) → Fields → List ℕ
kinds_built kind_in fs = kinds_ofs (map_fields (leaf_with kind_in) fs)

abbrev pub args_built : (ℕ → ℕ → ℕ) → Fields → List ℕ
args_built kind_in fs = args_ofs (map_fields (leaf_with kind_in) fs)

-- A task whose node is no leaf, and what stands under that node: m nodes, which are built as the kinds P and the arguments
-- Q. Below says, by the node's argument, that they stand there.
pub record Parent (Below : ℕ → List ℕ → List ℕ → Type 0) : Type 0 where
  pub task : Task
  pub below : Below (get_or task.xs 0 0) (from 1 task.ks) (from 1 task.xs)
  pub m : ℕ
  pub P : List ℕ
  pub Q : List ℕ
  pub nodes : size (type_at task.ks task.xs) ≡ suc m
  pub kinds : kinds_of (result task) ≡ get_or task.ks 0 0 ∷ P
  pub args : args_of (result task) ≡ get_or task.xs 0 0 ∷ Q

module _ (p : Task) where
  open p use {kind_in, ks, xs, valid}

  -- a Struct
  module _ (kind : get_or ks 0 0 ≡ Kind.Struct) where
    abbrev fields : Fields
    fields = run_at (get_or xs 0 0) (from 1 ks) (from 1 xs)

    pub over_fields : (kinds_of (result p) ≡ get_or ks 0 0 ∷ kinds_built kind_in fields) ×
        (args_of (result p) ≡ get_or xs 0 0 ∷ args_built kind_in fields)
    unfolding kinds_of args_of map_leaves
    over_fields =
        let c = count_map (leaf_with kind_in) fields ∙ struct_count ks xs valid kind in
        rw (type_struct ks xs valid kind, c, kind) (refl, refl)

    abbrev pub struct_parent : Parent ValidRun
    struct_parent =
        record {
          task = p;
          below = struct_valid ks xs valid kind;
          m = sizes fields;
          P = kinds_built kind_in fields;
          Q = args_built kind_in fields;
          nodes = struct_nodes ks xs valid kind;
          kinds = over_fields.0;
          args = over_fields.1;
        }

  -- a List or an Array
  module _ (nested : Kind.List ≤ get_or ks 0 0) (other : get_or ks 0 0 ≡ Kind.Struct → ⊥) where
    abbrev inner : DataType
    inner = type_at (from 1 ks) (from 1 xs)

    pub over_inner : (kinds_of (result p) ≡ get_or ks 0 0 ∷ kinds_of (map_leaves (leaf_with kind_in) inner)) ×
        (args_of (result p) ≡ get_or xs 0 0 ∷ args_of (map_leaves (leaf_with kind_in) inner))
    unfolding kinds_of args_of map_leaves
    over_inner = let f = type_one ks xs valid nested other in rw f.2 (go f.1)
      where
        go : {k a : ℕ} {f : DataType → DataType} → Unary k a f →
            (kinds_of (map_leaves (leaf_with kind_in) (f inner)) ≡ k ∷ kinds_of (map_leaves (leaf_with kind_in) inner)) ×
            (args_of (map_leaves (leaf_with kind_in) (f inner)) ≡ a ∷ args_of (map_leaves (leaf_with kind_in) inner))
        go is_list = (refl, refl)
        go is_array = (refl, refl)

    abbrev pub wrapper_parent : Parent (λ width. Valid)
    wrapper_parent =
        record {
          task = p;
          below = one_valid ks xs valid nested other;
          m = size inner;
          P = kinds_of (map_leaves (leaf_with kind_in) inner);
          Q = args_of (map_leaves (leaf_with kind_in) inner);
          nodes = one_nodes ks xs valid nested other;
          kinds = over_inner.0;
          args = over_inner.1;
        }

-- what the walk over the nodes under a node requires, once that is stored
pub under_requires : {Below : ℕ → List ℕ → List ℕ → Type 0} (p : Parent Below) →
    Below (get_or p.task.xs 0 0) (from 1 p.task.ks) (from 1 p.task.xs) ×
    HasRoom p.m (kinds_after p.task) (args_after p.task)
under_requires p =
    let o = p.task.room in
    let kinds = after_length 0 (get_or p.task.ks 0 0) p.task.K in
    let args = after_length 0 (get_or p.task.xs 0 0) p.task.A in
    (p.below, record { kinds = omega (arith, p.nodes); args = omega (arith, p.nodes) })

-- The walk over the nodes under a node is done, and the two parts came back as L and M.
pub record Back (Below : ℕ → List ℕ → List ℕ → Type 0) : Type 0 where
  pub parent : Parent Below
  pub L : List ℕ
  pub M : List ℕ
  pub n : ℕ
  pub built : Built parent.P parent.Q (kinds_after parent.task) (args_after parent.task) L M n

module _ {Below : ℕ → List ℕ → List ℕ → Type 0} (b : Back Below) where
  open b use {parent, L, M, n, built}
  open parent.task use {ks, xs, K, A, valid, room as has_room}

  pub back_built : BuiltType (result parent.task) K A (back 0 (get_or ks 0 0) K L) (back 0 (get_or xs 0 0) A M) (n + 1)
  back_built =
      let v = valid in
      let o = has_room in
      rw (parent.kinds, parent.args) (record {
        nodes = add-one n ∙ ap suc built.nodes;
        kinds = over_front (get_or ks 0 0) parent.P K (omega arith) built.kinds;
        args = over_front (get_or xs 0 0) parent.Q A (omega arith) built.args;
      })

  pub back_within : n + 1 ≤ length ks
  back_within = omega (arith, built_size parent.task back_built, valid)

-- ---- the fields of a Struct

-- the m fields from a place on
abbrev pub run_from : (at m : ℕ) → List ℕ → List ℕ → Fields
run_from at m ks xs = run_at m (from at ks) (from at xs)

-- The loop of a walk over m fields, at the place `at` with `left` of them left. The m fields over what the two arrays
-- held at first, K₀ and A₀, come to those that are left, from this place on, over what the arrays hold now, K and A.
-- What the walk was given stands here too, so that no answer goes back beyond the loop.
pub record Along (kind_in : ℕ → ℕ → ℕ) (m : ℕ) (ks xs K₀ A₀ : List ℕ) (at left : ℕ) (K A : List ℕ) : Type 0 where
  pub valid : ValidRun m ks xs
  pub room : HasRoom (sizes (run_at m ks xs)) K₀ A₀
  pub others : ValidRun left (from at ks) (from at xs)
  pub nodes : sizes (run_at m ks xs) ≡ at + sizes (run_from at left ks xs)
  pub long_kinds : length K ≡ length K₀
  pub long_args : length A ≡ length A₀
  pub kinds : over (kinds_built kind_in (run_at m ks xs)) K₀ ≡ to_be at (kinds_built kind_in (run_from at left ks xs)) K
  pub args : over (args_built kind_in (run_at m ks xs)) A₀ ≡ to_be at (args_built kind_in (run_from at left ks xs)) A

pub start : {kind_in : ℕ → ℕ → ℕ} {m : ℕ} {ks xs K A : List ℕ} → ValidRun m ks xs × HasRoom (sizes (run_at m ks xs)) K A →
    Along kind_in m ks xs K A 0 m K A
start {kind_in} {m} {ks} {xs} {K} {A} p =
    record {
      valid = p.0;
      room = p.1;
      others = rw (from_zero ks, from_zero xs) p.0;
      nodes = rw (from_zero ks, from_zero xs) (sym (zero-add _));
      long_kinds = refl;
      long_args = refl;
      kinds = rw (from_zero ks, from_zero xs);
      args = rw (from_zero ks, from_zero xs);
    }

module _ {kind_in : ℕ → ℕ → ℕ} {m : ℕ} {ks xs K₀ A₀ : List ℕ} {at left : ℕ} {K A : List ℕ}
    (a : Along kind_in m ks xs K₀ A₀ at left K A) where
  -- no field is left
  pub fields_built : left ≡ 0 → BuiltFields (map_fields (leaf_with kind_in) (run_at m ks xs)) K₀ A₀ K A at
  unfolding kinds_of args_of map_leaves size
  fields_built z =
      let e = run_end left (from at ks) (from at xs) z in
      let n = length_kindss (map_fields (leaf_with kind_in) (run_at m ks xs)) ∙ sizes_map kind_in (run_at m ks xs) ∙ a.nodes in
      record {
        nodes = sym (n ∙ rw e (add-zero at));
        kinds = sym (a.kinds ∙ rw e (take-append-drop at K));
        args = sym (a.args ∙ rw e (take-append-drop at A));
      }

  module _ (more : left ≡ 0 → ⊥) where
    -- the type of the next field
    abbrev type_next : DataType
    type_next = type_at (from (at + 1) ks) (from (at + 1) xs)

    -- how many nodes all fields have, where the type of the next has n
    all_nodes : (n : ℕ) → n ≡ size type_next →
        sizes (run_at m ks xs) ≡ at + 1 + n + sizes (run_from (at + 1 + n) (left - 1) ks xs)
    all_nodes n e = a.nodes ∙ rw (next_nodes left at ks xs a.others more n e) (omega arith)

    -- what the walk over the type of the next field is given, once the field is stored
    abbrev task_next : Task
    task_next =
        let n = all_nodes (size type_next) refl in
        let kinds = after_length at Kind.Field K in
        let args = after_length at (get_or xs at 0) A in
        record {
          kind_in = kind_in;
          ks = from (at + 1) ks;
          xs = from (at + 1) xs;
          K = after at Kind.Field K;
          A = after at (get_or xs at 0) A;
          valid = next_valid left at ks xs a.others more;
          room = record { kinds = omega arith; args = omega arith };
        }

    pub next_requires : Valid (from (at + 1) ks) (from (at + 1) xs) ×
        HasRoom (size type_next) (after at Kind.Field K) (after at (get_or xs at 0) A)
    next_requires = (task_next.valid, task_next.room)

    pub next_shorter : length (from (at + 1) ks) < length ks
    next_shorter = omega (arith, length_from (at + 1) ks, all_nodes (size type_next) refl)

    -- the type of the next field is built, and the two parts came back as L and M
    pub field_done : {L M : List ℕ} {n : ℕ} →
        BuiltType (map_leaves (leaf_with kind_in) type_next) (after at Kind.Field K) (after at (get_or xs at 0) A) L M n →
        Along kind_in m ks xs K₀ A₀ (at + 1 + n) (left - 1) (back at Kind.Field K L) (back at (get_or xs at 0) A M)
    unfolding kinds_of args_of map_leaves
    field_done {L} {M} {n} w =
        let t : DataType = result task_next in
        let e = built_size task_next w in
        let q : n ≡ length (args_of t) = e ∙ sym (length_args t ∙ size_map kind_in type_next) in
        let f = next_field left at ks xs a.others more n e in
        let i = all_nodes n e in
        let g : Fields = run_from (at + 1 + n) (left - 1) ks xs in
        record {
          valid = a.valid;
          room = a.room;
          others = next_run left at ks xs a.others more n e;
          nodes = i;
          long_kinds = back_length at Kind.Field (kinds_of t) K (omega arith) w.kinds (omega arith) ∙ a.long_kinds;
          long_args = back_length at (get_or xs at 0) (args_of t) A (omega arith) w.args (omega arith) ∙ a.long_args;
          kinds =
              a.kinds
              ∙ ap (λ (h : Fields). to_be at (kinds_built kind_in h) K) f
              ∙ sym (next at Kind.Field (kinds_of t) K (omega arith) w.kinds (kinds_built kind_in g) n w.nodes);
          args =
              a.args
              ∙ ap (λ (h : Fields). to_be at (args_built kind_in h) A) f
              ∙ sym (next at (get_or xs at 0) (args_of t) A (omega arith) w.args (args_built kind_in g) n q);
        }
