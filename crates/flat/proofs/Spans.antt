-- How the answers of the check's walk follow from one another: what stands under the Lists and Arrays at the front,
-- and the fields that are left. Assumes nothing.
use mathlib.Core.Path.{◌≡◌, refl, sym, ap, subst, ◌∙◌}
use mathlib.Core.Bool.{Bool, true, false, cond}
use mathlib.Core.List.{List, [], ◌∷◌}
use Prim.Native.Nat.{ℕ, suc, ◌+◌, ◌-◌, ◌≤◌, ◌<◌, max}
use native.Mathlib.Omega.{arith}
use native.Mathlib.Nat.{zero-add}
use borrow.Author.Tests.{le-leb, lt-leb, leb-true, leb-false}
use lib.Dec.{leb}
use lib.ListN.{length, get_or}
use Rattle.flat.specs.Kind
use Rattle.flat.specs.Tree.{DataType, struct, Fields, size, sizes, depth, depths}
use Rattle.flat.specs.Walk.{FrontType, Valid, ValidRun, type_at, run_at}
use Rattle.flat.specs.Span.{span_within, spans_within}
use Rattle.std.specs.Prelude.{Option, None, Some}
use Rattle.std.specs.List.{prefix_len}
use Rattle.flat.proofs.Truths.{impossible}
use Rattle.flat.proofs.Positions.{rest}
use Rattle.flat.proofs.Walks.{from, shorter, Unary, AtNode, at_leaf, at_one, at_struct, at_node, unary_size}
use Rattle.flat.proofs.Walks.{valid_of, type_is, type_leaf, struct_of, run_end}
use Rattle.flat.proofs.Onward.{from_zero, from_first, onward, next_valid, next_run, next_field}

-- ---- an answer
-- the answer for n nodes that are as deep as d
abbrev held : ℕ → ℕ → ℕ → Option ℕ
held levels n d = cond (leb d levels) (Some n) None

ended : (levels m d n : ℕ) → Some n ≡ held levels m d → (n ≡ m) × (d ≤ levels)
ended levels m d n e = go (leb d levels) refl e
  where
    go : (b : Bool) → leb d levels ≡ b → Some n ≡ cond b (Some m) None → (n ≡ m) × (d ≤ levels)
    go true l q = (cc, leb-true d levels l)
    go false l q = impossible cc

deeper : (levels m d : ℕ) → None ≡ held levels m d → levels < d
deeper levels m d e = go (leb d levels) refl e
  where
    go : (b : Bool) → leb d levels ≡ b → None ≡ cond b (Some m) None → levels < d
    go true l q = impossible cc
    go false l q = leb-false d levels l

module _ (levels : ℕ) (t : DataType) where
  pub type_ended : (n : ℕ) → Some n ≡ span_within levels t → (n ≡ size t) × (depth t ≤ levels)
  unfolding span_within
  type_ended n e = ended levels (size t) (depth t) n e

  pub type_deeper : None ≡ span_within levels t → levels < depth t
  unfolding span_within
  type_deeper e = deeper levels (size t) (depth t) e

  type_ends : (n : ℕ) → n ≡ size t → depth t ≤ levels → Some n ≡ span_within levels t
  unfolding span_within
  type_ends n e h = rw (e, le-leb (depth t) levels h)

  type_deep : levels < depth t → None ≡ span_within levels t
  unfolding span_within
  type_deep h = rw (lt-leb (depth t) levels h)

module _ (levels : ℕ) (fs : Fields) where
  fields_ended : (n : ℕ) → Some n ≡ spans_within levels fs → (n ≡ sizes fs) × (depths fs ≤ levels)
  unfolding spans_within
  fields_ended n e = ended levels (sizes fs) (depths fs) n e

  fields_deeper : None ≡ spans_within levels fs → levels < depths fs
  unfolding spans_within
  fields_deeper e = deeper levels (sizes fs) (depths fs) e

  fields_end : (n : ℕ) → n ≡ sizes fs → depths fs ≤ levels → Some n ≡ spans_within levels fs
  unfolding spans_within
  fields_end n e h = rw (e, le-leb (depths fs) levels h)

  fields_deep : levels < depths fs → None ≡ spans_within levels fs
  unfolding spans_within
  fields_deep h = rw (lt-leb (depths fs) levels h)

-- ---- what stands under the Lists and Arrays at the front
-- Under the n Lists and Arrays at the front, where the type t stands: a leaf or a Struct.
pub record Lowest (ks xs : List ℕ) (t : DataType) (n : ℕ) : Type 0 where
  pub inside : n < length ks
  pub stands : Valid (from n ks) (from n xs)
  pub nodes : size t ≡ n + size (type_at (from n ks) (from n xs))
  pub levels : depth t ≡ n + depth (type_at (from n ks) (from n xs))
  pub last : Kind.List ≤ get_or ks n 0 → get_or ks n 0 ≡ Kind.Struct

no_more :
    {ks xs : List ℕ} {t : DataType} → FrontType ks xs t → (Kind.List ≤ get_or ks 0 0 → get_or ks 0 0 ≡ Kind.Struct)
    → Lowest ks xs t 0
no_more {ks} {xs} {t} n h =
    let e = type_is ks xs t n.read in
    record {
      inside = omega arith;
      stands = rw (from_zero ks, from_zero xs) (valid_of n);
      nodes = rw (from_zero ks, from_zero xs, e) (sym (zero-add (size t)));
      levels = rw (from_zero ks, from_zero xs, e) (sym (zero-add (depth t)));
      last = h;
    }

unary_depth : {k a : ℕ} {f : DataType → DataType} → Unary k a f → (t : DataType) → depth (f t) ≡ suc (depth t)
unfolding depth
unary_depth Unary.is_list t = refl
unary_depth Unary.is_array t = refl

one_more :
    {k a n : ℕ} {f : DataType → DataType} {ks xs : List ℕ} {u : DataType} → Unary k a f → Lowest ks xs u n
    → Lowest (k ∷ ks) (a ∷ xs) (f u) (suc n)
one_more {k} {a} {n} {f} {ks} {xs} {u} w b =
    record {
      inside = omega arith;
      stands = rw (past k ks, past a xs) b.stands;
      nodes = rw (past k ks, past a xs) (omega (arith, unary_size w u, b.nodes));
      levels = rw (past k ks, past a xs) (omega (arith, unary_depth w u, b.levels));
      last = b.last;
    }
  where
    past : (j : ℕ) (l : List ℕ) → from (suc n) (j ∷ l) ≡ from n l
    past j l = rest (j ∷ l) (suc n) ∙ sym (rest l n)

-- how many Lists and Arrays stand at the front, one under the other
abbrev wrappers : List ℕ → ℕ
wrappers = prefix_len (Kind.between Kind.List Kind.Array)

lowest : (ks xs : List ℕ) (t : DataType) → FrontType ks xs t → Lowest ks xs t (wrappers ks)
unfolding Kind.between
lowest [] xs t n = absurd (omega arith)
lowest (k ∷ ks) [] t n = absurd (omega arith)
lowest (k ∷ ks) (a ∷ xs) t n = go t (at_node (k ∷ ks) (a ∷ xs) t n) n (lowest ks xs)
  where
    unary : {j b : ℕ} {f : DataType → DataType} → Unary j b f → wrappers (j ∷ ks) ≡ suc (wrappers ks)
    unary Unary.is_list = omega arith
    unary Unary.is_array = omega arith

    none : k ≡ Kind.Struct → wrappers (k ∷ ks) ≡ 0
    none e = rw e refl

    go :
        (t : DataType) → AtNode (k ∷ ks) (a ∷ xs) t → FrontType (k ∷ ks) (a ∷ xs) t
        → ((u : DataType) → FrontType ks xs u → Lowest ks xs u (wrappers ks))
        → Lowest (k ∷ ks) (a ∷ xs) t (wrappers (k ∷ ks))
    go t (at_leaf h) n r = rw (lt-leb Kind.List k (omega arith)) (no_more n (λ g. absurd (omega arith)))
    go t (at_one {f} {u} w m) n r = rw (unary w) (one_more w (r u (rw (rest, rest) at m)))
    go t (at_struct e m) n r = rw (none e) (no_more n (λ g. e))

-- ---- the node walk
-- the fields of the n-th node, where it is a Struct
abbrev fields_under : List ℕ → List ℕ → ℕ → Fields
fields_under ks xs n = run_at (get_or xs n 0) (from (n + 1) ks) (from (n + 1) xs)

-- The walk of a valid type, asked for so many levels, stands past the n Lists and Arrays at the front of arrays of t
-- nodes.
pub record AtBottom (t levels : ℕ) (ks xs : List ℕ) (n : ℕ) : Type 0 where
  pub nodes : length ks ≡ t
  pub valid : Valid ks xs
  pub lowest : Lowest ks xs (type_at ks xs) n

pub at_bottom :
    {t levels : ℕ} {ks xs : List ℕ} {n : ℕ} → (length ks ≡ t) × Valid ks xs → n ≡ wrappers ks
    → AtBottom t levels ks xs n
at_bottom {ks = ks} {xs} p e = record { nodes = p.0; valid = p.1; lowest = subst (Lowest ks xs (type_at ks xs)) (sym e) (lowest ks xs (type_at ks xs) p.1) }

module _ {t levels : ℕ} {ks xs : List ℕ} {n : ℕ} (b : AtBottom t levels ks xs n) where
  pub node_deep : levels < n → None ≡ span_within levels (type_at ks xs)
  node_deep h = type_deep levels (type_at ks xs) (omega (arith, b.lowest.levels))

  pub node_leaf : n ≤ levels → get_or ks n 0 < Kind.List → Some (n + 1) ≡ span_within levels (type_at ks xs)
  unfolding size depth
  node_leaf h k =
      let e = type_leaf (from n ks) (from n xs) b.lowest.stands (rw (from_first n ks) k) in
      type_ends levels (type_at ks xs) (n + 1) (omega (arith, b.lowest.nodes, ap size e))
      (omega (arith, b.lowest.levels, ap depth e))

  -- a Struct
  module _ (k : Kind.List ≤ get_or ks n 0) where
    under_struct : (type_at (from n ks) (from n xs) ≡ struct (fields_under ks xs n)) × ValidRun (get_or xs n 0) (from (n + 1) ks) (from (n + 1) xs)
    under_struct =
        let s = struct_of (from n ks) (from n xs) b.lowest.stands (from_first n ks ∙ b.lowest.last k) in
        rw (from_first n xs, onward n 1 (n + 1) ks refl, onward n 1 (n + 1) xs refl) at s

    -- what the walk of its fields asks
    pub fields_call : (length (from (n + 1) ks) < t) × ValidRun (get_or xs n 0) (from (n + 1) ks) (from (n + 1) xs)
    fields_call = (shorter ks n t b.nodes (omega (arith, b.lowest.inside)), under_struct.1)

    over : (size (type_at ks xs) ≡ n + 1 + sizes (fields_under ks xs n)) × (depth (type_at ks xs) ≡ n + depths (fields_under ks xs n))
    unfolding size depth
    over = (omega (arith, b.lowest.nodes, ap size under_struct.0), omega (arith, b.lowest.levels, ap depth under_struct.0))

-- A Struct stands at the bottom, no deeper than the levels asked for, and the walk of its fields answered r.
pub record FieldsSaid {t levels : ℕ} {ks xs : List ℕ} {n : ℕ} (b : AtBottom t levels ks xs n) (r : Option ℕ) : Type 0 where
  pub shallow : n ≤ levels
  pub struct : Kind.List ≤ get_or ks n 0
  pub says : r ≡ spans_within (levels - n) (fields_under ks xs n)

module _ {t levels : ℕ} {ks xs : List ℕ} {n : ℕ} {b : AtBottom t levels ks xs n} {r : Option ℕ} (a : FieldsSaid b r) where
  module _ {m : ℕ} (e : r ≡ Some m) where
    fields_are : (m ≡ sizes (fields_under ks xs n)) × (depths (fields_under ks xs n) ≤ levels - n)
    fields_are = fields_ended (levels - n) (fields_under ks xs n) m (sym e ∙ a.says)

    pub fields_inside : n + 1 + m ≤ length ks
    fields_inside = omega (arith, fields_are.0, (over b a.struct).0, b.valid.within)

    pub node_fields : Some (n + 1 + m) ≡ span_within levels (type_at ks xs)
    node_fields =
        type_ends levels (type_at ks xs) (n + 1 + m) (omega (arith, fields_are.0, (over b a.struct).0))
        (omega (arith, fields_are.1, (over b a.struct).1, a.shallow))

  pub node_deeper : r ≡ None → None ≡ span_within levels (type_at ks xs)
  node_deeper e =
      let f = fields_deeper (levels - n) (fields_under ks xs n) (sym e ∙ a.says) in
      type_deep levels (type_at ks xs) (omega (arith, (over b a.struct).1, a.shallow))

-- ---- the field walk
-- so many fields from a place on, and the type of the first
abbrev fields_from : ℕ → List ℕ → List ℕ → ℕ → Fields
fields_from m ks xs at = run_at m (from at ks) (from at xs)

abbrev field_type : List ℕ → List ℕ → ℕ → DataType
field_type ks xs at = type_at (from (at + 1) ks) (from (at + 1) xs)

-- Of the m fields at the front of arrays of t nodes all but `left` are done: they end at `at`, and are as deep as
-- `done`, which is within the levels asked for.
pub record SpansAlong (t levels m : ℕ) (ks xs : List ℕ) (at left : ℕ) : Type 0 where
  pub nodes : length ks ≡ t
  pub run : ValidRun m ks xs
  pub inside : at ≤ length ks
  pub done : ℕ
  pub others : ValidRun left (from at ks) (from at xs)
  pub sized : sizes (run_at m ks xs) ≡ at + sizes (fields_from left ks xs at)
  pub deepest : depths (run_at m ks xs) ≡ max done (depths (fields_from left ks xs at))
  pub shallow : done ≤ levels

pub start : {t levels m : ℕ} {ks xs : List ℕ} → (length ks ≡ t) × ValidRun m ks xs → SpansAlong t levels m ks xs 0 m
start {ks = ks} {xs} p =
    record {
      nodes = p.0;
      run = p.1;
      inside = omega arith;
      done = 0;
      others = rw (from_zero ks, from_zero xs) p.1;
      sized = rw (from_zero ks, from_zero xs) (omega arith);
      deepest = rw (from_zero ks, from_zero xs) (omega arith);
      shallow = omega arith;
    }

module _ {t levels m : ℕ} {ks xs : List ℕ} {at left : ℕ} (a : SpansAlong t levels m ks xs at left) where
  pub fields_done : left ≡ 0 → Some at ≡ spans_within levels (run_at m ks xs)
  unfolding size depth
  fields_done z =
      let e = run_end left (from at ks) (from at xs) z in
      fields_end levels (run_at m ks xs) at (omega (arith, a.sized, ap sizes e))
      (omega (arith, a.deepest, ap depths e))

  module _ (p : left ≡ 0 → ⊥) where
    -- what the walk of the next field's type asks
    pub type_call : (length (from (at + 1) ks) < t) × Valid (from (at + 1) ks) (from (at + 1) xs)
    type_call = (shorter ks at t a.nodes (omega (arith, a.sized, a.others, a.run)), next_valid left at ks xs a.others p)

    -- all fields, the next of n nodes
    module _ (n : ℕ) (e : n ≡ size (field_type ks xs at)) where
      all_nodes : sizes (run_at m ks xs) ≡ at + 1 + n + sizes (fields_from (left - 1) ks xs (at + 1 + n))
      unfolding size
      all_nodes = omega (arith, a.sized, ap sizes (next_field left at ks xs a.others p n e))

      all_levels : depths (run_at m ks xs) ≡ max (max a.done (2 + depth (field_type ks xs at))) (depths (fields_from (left - 1) ks xs (at + 1 + n)))
      unfolding depth
      all_levels = omega (arith, a.deepest, ap depths (next_field left at ks xs a.others p n e))

    pub no_level : levels < 2 → None ≡ spans_within levels (run_at m ks xs)
    no_level h = fields_deep levels (run_at m ks xs) (omega (arith, all_levels (size (field_type ks xs at)) refl))

-- There are levels for the next field, `below` under its Struct, and the walk of its type answered r.
pub record TypeSaid {t levels m : ℕ} {ks xs : List ℕ} {at left : ℕ} (a : SpansAlong t levels m ks xs at left) (r : Option ℕ) : Type 0 where
  pub more : left ≡ 0 → ⊥
  pub below : ℕ
  pub room : below + 2 ≡ levels
  pub says : r ≡ span_within below (field_type ks xs at)

module _ {t levels m : ℕ} {ks xs : List ℕ} {at left : ℕ} {a : SpansAlong t levels m ks xs at left} {r : Option ℕ} (f : TypeSaid a r) where
  pub field_deep : r ≡ None → None ≡ spans_within levels (run_at m ks xs)
  field_deep e =
      let d = type_deeper f.below (field_type ks xs at) (sym e ∙ f.says) in
      fields_deep levels (run_at m ks xs)
      (omega (arith, f.room, all_levels a f.more (size (field_type ks xs at)) refl))

  -- a field is done
  pub field_done : {n : ℕ} → r ≡ Some n → SpansAlong t levels m ks xs (at + 1 + n) (left - 1)
  field_done {n} e =
      let u = type_ended f.below (field_type ks xs at) n (sym e ∙ f.says) in
      record {
        nodes = a.nodes;
        run = a.run;
        inside = omega (arith, all_nodes a f.more n u.0, a.run);
        done = max a.done (2 + depth (field_type ks xs at));
        others = next_run left at ks xs a.others f.more n u.0;
        sized = all_nodes a f.more n u.0;
        deepest = all_levels a f.more n u.0;
        shallow = omega (arith, f.room, a.shallow);
      }
