-- An inner or leaf type stands at the end of the type's flat form, and the kinds alone tell how many nodes it has.
-- Assumes nothing.
use mathlib.Core.Path.{◌≡◌, refl, sym, ap, ◌∙◌}
use mathlib.Core.Bool.{false}
use mathlib.Core.List.{List, []}
use Rattle.std.specs.Prelude.{Option, None, Some, unwrap_or}
use Rattle.std.specs.Prelude.{option_map}
use Rattle.std.specs.List.{prefix_len}
use Prim.Native.Nat.{ℕ, suc, ◌+◌, ◌-◌, ◌<◌}
use native.Mathlib.Omega.{arith}
use borrow.Author.Tests.{ne_eqb, lt-leb}
use lib.ListN.{length, drop, drop_of_length-le}
use Rattle.flat.specs.Kind
use Rattle.flat.specs.Tree.{DataType, leaf, list, array, struct, size, kinds_of, args_of}
use Rattle.flat.specs.Reading.{Ruled}
use Rattle.flat.proofs.Sizes.{length_kinds, length_args}
use Rattle.dtype_inner.specs.Inner.{inner_dtype, leaf_dtype, past_arrays, array_leaf_dtype}
use Rattle.flat.specs.Kind.{between}
use Rattle.dtype_inner.specs.Nodes.{inner_nodes, leaf_nodes, array_leaf_nodes}
use Rattle.dtype_inner.specs.Part.{part_kinds, part_args, Last}

-- a kind below a run of kinds is none of them
pub is_below : (low high k : ℕ) → k < low → between low high k ≡ false
unfolding between
is_below low high k l = rw (lt-leb low k l)

pub one_more : {n : ℕ} → 1 + n ≡ suc n
one_more = omega arith

-- u is t without its first j nodes
record Ends (j : ℕ) (t u : DataType) : Type 0 where
  nodes : size t ≡ j + size u
  kinds : drop j (kinds_of t) ≡ kinds_of u
  args : drop j (args_of t) ≡ args_of u

-- none, or those of what stands under a List or an Array and one more
all : {t : DataType} → Ends 0 t t
all = record { nodes = omega arith; kinds = refl; args = refl }

under_list : {j : ℕ} {t u : DataType} → Ends j t u → Ends (suc j) (list t) u
unfolding size kinds_of args_of
under_list e = record { nodes = omega (arith, e.nodes); kinds = e.kinds; args = e.args }

under_array : {j w : ℕ} {t u : DataType} → Ends j t u → Ends (suc j) (array w t) u
unfolding size kinds_of args_of
under_array e = record { nodes = omega (arith, e.nodes); kinds = e.kinds; args = e.args }

-- the Lists and Arrays at the front
leaf_ends : (t : DataType) → Ruled t → Ends (prefix_len (between Kind.List Kind.Array) (kinds_of t)) t (leaf_dtype t)
unfolding leaf_dtype between kinds_of Ruled
leaf_ends (leaf k a) r = rw (is_below Kind.List Kind.Array k (omega (arith, r.0))) all
leaf_ends (list t) r = rw one_more (under_list (leaf_ends t r))
leaf_ends (array w t) r = rw one_more (under_array (leaf_ends t r))
leaf_ends (struct fs) r = all

-- the Arrays at the front
past_ends : (t : DataType) → Ruled t → Ends (prefix_len (between Kind.Array Kind.Array) (kinds_of t)) t (past_arrays t)
unfolding past_arrays between kinds_of Ruled
past_ends (leaf k a) r = rw (is_below Kind.Array Kind.Array k (omega (arith, r.0))) all
past_ends (list t) r = all
past_ends (array w t) r = rw one_more (under_array (past_ends t r))
past_ends (struct fs) r = all

-- What is found in t, if something is, has n nodes and stands at the end of the kinds and of the arguments.
pub record Found (t : DataType) (o : Option DataType) (n : Option ℕ) : Type 0 where
  pub nodes : n ≡ option_map size o
  pub kinds : Last (unwrap_or n 0) (kinds_of t) (part_kinds o)
  pub args : Last (unwrap_or n 0) (args_of t) (part_args o)

pub last_none : (l : List ℕ) → Last 0 l []
last_none l = record { within = omega arith; size = refl; shows = drop_of_length-le l {i = length l - 0} (omega arith) }

found_none : (t : DataType) → Found t None None
found_none t = record { nodes = refl; kinds = last_none (kinds_of t); args = last_none (args_of t) }

last_some : (j n : ℕ) {l these : List ℕ} → length l ≡ j + n → length these ≡ n → drop j l ≡ these → Last n l these
last_some j n {l} {these} h s e =
    record { within = omega arith; size = s; shows = let i : length l - n ≡ j = omega arith in rw i e }

found_some : {j n : ℕ} {t u : DataType} → Ends j t u → n ≡ length (kinds_of t) - j → Found t (Some u) (Some n)
found_some {j} {n} {t} {u} e q =
    let s : n ≡ size u = omega (arith, e.nodes, length_kinds t) in
    record {
      nodes = ap Some s;
      kinds = last_some j n (omega (arith, e.nodes, length_kinds t)) (length_kinds u ∙ sym s) e.kinds;
      args = last_some j n (omega (arith, e.nodes, length_args t)) (length_args u ∙ sym s) e.args;
    }

-- f finds a type at the end of a type, and g tells its number of nodes from the kinds alone.
pub record Finds (f : DataType → Option DataType) (g : List ℕ → Option ℕ) : Type 0 where
  pub finds : (t : DataType) → Ruled t → Found t (f t) (g (kinds_of t))

inner_found : (t : DataType) → Ruled t → Found t (inner_dtype t) (inner_nodes (kinds_of t))
unfolding inner_dtype inner_nodes between kinds_of Ruled
inner_found (leaf k a) r = rw (is_below Kind.List Kind.Array k (omega (arith, r.0))) (found_none (leaf k a))
inner_found (list t) r = found_some (under_list all) (omega arith)
inner_found (array w t) r = found_some (under_array {w = w} all) (omega arith)
inner_found (struct fs) r = found_none (struct fs)

pub finds_inner : Finds inner_dtype inner_nodes
finds_inner = record { finds = inner_found }

pub finds_leaf : Finds (λ t. Some (leaf_dtype t)) (λ ks. Some (leaf_nodes ks))
unfolding leaf_nodes
finds_leaf = record { finds = λ t r. found_some (leaf_ends t r) refl }

array_leaf_found : (t : DataType) → Ruled t → Found t (array_leaf_dtype t) (array_leaf_nodes (kinds_of t))
unfolding array_leaf_dtype array_leaf_nodes between kinds_of Ruled
array_leaf_found (leaf k a) r = rw (is_below Kind.Array Kind.Array k (omega (arith, r.0))) (found_none (leaf k a))
array_leaf_found (list t) r = found_none (list t)
array_leaf_found (array w t) r =
    rw (one_more, ne_eqb (suc (prefix_len (between Kind.Array Kind.Array) (kinds_of t))) 0 (λ e. omega arith))
    (found_some (under_array {w = w} (past_ends t r)) refl)
array_leaf_found (struct fs) r = found_none (struct fs)

pub finds_array_leaf : Finds array_leaf_dtype array_leaf_nodes
finds_array_leaf = record { finds = array_leaf_found }
