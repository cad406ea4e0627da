-- Kinds and arguments as nodes, and the nodes of a type. Assumes nothing.
use mathlib.Core.Path.{◌≡◌, refl, sym, ap, ap₂, ◌∙◌, subst}
use mathlib.Core.List.{List, [], ◌∷◌, ◌++◌, append_assoc, append-nil}
use Rattle.std.specs.Prelude.{Some, map}
use Rattle.std.specs.List.{refill}
use Prim.Native.Nat.{ℕ, zero, suc, ◌≤◌}
use native.Mathlib.Omega.{arith}
use lib.ListN.{length, take, drop, set}
use lib.Dec.{leb}
use lib.Seq.{take_at}
use Rattle.flat.specs.Kind as kind
use Rattle.flat.specs.Tree.{DataType, leaf, list, array, struct, Fields, empty, field, append, count, size, sizes}
use Rattle.flat.specs.Tree.{kinds_of, kinds_ofs, args_of, args_ofs}
use Rattle.flat.specs.Reader.{node_at}
use Rattle.flat.specs.Walk.{type_at}
use Rattle.flat.specs.declared.Node.{Node}
use Rattle.flat.proofs.Positions.{rest}
use Rattle.flat.proofs.ReadBack.{Good, Goods, read_back}
use Rattle.flat.proofs.Truths.{both_true}
use Rattle.flat.proofs.Walks.{length_from, node_of, type_is, valid_of}
use borrow.Author.Tests.{leb-true}
use Rattle.supertype_nested.specs.Laws.{Each, LeavesFit, FieldsFit}
use Rattle.supertype_place.specs.View.{from, most_nodes}
use Rattle.supertype_place.proofs.Views.{TypeFront, front_type}
use Rattle.flat.proofs.Sizes.{length_kinds, length_args, length_kindss, length_argss}
use Rattle.supertype_answer.specs.Join.{node}
use Rattle.supertype_place.specs.Written.{nodes_at, nodes_of, nodes_ofs, held_at, HeldAt}

-- ---- kinds and arguments

pub nodes_length : (ks xs : List ℕ) → length ks ≡ length xs → length (nodes_at ks xs) ≡ length ks
unfolding nodes_at
nodes_length [] xs e = refl
nodes_length (k ∷ ks) [] e = absurd (omega arith)
nodes_length (k ∷ ks) (x ∷ xs) e = let h = nodes_length ks xs (omega arith) in omega arith

pub nodes_append : (ks xs ls ys : List ℕ) → length ks ≡ length xs
    → nodes_at (ks ++ ls) (xs ++ ys) ≡ nodes_at ks xs ++ nodes_at ls ys
unfolding nodes_at
nodes_append [] [] ls ys e = refl
nodes_append [] (x ∷ xs) ls ys e = absurd (omega arith)
nodes_append (k ∷ ks) [] ls ys e = absurd (omega arith)
nodes_append (k ∷ ks) (x ∷ xs) ls ys e = ap (λ l. node k x ∷ l) (nodes_append ks xs ls ys (omega arith))

pub nodes_one : (k x : ℕ) → nodes_at (k ∷ []) (x ∷ []) ≡ node k x ∷ []
unfolding nodes_at
nodes_one k x = refl

pub nodes_none : nodes_at [] [] ≡ []
unfolding nodes_at
nodes_none = refl

pub nodes_take : (n : ℕ) (ks xs : List ℕ) → nodes_at (take n ks) (take n xs) ≡ take n (nodes_at ks xs)
unfolding nodes_at
nodes_take zero ks xs = refl
nodes_take (suc n) [] xs = refl
nodes_take (suc n) (k ∷ ks) [] = refl
nodes_take (suc n) (k ∷ ks) (x ∷ xs) = ap (λ l. node k x ∷ l) (nodes_take n ks xs)

pub nodes_drop : (n : ℕ) (ks xs : List ℕ) → length ks ≡ length xs
    → nodes_at (drop n ks) (drop n xs) ≡ drop n (nodes_at ks xs)
unfolding nodes_at
nodes_drop zero ks xs e = refl
nodes_drop (suc n) [] xs e = refl
nodes_drop (suc n) (k ∷ ks) [] e = absurd (omega arith)
nodes_drop (suc n) (k ∷ ks) (x ∷ xs) e = nodes_drop n ks xs (omega arith)

pub nodes_set : (m k x : ℕ) (ks xs : List ℕ) → nodes_at (set ks m k) (set xs m x) ≡ set (nodes_at ks xs) m (node k x)
unfolding nodes_at
nodes_set m k x [] xs = refl
nodes_set zero k x (l ∷ ks) [] = refl
nodes_set (suc m) k x (l ∷ ks) [] = refl
nodes_set zero k x (l ∷ ks) (y ∷ xs) = refl
nodes_set (suc m) k x (l ∷ ks) (y ∷ xs) = ap (λ l'. node l y ∷ l') (nodes_set m k x ks xs)

pub kinds_back : (ks xs : List ℕ) → length ks ≡ length xs → map (λ n. n.kind) (nodes_at ks xs) ≡ ks
unfolding nodes_at
kinds_back [] xs e = refl
kinds_back (k ∷ ks) [] e = absurd (omega arith)
kinds_back (k ∷ ks) (x ∷ xs) e = ap (λ l. k ∷ l) (kinds_back ks xs (omega arith))

pub args_back : (ks xs : List ℕ) → length ks ≡ length xs → map (λ n. n.arg) (nodes_at ks xs) ≡ xs
unfolding nodes_at
args_back [] [] e = refl
args_back [] (x ∷ xs) e = absurd (omega arith)
args_back (k ∷ ks) [] e = absurd (omega arith)
args_back (k ∷ ks) (x ∷ xs) e = ap (λ l. x ∷ l) (args_back ks xs (omega arith))

-- what a slice shows after a write
pub refilled : {X : Type 0} (n : ℕ) (xs ws : List X) → length ws ≡ n → n ≡ length xs → refill n xs ws ≡ ws
refilled n xs ws e h = take_at ws (drop (length ws) xs) n e

-- ---- of a type

over : (k x : ℕ) (ks xs : List ℕ) → nodes_at (k ∷ ks) (x ∷ xs) ≡ node k x ∷ nodes_at ks xs
unfolding nodes_at
over k x ks xs = refl

mutual
  unfolding nodes_of kinds_of args_of

  pub type_nodes : (t : DataType) → nodes_at (kinds_of t) (args_of t) ≡ nodes_of t
  type_nodes (leaf k a) = nodes_one k a
  type_nodes (list t) = over kind.List 0 (kinds_of t) (args_of t) ∙ ap (λ l. node kind.List 0 ∷ l) (type_nodes t)
  type_nodes (array w t) = over kind.Array w (kinds_of t) (args_of t) ∙ ap (λ l. node kind.Array w ∷ l) (type_nodes t)
  type_nodes (struct fs) =
      over kind.Struct (count fs) (kinds_ofs fs) (args_ofs fs) ∙ ap (λ l. node kind.Struct (count fs) ∷ l)
      (fields_nodes fs)

  pub fields_nodes : (fs : Fields) → nodes_at (kinds_ofs fs) (args_ofs fs) ≡ nodes_ofs fs
  fields_nodes empty = nodes_none
  fields_nodes (field name t fs) =
      over kind.Field name (kinds_of t ++ kinds_ofs fs) (args_of t ++ args_ofs fs)
      ∙ ap (λ l. node kind.Field name ∷ l)
      (nodes_append (kinds_of t) (args_of t) (kinds_ofs fs) (args_ofs fs) (length_kinds t ∙ sym (length_args t))
      ∙ ap₂ (λ a b. a ++ b) (type_nodes t) (fields_nodes fs))

-- each leaf that fits has a leaf's kind
mutual
  unfolding Each Good

  pub fit_good : (t : DataType) → LeavesFit t → Good t
  fit_good (leaf k a) h = leb-true k kind.UnknownIntNeg (both_true (leb k kind.UnknownIntNeg) _ h).0
  fit_good (list t) h = fit_good t h
  fit_good (array w t) h = fit_good t h
  fit_good (struct fs) h = fit_goods fs h

  fit_goods : (fs : Fields) → FieldsFit fs → Goods fs
  fit_goods empty h = tt
  fit_goods (field name t fs) h = (fit_good t h.1, fit_goods fs h.2)

-- a type's nodes are its kinds and its arguments
pub kinds_of_nodes : (t : DataType) → map (λ n. n.kind) (nodes_of t) ≡ kinds_of t
kinds_of_nodes t =
    ap (map (λ n. n.kind)) (sym (type_nodes t))
    ∙ kinds_back (kinds_of t) (args_of t) (length_kinds t ∙ sym (length_args t))

pub args_of_nodes : (t : DataType) → map (λ n. n.arg) (nodes_of t) ≡ args_of t
args_of_nodes t =
    ap (map (λ n. n.arg)) (sym (type_nodes t))
    ∙ args_back (kinds_of t) (args_of t) (length_kinds t ∙ sym (length_args t))

pub size_nodes : (t : DataType) → length (nodes_of t) ≡ size t
size_nodes t =
    ap length (sym (type_nodes t))
    ∙ nodes_length (kinds_of t) (args_of t) (length_kinds t ∙ sym (length_args t)) ∙ length_kinds t

pub sizes_nodes : (fs : Fields) → length (nodes_ofs fs) ≡ sizes fs
sizes_nodes fs =
    ap length (sym (fields_nodes fs))
    ∙ nodes_length (kinds_ofs fs) (args_ofs fs) (length_kindss fs ∙ sym (length_argss fs)) ∙ length_kindss fs

pub nodes_ofs_append : (fs gs : Fields) → nodes_ofs (append fs gs) ≡ nodes_ofs fs ++ nodes_ofs gs
unfolding nodes_of append
nodes_ofs_append empty gs = refl
nodes_ofs_append (field name t fs) gs =
    ap (λ (l : List Node). node kind.Field name ∷ l)
    (ap (λ (l : List Node). nodes_of t ++ l) (nodes_ofs_append fs gs)
    ∙ sym (append_assoc (nodes_of t) (nodes_ofs fs) (nodes_ofs gs)))

-- a type's nodes, read
pub read_nodes : (t : DataType) → LeavesFit t
    → node_at (map (λ n. n.kind) (nodes_of t)) (map (λ n. n.arg) (nodes_of t)) ≡ Some t
read_nodes t f =
    ap₂ node_at (kinds_of_nodes t ∙ sym (append-nil (kinds_of t))) (args_of_nodes t ∙ sym (append-nil (args_of t)))
    ∙ read_back t (fit_good t f) [] []

-- a type that fits, from its nodes on
pub held_is : (t : DataType) → LeavesFit t → (mark : ℕ) (out : List Node) → drop mark out ≡ nodes_of t
    → held_at mark out ≡ t
unfolding held_at
held_is t f mark out e =
    ap (λ (l : List Node). type_at (map (λ n. n.kind) l) (map (λ n. n.arg) l)) e
    ∙ type_is _ _ t (read_nodes t f)

pub held_of : (t : DataType) → LeavesFit t → (mark : ℕ) (out : List Node) → mark ≤ length out
    → drop mark out ≡ nodes_of t → HeldAt mark out
held_of t f mark out h e =
    let i = held_is t f mark out e in
    record { fits = subst LeavesFit (sym i) f; nodes = e ∙ ap nodes_of (sym i); within = h }

-- the held type, in the kinds and arguments that hold it
module _ (K A : List ℕ) (mark : ℕ) (out : List Node) (e : nodes_at K A ≡ out) (even : length K ≡ length A)
    (most : length K ≤ most_nodes) (h : HeldAt mark out) where
  held : DataType
  held = held_at mark out

  dropped : nodes_at (drop mark K) (drop mark A) ≡ drop mark out
  dropped = nodes_drop mark K A even ∙ ap (drop mark) e

  part_even : length (drop mark K) ≡ length (drop mark A)
  part_even = ap length (sym (rest K mark)) ∙ length_from mark K ∙ omega (arith, even)
      ∙ sym (ap length (sym (rest A mark)) ∙ length_from mark A)

  kinds_there : from mark K ≡ map (λ n. n.kind) (drop mark out)
  kinds_there =
      rest K mark ∙ sym (kinds_back (drop mark K) (drop mark A) part_even) ∙ ap (map (λ n. n.kind)) dropped

  args_there : from mark A ≡ map (λ n. n.arg) (drop mark out)
  args_there =
      rest A mark ∙ sym (args_back (drop mark K) (drop mark A) part_even) ∙ ap (map (λ n. n.arg)) dropped

  pub held_same : type_at (from mark K) (from mark A) ≡ held_at mark out
  unfolding held_at
  held_same = ap₂ type_at kinds_there args_there

  read_there : node_at (from mark K) (from mark A) ≡ Some (held_at mark out)
  read_there =
      ap₂ node_at (kinds_there ∙ ap (map (λ n. n.kind)) h.nodes) (args_there ∙ ap (map (λ n. n.arg)) h.nodes)
      ∙ read_nodes (held_at mark out) h.fits

  pub held_front : TypeFront (from mark K) (from mark A)
  held_front =
      front_type (from mark K) (from mark A) (omega (arith, length_from mark K, most))
      (valid_of (node_of (from mark K) (from mark A) _ (omega (arith, length_from mark K, length_from mark A, even))
      read_there))
      (subst LeavesFit (sym held_same) h.fits)
