-- A held type with the fields of a name, one after the other. Assumes nothing.
use mathlib.Core.Path.{◌≡◌, refl, sym, ap, ap₂, ◌∙◌, subst}
use mathlib.Core.Bool.{Bool, true, false, cond}
use mathlib.Core.List.{List, ◌++◌}
use Rattle.std.specs.Prelude.{Option, None, Some, option_and_then}
use Prim.Native.Nat.{ℕ, suc, ◌+◌, ◌≤◌, ◌<◌}
use native.Mathlib.Omega.{arith}
use lib.Dec.{eqb}
use lib.ListN.{length, take, drop, length-append, take-append-drop}
use lib.Seq.{length-take-le}
use borrow.Author.Tests.{eq-eqb, ne_eqb}
use Rattle.std.proofs.Math.Seq.{take-append_seam, drop-append_seam}
use Rattle.flat.specs.Tree.{DataType, Fields, empty, field, size, sizes}
use Rattle.flat.specs.declared.Node.{Node}
use Rattle.dtype.specs.Equality.{equal}
use Rattle.supertype_nested.specs.Laws.{LeavesFit}
use Rattle.supertype_nested.specs.Nested.{SuperTypeOptions, TreeCall, join_held}
use Rattle.supertype_nested.specs.Union.{named, join_named}
use Rattle.supertype_nested.proofs.Found.{If, if_told}
use Rattle.supertype_nested.proofs.Smaller.{Below, held_sizes, tree_smaller}
use Rattle.supertype_nested.proofs.Valid.{leaves_fit}
use Rattle.supertype_place.specs.View.{most_nodes}
use Rattle.supertype_place.specs.Written.{nodes_of, Fits, held_at, HeldAt}
use Rattle.supertype_place.proofs.Writes.{held_of, held_is, size_nodes}
use Rattle.supertype_place.proofs.Finds.{named_yes, named_no}
use Rattle.supertype_walk.specs.Comes.{get_supertype, Joined, Fails, Joins}

-- ---- a type that stands at the end

module _ (t : DataType) (f : LeavesFit t) (base : List Node) {new : List Node} {mark : ℕ} (m : mark ≡ length base)
    (w : new ≡ base ++ nodes_of t) where
  stands_drop : drop mark new ≡ nodes_of t
  stands_drop = ap₂ drop m w ∙ drop-append_seam base (nodes_of t)

  pub stands_take : take mark new ≡ base
  stands_take = ap₂ take m w ∙ take-append_seam base (nodes_of t)

  pub stands_held : HeldAt mark new
  stands_held = held_of t f mark new (omega (arith, m, ap length w, length-append base (nodes_of t))) stands_drop

  pub stands_is : held_at mark new ≡ t
  stands_is = held_is t f mark new stands_drop

  pub stands_length : length new ≡ mark + size t
  stands_length = omega (arith, m, ap length w, length-append base (nodes_of t), size_nodes t)

-- so many nodes stand up to its end
pub held_length : {mark : ℕ} {out : List Node} → HeldAt mark out → length out ≡ mark + size (held_at mark out)
held_length {mark} {out} h =
    let a = ap length (sym (take-append-drop mark out)) ∙ length-append (take mark out) (drop mark out) in
    omega (arith, a, length-take-le mark out h.within, ap length h.nodes, size_nodes (held_at mark out))

-- it stays
pub held_stays : {mark : ℕ} {out : List Node} → HeldAt mark out → out ≡ take mark out ++ nodes_of (held_at mark out)
held_stays {mark} {out} h = sym (take-append-drop mark out) ∙ ap (λ (l : List Node). take mark out ++ l) h.nodes

-- ---- the fields of a name

-- a held type's joins rest on the fields of its name alone
module _ (c : TreeCall) (name : ℕ) where
  on_held : (fs gs : Fields) → ((v : DataType) → join_named c name v fs ≡ join_named c name v gs)
      → (q : Option DataType) → option_and_then (λ st. join_named c name st fs) q ≡ option_and_then (λ st. join_named
      c name st gs) q
  on_held fs gs h None = refl
  on_held fs gs h (Some v) = h v

  by_name : (u : DataType) (fs : Fields) → join_named c name u (named name fs) ≡ join_named c name u fs
  unfolding named join_named
  by_name u empty = refl
  by_name u (field other t fs) = go (eqb name other) refl (λ v. by_name v fs)
    where
      go : (b : Bool) → eqb name other ≡ b
          → ((v : DataType) → join_named c name v (named name fs) ≡ join_named c name v fs)
          → join_named c name u (cond b (field other t (named name fs)) (named name fs))
          ≡ cond b (option_and_then (λ st. join_named c name st fs) (join_held c t u)) (join_named c name u fs)
      go true e h = rw e (on_held (named name fs) fs h (join_held c t u))
      go false e h = h u

  -- the first of them
  pub first_named : (u t : DataType) (fs others : Fields) → named name fs ≡ field name t (named name others)
      → join_named c name u fs ≡ option_and_then (λ st. join_named c name st others) (join_held c t u)
  unfolding join_named
  first_named u t fs others e =
      sym (by_name u fs) ∙ ap (join_named c name u) e ∙ one
      ∙ on_held (named name others) others (λ v. by_name v others) (join_held c t u)
    where
      one : join_named c name u (field name t (named name others))
          ≡ option_and_then (λ st. join_named c name st (named name others)) (join_held c t u)
      one = rw (eq-eqb name name refl) refl

  -- none of them
  pub none_named : (u : DataType) (fs : Fields) → named name fs ≡ empty → Some u ≡ join_named c name u fs
  unfolding join_named
  none_named u fs e = sym (sym (by_name u fs) ∙ ap (join_named c name u) e)

pub held_fits : (i : SuperTypeOptions) (t u : DataType) → LeavesFit t → LeavesFit u → (st : DataType)
    → join_held (get_supertype i) t u ≡ Some st → LeavesFit st
held_fits i t u f g st e = go (equal t u) e
  where
    go : (b : Bool) → cond b (Some u) (get_supertype i t u) ≡ Some st → LeavesFit st
    go true h = subst (If LeavesFit) h g
    go false h = leaves_fit i i t u st f g h

-- a field of another name
skipped : (c : TreeCall) (name : ℕ) (u : DataType) {other : ℕ} (t : DataType) (fs : Fields) → (other ≡ name → ⊥)
    → join_named c name u (field other t fs) ≡ join_named c name u fs
unfolding join_named
skipped c name u {other} t fs d = rw (ne_eqb name other (λ e. d (sym e)))

-- ---- the loop

-- Of the fields fs the loop has `rest` to go: the type that stands from the mark on is what those before made of the
-- type that stood there.
pub record Feeding (i : SuperTypeOptions) (name : ℕ) (fs : Fields) (mark : ℕ) (begun : List Node) (rest : Fields)
    (out : List Node) : Type 0 where
  pub front : take mark out ≡ take mark begun
  pub held : HeldAt mark out
  pub same : join_named (get_supertype i) name (held_at mark begun) fs
      ≡ join_named (get_supertype i) name (held_at mark out) rest
  pub less : size (held_at mark out) + sizes (named name rest) ≤ size (held_at mark begun) + sizes (named name fs)
  pub space : length out + sizes (named name rest) ≤ most_nodes

module _ {i : SuperTypeOptions} {name : ℕ} {fs : Fields} {mark : ℕ} {begun : List Node} {rest : Fields}
    {out : List Node} (s : Feeding i name fs mark begun rest out) where
  -- none is to go
  pub feed_end : rest ≡ empty
      → Joined nodes_of (join_named (get_supertype i) name (held_at mark begun) fs) (take mark begun) out
  unfolding join_named
  feed_end z =
      record {
        type = held_at mark out;
        is = s.same ∙ ap (join_named (get_supertype i) name (held_at mark out)) z;
        wrote = held_stays s.held ∙ ap (λ (l : List Node). l ++ nodes_of (held_at mark out)) s.front;
      }

  module _ {other : ℕ} {t : DataType} {others : Fields} (e : rest ≡ field other t others) where
    -- the next field has another name
    pub feed_skip : (other ≡ name → ⊥) → Feeding i name fs mark begun others out
    feed_skip d =
        let n : named name rest ≡ named name others = ap (named name) e ∙ named_no name other t others d in
        record {
          front = s.front;
          held = s.held;
          same = s.same ∙ ap (join_named (get_supertype i) name (held_at mark out)) e ∙ skipped (get_supertype i) name
              (held_at mark out) t others d;
          less = omega (arith, s.less, ap sizes n);
          space = omega (arith, s.space, ap sizes n);
        }

    -- it has the name
    module _ (d : other ≡ name) where
      named_nodes : sizes (named name rest) ≡ suc (size t + sizes (named name others))
      unfolding size
      named_nodes = ap sizes (ap (named name) e ∙ named_yes name other t others d)

      pub feed_room : Fits (size t) out
      feed_room = omega (arith, s.space, named_nodes)

      -- for the measure
      pub feed_less : size t + size (held_at mark out) < size (held_at mark begun) + sizes (named name fs)
      feed_less = omega (arith, s.less, named_nodes)

      feed_split : join_named (get_supertype i) name (held_at mark begun) fs
          ≡ option_and_then (λ st. join_named (get_supertype i) name st others)
          (join_held (get_supertype i) t (held_at mark out))
      feed_split =
          s.same
          ∙ first_named (get_supertype i) name (held_at mark out) t rest others
          (ap (named name) e ∙ named_yes name other t others d)

      feed_after : (q : Option DataType) → join_held (get_supertype i) t (held_at mark out) ≡ q
          → join_named (get_supertype i) name (held_at mark begun) fs
          ≡ option_and_then (λ st. join_named (get_supertype i) name st others) q
      feed_after q h =
          feed_split ∙ ap (λ (q : Option DataType). option_and_then (λ st. join_named (get_supertype i) name st
          others) q) h

      -- the join is None
      pub feed_nothing : {new : List Node} → Fails (join_held (get_supertype i) t (held_at mark out)) (take mark out)
          new
          → Fails (join_named (get_supertype i) name (held_at mark begun) fs) (take mark begun) new
      feed_nothing {new} w =
          record {
            none = feed_after None w.none;
            kept = subst (λ (l : List Node). take (length l) new ≡ l) s.front w.kept;
          }

      -- it is a type, which stands there now
      pub feed_next : {new : List Node} → LeavesFit t
          → Joined nodes_of (join_held (get_supertype i) t (held_at mark out)) (take mark out) new
          → Feeding i name fs mark begun others new
      feed_next {new} f w =
          let m : mark ≡ length (take mark out) = sym (length-take-le mark out s.held.within) in
          let g = held_fits i t (held_at mark out) f s.held.fits w.type w.is in
          let a = stands_is w.type g (take mark out) m w.wrote in
          let y : size w.type < size t + size (held_at mark out) = if_told (Below (size t + size (held_at mark out)))
          (join_held (get_supertype i) t (held_at mark out)) w.type w.is (held_sizes (get_supertype i)
          (tree_smaller i i) t (held_at mark out)) in
          record {
            front = stands_take w.type g (take mark out) m w.wrote ∙ s.front;
            held = stands_held w.type g (take mark out) m w.wrote;
            same = feed_after (Some w.type) w.is
                ∙ ap (λ (v : DataType). join_named (get_supertype i) name v others) (sym a);
            less = omega (arith, s.less, named_nodes, y, ap size a);
            space = omega (
              arith,
              s.space,
              named_nodes,
              y,
              stands_length w.type g (take mark out) m w.wrote,
              held_length s.held,
            );
          }

-- ---- a field's type, and the fields of its name

module _ (i : SuperTypeOptions) (u : DataType) (gu : LeavesFit u) (name : ℕ) (fs others : Fields) (t : DataType)
    (f : LeavesFit t) (e : named name fs ≡ field name t (named name others)) where
  found_nodes : sizes (named name fs) ≡ suc (size t + sizes (named name others))
  unfolding size
  found_nodes = ap sizes e

  -- for the measure
  pub found_less : size t + size u < size u + sizes (named name fs)
  found_less = omega (arith, found_nodes)

  pub found_room : (out : List Node) → Fits (size u + sizes (named name fs)) out → Fits (size t + size u) out
  found_room out m = omega (arith, m, found_nodes)

  found_after : (q : Option DataType) → join_held (get_supertype i) t u ≡ q
      → join_named (get_supertype i) name u fs ≡ option_and_then (λ st. join_named (get_supertype i) name st others) q
  found_after q h =
      first_named (get_supertype i) name u t fs others e
      ∙ ap (λ (q : Option DataType). option_and_then (λ st. join_named (get_supertype i) name st others) q) h

  -- the join with the first is None
  pub found_nothing : join_held (get_supertype i) t u ≡ None → join_named (get_supertype i) name u fs ≡ None
  found_nothing h = found_after None h

  -- it is a type, which stands from the mark on
  module _ {base new : List Node} (w : Joined nodes_of (join_held (get_supertype i) t u) base new) {mark : ℕ}
      (m : mark ≡ length base) where
    fits : LeavesFit w.type
    fits = held_fits i t u f gu w.type w.is

    smaller : size w.type < size t + size u
    smaller =
        if_told (Below (size t + size u)) (join_held (get_supertype i) t u) w.type w.is
        (held_sizes (get_supertype i) (tree_smaller i i) t u)

    pub found_held : HeldAt mark new
    found_held = stands_held w.type fits base m w.wrote

    -- for the measure
    pub found_again : size (held_at mark new) + sizes (named name others) < size u + sizes (named name fs)
    found_again = omega (arith, smaller, found_nodes, ap size (stands_is w.type fits base m w.wrote))

    pub found_space : Fits (size u + sizes (named name fs)) base → Fits (sizes (named name others)) new
    found_space h = omega (arith, h, m, smaller, found_nodes, stands_length w.type fits base m w.wrote)

    -- the joins with the others are the joins with all
    pub found_on : (last : List Node) (r : Option (Unit {0}))
        → Joins nodes_of (join_named (get_supertype i) name (held_at mark new) others) (take mark new) last r
        → Joins nodes_of (join_named (get_supertype i) name u fs) base last r
    found_on last r j =
        let a = stands_is w.type fits base m w.wrote in
        let q : join_named (get_supertype i) name (held_at mark new) others ≡ join_named (get_supertype i) name u fs =
        ap (λ (v : DataType). join_named (get_supertype i) name v others) a ∙ sym (found_after (Some w.type) w.is)
        in
        subst (λ (l : List Node). Joins nodes_of (join_named (get_supertype i) name u fs) l last r)
        (stands_take w.type fits base m w.wrote)
        (subst (λ (p : Option DataType). Joins nodes_of p (take mark new) last r) q j)
