-- What each step comes to: the join of two types, out of what its call left there. Assumes nothing.
use mathlib.Core.Path.{◌≡◌, refl, sym, ap, ap₂, ◌∙◌, subst}
use mathlib.Core.Bool.{Bool, false, cond}
use mathlib.Core.List.{List, [], ◌∷◌, ◌++◌}
use Rattle.std.specs.Prelude.{Option, None, Some, option_map, option_and_then, ok_or, Result, Ok, Err}
use Rattle.std.specs.Option.{option_or}
use Rattle.std.specs.Result.{result_ok}
use Prim.Native.Nat.{ℕ, suc, ◌+◌, ◌≤◌, ◌<◌}
use native.Mathlib.Omega.{arith}
use lib.Dec.{leb}
use lib.ListN.{length, take, drop}
use borrow.Author.Tests.{leb-true}
use Rattle.flat.specs.Kind as kind
use Rattle.flat.specs.Argument.{argument_fits}
use Rattle.flat.specs.Tree.{DataType, leaf, list, array, struct, Fields, empty, field, append, count, size, sizes}
use Rattle.flat.specs.Tree.{head_kind, head_arg}
use Rattle.flat.specs.declared.Node.{Node}
use Rattle.flat.proofs.Truths.{both_true, impossible}
use Rattle.dtype.specs.Equality.{equal}
use Rattle.dtype.specs.Match.{if_struct}
use Rattle.dtype_inner.specs.Inner.{inner_dtype}
use Rattle.supertype_answer.specs.Join.{node, type_of}
use Rattle.supertype_nested.specs.Laws.{Each, LeavesFit}
use Rattle.supertype_nested.specs.Nested.{SuperTypeOptions, TreeCall, join_each, join_held, supertype_tree}
use Rattle.supertype_nested.specs.Nested.{Zip, names_differ}
use Rattle.supertype_nested.proofs.Recursive.{recursive}
use Rattle.supertype_nested.proofs.Steps.{tree_fair}
use Rattle.supertype_place.specs.declared.view.FlatFields.{FlatFields}
use Rattle.supertype_place.specs.declared.view.FlatType.{FlatType}
use Rattle.supertype_place.specs.Written.{nodes_of, held_at, HeldAt}
use Rattle.supertype_place.specs.Viewed.{viewed, viewed_run}
use Rattle.supertype_place.proofs.Repeats.{count_append}
use Rattle.supertype_place.proofs.Views.{type_front, run_front, run_many}
use Rattle.supertype_step.specs.Decided.{either_fields, above, first, each}
use Rattle.supertype_step.specs.Decided.{run_step, at_side, step_answered, PartsOf, HasParts}
use Rattle.supertype_step.specs.Decided.{Decided, DecidedBy, NodeFits, IsOver, is_list, is_array, Wraps}
use Rattle.supertype_step.specs.Decided.{list_wraps, array_wraps}
use Rattle.supertype_step.specs.declared.Side.{Side}
use Rattle.supertype_step.specs.declared.Step.{Step}
use Rattle.supertype_walk.specs.declared.walk.Unzipped.{Unzipped}
use Rattle.supertype_walk.specs.Comes.{get_supertype, Joined, Fails, Joins, Zipped}
use Rattle.supertype_walk.proofs.Going.{zip_o, zip_none, zip_some}
use Rattle.supertype_walk.proofs.Told.{joins_is}

-- ---- a type at its root

root_fits_of : (t : DataType) → LeavesFit t → NodeFits (head_kind t) (head_arg t)
unfolding Each head_kind head_arg
root_fits_of (leaf k a) f =
    let h = both_true (leb k kind.UnknownIntNeg) (argument_fits k a) f in
    (omega (arith, leb-true k kind.UnknownIntNeg h.0), λ l. h.1)
root_fits_of (list t) f = (omega arith, λ l. absurd (omega arith))
root_fits_of (array w t) f = (omega arith, λ l. absurd (omega arith))
root_fits_of (struct fs) f = (omega arith, λ l. absurd (omega arith))

pub root_fits : (t : FlatType) {x : Node} → x ≡ node (head_kind (viewed t)) (head_arg (viewed t))
    → NodeFits x.kind x.arg
root_fits t e = rw e (root_fits_of (viewed t) (type_front t.stands).fits)

-- ---- under a List or an Array

pub wraps_kind : {t : DataType} → Wraps t → (kind.List ≤ head_kind t) × (head_kind t ≤ kind.Array)
unfolding head_kind
wraps_kind list_wraps = (omega arith, omega arith)
wraps_kind array_wraps = (omega arith, omega arith)

pub list_kind : {t u : DataType} → u ≡ t → head_kind t ≡ kind.List → (kind.List ≤ head_kind u) × (head_kind u ≤
    kind.Array)
list_kind e h = let k = ap head_kind e ∙ h in (omega (arith, k), omega (arith, k))

pub inner_size : (t : DataType) {u : DataType} → inner_dtype t ≡ Some u → size t ≡ suc (size u)
unfolding inner_dtype size
inner_size (leaf k a) e = impossible cc
inner_size (list t) e = ap suc (ap size (let h = e in cc))
inner_size (array w t) e = ap suc (ap size (let h = e in cc))
inner_size (struct fs) e = impossible cc

-- under a Struct
pub struct_size : {t : DataType} {fs : Fields} → t ≡ struct fs → size t ≡ suc (sizes fs)
unfolding size
struct_size e = ap size e

pub first_size : {t u : DataType} {fs gs : Fields} {name : ℕ} → t ≡ struct fs → fs ≡ field name u gs → size u < size t
unfolding size
first_size e h = omega (arith, ap size e, ap sizes h)

pub no_fields_arg : (t : DataType) {fs : Fields} → t ≡ struct fs → fs ≡ empty → head_arg t ≡ 0
unfolding head_arg count
no_fields_arg t e h = ap head_arg e ∙ ap count h

-- the nodes of both
pub side_sizes : (s : Side) (l r : DataType) {t u : DataType} → t ≡ at_side s l r → u ≡ at_side s r l
    → size t + size u ≡ size l + size r
side_sizes Side.Left l r e h = omega (arith, ap size e, ap size h)
side_sizes Side.Right l r e h = omega (arith, ap size e, ap size h)

-- ---- what was decided

-- What the code has at a step.
pub record Arm (o i : SuperTypeOptions) (l r : DataType) (step : Step) : Type 0 where
  pub answers : supertype_tree o i l r ≡ run_step (get_supertype i) step l r
  pub parts : HasParts step l r

module _ (o i : SuperTypeOptions) (l r : FlatType) {x y : Node}
    (e : x ≡ node (head_kind (viewed l)) (head_arg (viewed l)))
    (h : y ≡ node (head_kind (viewed r)) (head_arg (viewed r))) (found : Option Step)
    (d : DecidedBy o x.kind x.arg y.kind y.arg found) where
  decided : Decided (get_supertype i) o (viewed l) (viewed r) found
  decided =
      d (get_supertype i) (tree_fair i i) (viewed l) (viewed r)
      (record { kind = sym (ap (λ n. n.kind) e); arg = sym (ap (λ n. n.arg) e); fits = (type_front l.stands).fits })
      (record { kind = sym (ap (λ n. n.kind) h); arg = sym (ap (λ n. n.arg) h); fits = (type_front r.stands).fits })

  pub arm_of : {s step : Step} → found ≡ Some s → s ≡ step → Arm o i (viewed l) (viewed r) step
  arm_of {s} {step} f g =
      let k : found ≡ Some step = f ∙ ap Some g in
      record {
        answers = recursive o i (viewed l) (viewed r) ∙ decided.answers
            ∙ ap (λ (s : Option Step). step_answered (get_supertype i) s (viewed l) (viewed r)) k;
        parts = subst (λ (s : Option Step). PartsOf s (viewed l) (viewed r)) k decided.parts;
      }

  -- for no step
  pub none_decided : found ≡ None → supertype_tree o i (viewed l) (viewed r) ≡ None
  none_decided f =
      recursive o i (viewed l) (viewed r) ∙ decided.answers
      ∙ ap (λ (s : Option Step). step_answered (get_supertype i) s (viewed l) (viewed r)) f

-- ---- the steps

over_nodes : {n : Node} → IsOver n → (t : DataType) → n ∷ nodes_of t ≡ nodes_of (above n t)
unfolding nodes_of
over_nodes is_list t = refl
over_nodes is_array t = refl

over_joins : {n : Node} → IsOver n → (q : Option DataType) (old new : List Node) (r : Option (Unit {0}))
    → Joins (λ v. n ∷ nodes_of v) q old new r → Joins nodes_of (option_map (above n) q) old new r
over_joins {n} o q old new (Some u) w =
    record {
      type = above n w.type;
      is = ap (option_map (above n)) w.is;
      wrote = w.wrote ∙ ap (λ (l : List Node). old ++ l) (over_nodes o w.type);
    }
over_joins {n} o q old new None w = record { none = ap (option_map (above n)) w.none; kept = w.kept }

list_joins : {m : Node} → m ≡ node kind.List 0 → (q : Option DataType) (old new : List Node) (r : Option (Unit {0}))
    → Joins (λ v. m ∷ nodes_of v) q old new r → Joins nodes_of (option_map list q) old new r
list_joins {m} e q old new r w = over_joins is_list q old new r (rw e at w)

module _ {o i : SuperTypeOptions} {l r : DataType} where
  pub arm_node : {n : Node} → Arm o i l r (Step.Node n) → (old new : List Node) → new ≡ old ++ n ∷ []
      → Joined nodes_of (supertype_tree o i l r) old new
  unfolding run_step nodes_of
  arm_node {n} a old new e = record { type = type_of n; is = a.answers; wrote = e }

  pub arm_whole : {s : Side} → Arm o i l r (Step.Whole s) → {u : DataType} → u ≡ at_side s l r → (old new : List Node)
      → new ≡ old ++ nodes_of u → Joined nodes_of (supertype_tree o i l r) old new
  unfolding run_step
  arm_whole {s} a {u} h old new e = record { type = u; is = a.answers ∙ ap Some (sym h); wrote = e }

  -- by what its call leaves
  module _ (old new : List Node) (z : Option (Unit {0})) where
    pub arm_under : {n : Node} → Arm o i l r (Step.Under n) → {t u : DataType} → inner_dtype l ≡ Some t
        → inner_dtype r ≡ Some u → Joins (λ v. n ∷ nodes_of v) (get_supertype i t u) old new z
        → Joins nodes_of (supertype_tree o i l r) old new z
    unfolding run_step
    arm_under {n} a {t} {u} e h w =
        joins_is nodes_of old new z
        (sym
        (a.answers
        ∙ ap₂ (λ (p q : Option DataType). option_and_then (λ t. option_and_then (λ u. option_map (above n)
        ((get_supertype i) t u)) q) p) e h))
        (over_joins a.parts.0 ((get_supertype i) t u) old new z w)

    pub arm_within : {s : Side} → Arm o i l r (Step.Within s) → {t : DataType} {one other : DataType}
        → one ≡ at_side s l r → other ≡ at_side s r l → inner_dtype one ≡ Some t → {m : Node} → m ≡ node kind.List 0
        → Joins (λ v. m ∷ nodes_of v) (get_supertype i t other) old new z
        → Joins nodes_of (supertype_tree o i l r) old new z
    unfolding run_step
    arm_within {s} a {t} {one} {other} p q e {m} k w =
        joins_is nodes_of old new z
        (sym
        (a.answers
        ∙ ap₂ (λ (a b : DataType). option_and_then (λ t. option_map list ((get_supertype i) t b)) (inner_dtype a))
        (sym p) (sym q)
        ∙ ap (λ (p : Option DataType). option_and_then (λ t. option_map list ((get_supertype i) t other)) p) e))
        (list_joins k ((get_supertype i) t other) old new z w)

    -- the first field
    pub arm_first : {s : Side} → Arm o i l r (Step.First s) → {one other : DataType} → one ≡ at_side s l r
        → other ≡ at_side s r l → {name : ℕ} {t : DataType} {fs : Fields} → one ≡ struct (field name t fs)
        → Joins nodes_of (get_supertype i t other) old new z → Joins nodes_of (supertype_tree o i l r) old new z
    unfolding run_step
    arm_first {s} a {one} {other} p q {name} {t} {fs} e w =
        joins_is nodes_of old new z
        (sym (a.answers ∙ ap₂ (first (get_supertype i)) (sym p) (sym q) ∙ ap (λ (l : DataType). first (get_supertype
        i) l other) e)) w

    -- each field
    pub arm_each : {s : Side} → Arm o i l r (Step.Each s) → {one other : DataType} → one ≡ at_side s l r
        → other ≡ at_side s r l → {fs : Fields} → one ≡ struct fs
        → Joins nodes_of (option_map struct (join_each (get_supertype i) fs other)) old new z
        → Joins nodes_of (supertype_tree o i l r) old new z
    unfolding run_step
    arm_each {s} a {one} {other} p q {fs} e w =
        joins_is nodes_of old new z
        (sym (a.answers ∙ ap₂ (each (get_supertype i)) (sym p) (sym q) ∙ ap (λ (l : DataType). each (get_supertype i)
        l other) e)) w

    -- the fields of both
    pub arm_fields : Arm o i l r Step.Fields → {fs gs : Fields} → l ≡ struct fs → r ≡ struct gs
        → Joins nodes_of (option_map struct (either_fields (get_supertype i) fs gs)) old new z
        → Joins nodes_of (supertype_tree o i l r) old new z
    unfolding run_step
    arm_fields a {fs} {gs} e h w =
        joins_is nodes_of old new z
        (sym
        (a.answers
        ∙ ap₂
        (λ (l r : DataType). if_struct None (λ fs. if_struct None (λ gs. option_map struct (either_fields
        (get_supertype i) fs gs)) r) l)
        e h))
        w

  -- a List of the right one's inner type with String, if there is one
  module _ (a : Arm o i l r Step.StringWithin) {u : DataType} (e : inner_dtype r ≡ Some u) {m : Node}
      (k : m ≡ node kind.List 0) where
    string_is : supertype_tree o i l r ≡ option_or (option_map list (get_supertype i u l)) (Some (leaf kind.String 0))
    unfolding run_step
    string_is =
        a.answers
        ∙ ap (λ (p : Option DataType). option_or (option_and_then (λ u. option_map list ((get_supertype i) u l)) p)
        (Some (leaf kind.String 0))) e

    pub arm_string_list : (old new : List Node) → Joined (λ v. m ∷ nodes_of v) (get_supertype i u l) old new
        → Joined nodes_of (supertype_tree o i l r) old new
    unfolding nodes_of
    arm_string_list old new w =
        record {
          type = list w.type;
          is = string_is
              ∙ ap (λ (q : Option DataType). option_or (option_map list q) (Some (leaf kind.String 0))) w.is;
          wrote = w.wrote ∙ ap (λ (m : Node). old ++ (m ∷ nodes_of w.type)) k;
        }

    pub arm_string : (old mid : List Node) → Fails (get_supertype i u l) old mid → {cut new : List Node} {mark : ℕ}
        → mark ≡ length old → cut ≡ take mark mid → {n : Node} → n ≡ node kind.String 0 → new ≡ cut ++ n ∷ []
        → Joined nodes_of (supertype_tree o i l r) old new
    unfolding nodes_of
    arm_string old mid w {cut} {new} {mark} h g {n} j e =
        record {
          type = leaf kind.String 0;
          is = string_is
              ∙ ap (λ (q : Option DataType). option_or (option_map list q) (Some (leaf kind.String 0))) w.none;
          wrote = e
              ∙ ap₂ (λ (l : List Node) (n : Node). l ++ n ∷ [])
              (g ∙ ap (λ (m : ℕ). take m mid) h ∙ w.kept) j;
        }

-- ---- fields

-- what a join told that has an answer
pub joined_was : {f : DataType → List Node} {q : Option DataType} {old new : List Node} {r : Option (Unit {0})}
    {u : Unit {0}} → r ≡ Some u → Joins f q old new r → Joined f q old new
joined_was {f} {q} {old} {new} e w = subst (Joins f q old new) e w

-- and one that has none
pub joined_none : (f : DataType → List Node) {q : Option DataType} {old new : List Node} {r : Option (Unit {0})}
    → r ≡ None → Joins f q old new r → Fails q old new
joined_none f {q} {old} {new} e w = subst (Joins f q old new) e w

-- the error that stands for a None
pub none_is : {T E : Type 0} {o : Option T} {d e : E} → Err d ≡ ok_or o e → o ≡ None → d ≡ e
none_is {e = e} h n = let k = h ∙ ap (λ o. ok_or o e) n in cc

-- a Struct of some fields
pub struct_some : (q : Option Fields) {t : DataType} → option_map struct q ≡ Some t → (fs : Fields) × (q ≡ Some fs)
struct_some None e = impossible cc
struct_some (Some fs) e = (fs, refl)

pub struct_none : (q : Option Fields) → option_map struct q ≡ None → q ≡ None
struct_none None e = refl
struct_none (Some fs) e = impossible cc

-- the loop over the fields of both, where it decides
pub zipped_ok : (z : Zip) (q : Option Fields) (old new : List Node) (r : Result (Unit {0}) Unzipped) → z ≡ zip_o q
    → Zipped z old new r → Joins nodes_of (option_map struct q) old new (result_ok r)
zipped_ok z q old new (Ok u) e w =
    record {
      type = struct w.fields;
      is = ap (option_map struct) (zip_some q w.fields (sym e ∙ w.is));
      wrote = w.wrote;
    }
zipped_ok z q old new (Err Unzipped.Apart) e w = differs q (sym e ∙ w.is)
  where
    differs : {A : Type 0} (q : Option Fields) → zip_o q ≡ names_differ → A
    differs None h = impossible cc
    differs (Some fs) h = impossible cc
zipped_ok z q old new (Err Unzipped.Nothing) e w =
    record { none = ap (option_map struct) (zip_none q (sym e ∙ w.is)); kept = w.kept }

-- fewer fields stand behind one
pub left_less : (whole rest new : FlatFields) (done : Fields) → viewed_run whole ≡ append done (viewed_run rest)
    → rest.left ≡ suc new.left → new.left < whole.left
left_less whole rest new done e h =
    omega (
      arith,
      h,
      run_many (run_front whole.stand),
      run_many (run_front rest.stand),
      ap count e,
      count_append done (viewed_run rest),
    )

-- ---- the held type

pub held_other : (c : TreeCall) (t u : DataType) → false ≡ equal t u → c t u ≡ join_held c t u
held_other c t u e = ap (λ (b : Bool). cond b (Some u) (c t u)) e

-- taken away it stands alone
pub alone_is : (mark : ℕ) (out : List Node) {l : List Node} → l ≡ drop mark out → held_at 0 l ≡ held_at mark out
unfolding held_at
alone_is mark out e = ap (held_at 0) e

pub held_alone : {mark : ℕ} {out l : List Node} → HeldAt mark out → l ≡ drop mark out → HeldAt 0 l
held_alone {mark} {out} h e =
    let i = sym (alone_is mark out e) in
    record {
      fits = subst LeavesFit i h.fits;
      nodes = e ∙ h.nodes ∙ ap nodes_of i;
      within = omega arith;
    }
