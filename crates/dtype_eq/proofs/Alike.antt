-- What is equal to a valid type, node by node, is a valid type: so the check of one of two types that are alike serves
-- both. Assumes nothing.
use mathlib.Core.Path.{◌≡◌, refl, sym, ap, ap₂, ◌∙◌}
use mathlib.Core.Bool.{Bool, true, false, ◌&&◌, ◌||◌, and-false, and-eq-true_iff}
use mathlib.Core.List.{List, [], ◌∷◌, ◌++◌, append_assoc, append-nil}
use Prim.Native.Nat.{ℕ, suc, ◌+◌, ◌≤◌}
use native.Mathlib.Omega.{arith}
use lib.Dec.{eqb, lit≤}
use lib.ListN.{length}
use borrow.Author.Tests.{eq-eqb, eqb-true}
use Rattle.flat.specs.Kind
use Rattle.flat.specs.Argument.{argument_fits, argument_rule}
use Rattle.flat.specs.Tree.{DataType, leaf, list, array, struct, Fields, empty, field, size, sizes, depth, depths}
use Rattle.flat.specs.Tree.{count, kinds_of, kinds_ofs, args_of, args_ofs}
use Rattle.flat.specs.Reading.{Ruled, RuledFields, IsType, type, reading}
use Rattle.flat.proofs.Truths.{never}
use Rattle.flat.proofs.Meaning.{passes}
use Rattle.dtype.specs.Match.{among}
use Rattle.dtype.specs.Predicate.{is_unknown_int}
use Rattle.dtype.specs.Equality.{equal_node, equal, equal_fields}
use Rattle.dtype_eq.specs.Nodes.{starts_with}
use Rattle.dtype.proofs.Pairs.{same_node}
use Rattle.dtype_eq.proofs.Scans.{equal_size}

-- the first node of ls and ys, which is equal to the node k, a, and what stands after it
record First (k a : ℕ) (ks xs ls ys : List ℕ) : Type 0 where
  l : ℕ
  b : ℕ
  ls' : List ℕ
  ys' : List ℕ
  kinds : ls ≡ l ∷ ls'
  args : ys ≡ b ∷ ys'
  node : equal_node k a l b ≡ true
  next : starts_with ks xs ls' ys' ≡ true
  even : length ls' ≡ length ys'
  long : length ls ≡ suc (length ls')

first : (k a : ℕ) (ks xs ls ys : List ℕ) → length ls ≡ length ys → 1 ≤ length ls → starts_with (k ∷ ks) (a ∷ xs) ls ys ≡ true → First k a ks xs ls ys
unfolding starts_with
first k a ks xs [] ys e h s = absurd (omega arith)
first k a ks xs (l ∷ ls) [] e h s = absurd (omega arith)
first k a ks xs (l ∷ ls) (b ∷ ys) e h s =
    let p = (and-eq-true_iff (equal_node k a l b) (starts_with ks xs ls ys)).0 s in
    record { l = l; b = b; ls' = ls; ys' = ys; kinds = refl; args = refl; node = p.0; next = p.1; even = omega arith; long = refl }

-- an unknown int takes any argument
unknown_ruled : (l b : ℕ) → is_unknown_int l ≡ true → Ruled (leaf l b)
unfolding is_unknown_int among Ruled argument_fits argument_rule
unknown_ruled l b e = go (eqb l Kind.UnknownIntPos) (eqb l Kind.UnknownIntNeg) refl refl e
  where
    go : (c d : Bool) → eqb l Kind.UnknownIntPos ≡ c → eqb l Kind.UnknownIntNeg ≡ d → (c || (d || false)) ≡ true → Ruled (leaf l b)
    go true d p q e = rw (eqb-true l Kind.UnknownIntPos p) (lit≤ tt, refl)
    go false true p q e = rw (eqb-true l Kind.UnknownIntNeg q) (lit≤ tt, refl)
    go false false p q e = never e

leaf_ruled : (k a l b : ℕ) → Ruled (leaf k a) → equal_node k a l b ≡ true → Ruled (leaf l b)
unfolding equal_node
leaf_ruled k a l b r e = go (is_unknown_int l) refl
  where
    go : (c : Bool) → is_unknown_int l ≡ c → Ruled (leaf l b)
    go true u = unknown_ruled l b u
    go false u =
        let f : (eqb k l && eqb a b) ≡ true = rw (u, and-false) at e in
        let s = (and-eq-true_iff (eqb k l) (eqb a b)).0 f in
        rw (← eqb-true k l s.0, ← eqb-true a b s.1) r

-- A type stands at the front of ls and ys that keeps the rules, is equal to t and as deep; what stands after it goes on
-- as ks and xs do.
record Alike (t : DataType) (ks xs ls ys : List ℕ) : Type 0 where
  tree : DataType
  ls' : List ℕ
  ys' : List ℕ
  kinds : ls ≡ kinds_of tree ++ ls'
  args : ys ≡ args_of tree ++ ys'
  ruled : Ruled tree
  same : equal t tree ≡ true
  deep : depth tree ≡ depth t
  next : starts_with ks xs ls' ys' ≡ true
  even : length ls' ≡ length ys'
  long : length ls ≡ size t + length ls'

-- Fields stand at the front of ls and ys that keep the rules, are equal to fs and as deep; what stands after them goes
-- on as ks and xs do.
record AlikeFields (fs : Fields) (ks xs ls ys : List ℕ) : Type 0 where
  fields : Fields
  ls' : List ℕ
  ys' : List ℕ
  kinds : ls ≡ kinds_ofs fields ++ ls'
  args : ys ≡ args_ofs fields ++ ys'
  ruled : RuledFields fields
  same : equal_fields fs fields ≡ true
  deep : depths fields ≡ depths fs
  number : count fields ≡ count fs
  next : starts_with ks xs ls' ys' ≡ true
  even : length ls' ≡ length ys'
  long : length ls ≡ sizes fs + length ls'

module _ {ks xs ls ys : List ℕ} where
  alike_leaf : {k a : ℕ} → Ruled (leaf k a) → First k a ks xs ls ys → Alike (leaf k a) ks xs ls ys
  unfolding kinds_of args_of equal size depth
  alike_leaf {k} {a} r f = record { tree = leaf f.l f.b; ls' = f.ls'; ys' = f.ys'; kinds = f.kinds; args = f.args; ruled = leaf_ruled k a f.l f.b r f.node; same = f.node; deep = refl; next = f.next; even = f.even; long = omega (arith, f.long) }

  alike_empty : length ls ≡ length ys → starts_with ks xs ls ys ≡ true → AlikeFields empty ks xs ls ys
  unfolding Ruled kinds_of args_of equal size depth
  alike_empty e s = record { fields = empty; ls' = ls; ys' = ys; kinds = refl; args = refl; ruled = tt; same = refl; deep = refl; number = refl; next = s; even = e; long = omega arith }

-- from what stands under a node to the node
module _ {t : DataType} {ks xs ls ys : List ℕ} where
  alike_list : (f : First Kind.List 0 (kinds_of t ++ ks) (args_of t ++ xs) ls ys) → Alike t ks xs f.ls' f.ys' → Alike (list t) ks xs ls ys
  unfolding Ruled kinds_of args_of equal size depth
  alike_list f q =
      let n = same_node Kind.List 0 f.l f.b (omega arith) (omega arith) f.node in
      record { tree = list q.tree; ls' = q.ls'; ys' = q.ys'; kinds = f.kinds ∙ ap₂ ◌∷◌ (sym n.0) q.kinds; args = f.args ∙ ap₂ ◌∷◌ (sym n.1) q.args; ruled = q.ruled; same = q.same; deep = ap suc q.deep; next = q.next; even = q.even; long = omega (arith, f.long, q.long) }

  alike_array : (w : ℕ) (f : First Kind.Array w (kinds_of t ++ ks) (args_of t ++ xs) ls ys) → Alike t ks xs f.ls' f.ys' → Alike (array w t) ks xs ls ys
  unfolding Ruled kinds_of args_of equal size depth
  alike_array w f q =
      let n = same_node Kind.Array w f.l f.b (omega arith) (omega arith) f.node in
      record { tree = array w q.tree; ls' = q.ls'; ys' = q.ys'; kinds = f.kinds ∙ ap₂ ◌∷◌ (sym n.0) q.kinds; args = f.args ∙ ap₂ ◌∷◌ (sym n.1) q.args; ruled = q.ruled; same = rw (eq-eqb w w refl) q.same; deep = ap suc q.deep; next = q.next; even = q.even; long = omega (arith, f.long, q.long) }

module _ {fs : Fields} {ks xs ls ys : List ℕ} where
  alike_struct : argument_fits Kind.Struct (count fs) ≡ true → (f : First Kind.Struct (count fs) (kinds_ofs fs ++ ks) (args_ofs fs ++ xs) ls ys) → AlikeFields fs ks xs f.ls' f.ys' → Alike (struct fs) ks xs ls ys
  unfolding Ruled kinds_of args_of equal size depth
  alike_struct r f q =
      let n = same_node Kind.Struct (count fs) f.l f.b (omega arith) (omega arith) f.node in
      record { tree = struct q.fields; ls' = q.ls'; ys' = q.ys'; kinds = f.kinds ∙ ap₂ ◌∷◌ (sym n.0) q.kinds; args = f.args ∙ ap₂ ◌∷◌ (sym (q.number ∙ n.1)) q.args; ruled = (rw q.number r, q.ruled); same = q.same; deep = q.deep; next = q.next; even = q.even; long = omega (arith, f.long, q.long) }

  -- a field's type, and the fields after it
  alike_field : {t : DataType} {js ws : List ℕ} (name : ℕ) → argument_fits Kind.Field name ≡ true → (f : First Kind.Field name js ws ls ys) (p : Alike t (kinds_ofs fs ++ ks) (args_ofs fs ++ xs) f.ls' f.ys') → AlikeFields fs ks xs p.ls' p.ys' → AlikeFields (field name t fs) ks xs ls ys
  unfolding Ruled kinds_of args_of equal size depth count
  alike_field name r f p q =
      let n = same_node Kind.Field name f.l f.b (omega arith) (omega arith) f.node in
      record {
        fields = field name p.tree q.fields;
        ls' = q.ls';
        ys' = q.ys';
        kinds = f.kinds ∙ ap₂ ◌∷◌ (sym n.0) (joined (kinds_of p.tree) (kinds_ofs q.fields) q.ls' p.kinds q.kinds);
        args = f.args ∙ ap₂ ◌∷◌ (sym n.1) (joined (args_of p.tree) (args_ofs q.fields) q.ys' p.args q.args);
        ruled = (r, p.ruled, q.ruled);
        same = rw (eq-eqb name name refl, p.same, q.same);
        deep = rw (p.deep, q.deep);
        number = ap suc q.number;
        next = q.next;
        even = q.even;
        long = omega (arith, f.long, p.long, q.long);
      }
    where
      joined : {l m : List ℕ} (A B r : List ℕ) → l ≡ A ++ m → m ≡ B ++ r → l ≡ (A ++ B) ++ r
      joined A B r p q = p ∙ ap (λ (x : List ℕ). A ++ x) q ∙ sym (append_assoc A B r)

mutual
  unfolding Ruled kinds_of args_of size

  alike : (t : DataType) → Ruled t → (ks xs ls ys : List ℕ) → length ls ≡ length ys → size t ≤ length ls → starts_with (kinds_of t ++ ks) (args_of t ++ xs) ls ys ≡ true → Alike t ks xs ls ys
  alike (leaf k a) r ks xs ls ys e h s = alike_leaf r (first k a ks xs ls ys e h s)
  alike (list t) r ks xs ls ys e h s =
      let f = first Kind.List 0 (kinds_of t ++ ks) (args_of t ++ xs) ls ys e (omega arith) s in
      alike_list f (alike t r ks xs f.ls' f.ys' f.even (omega (arith, f.long)) f.next)
  alike (array w t) r ks xs ls ys e h s =
      let f = first Kind.Array w (kinds_of t ++ ks) (args_of t ++ xs) ls ys e (omega arith) s in
      alike_array w f (alike t r ks xs f.ls' f.ys' f.even (omega (arith, f.long)) f.next)
  alike (struct fs) r ks xs ls ys e h s =
      let f = first Kind.Struct (count fs) (kinds_ofs fs ++ ks) (args_ofs fs ++ xs) ls ys e (omega arith) s in
      alike_struct r.0 f (alike_fields fs r.1 ks xs f.ls' f.ys' f.even (omega (arith, f.long)) f.next)

  alike_fields : (fs : Fields) → RuledFields fs → (ks xs ls ys : List ℕ) → length ls ≡ length ys → sizes fs ≤ length ls → starts_with (kinds_ofs fs ++ ks) (args_ofs fs ++ xs) ls ys ≡ true → AlikeFields fs ks xs ls ys
  alike_fields empty r ks xs ls ys e h s = alike_empty e s
  alike_fields (field name t fs) r ks xs ls ys e h s =
      let f = first Kind.Field name (kinds_of t ++ (kinds_ofs fs ++ ks)) (args_of t ++ (args_ofs fs ++ xs)) ls ys e (omega arith) (rw (append_assoc (kinds_of t) (kinds_ofs fs) ks, append_assoc (args_of t) (args_ofs fs) xs) at s) in
      let p = alike t r.1 (kinds_ofs fs ++ ks) (args_ofs fs ++ xs) f.ls' f.ys' f.even (omega (arith, f.long)) f.next in
      alike_field name r.0 f p (alike_fields fs r.2 ks xs p.ls' p.ys' p.even (omega (arith, f.long, p.long)) p.next)

-- ls and ys are as long as the type t, and equal to it node by node
pub valid_alike : (nodes deep : ℕ) (t : DataType) → IsType nodes deep t → (ls ys : List ℕ) → size t ≡ length ls → length ls ≡ length ys → starts_with (kinds_of t) (args_of t) ls ys ≡ true
    → (u : DataType) × (reading nodes deep ls ys ≡ type u) × (equal t u ≡ true)
valid_alike nodes deep t v ls ys h e s =
    let q = alike t v.ruled [] [] ls ys e (omega arith) (rw (append-nil (kinds_of t), append-nil (args_of t)) s) in
    let n = equal_size t q.tree q.same in
    let k : ls ≡ kinds_of q.tree = q.kinds ∙ ap (λ (m : List ℕ). kinds_of q.tree ++ m) (nil_of q.ls' (omega (arith, q.long))) ∙ append-nil (kinds_of q.tree) in
    let a : ys ≡ args_of q.tree = q.args ∙ ap (λ (m : List ℕ). args_of q.tree ++ m) (nil_of q.ys' (omega (arith, q.long, q.even))) ∙ append-nil (args_of q.tree) in
    let w : IsType nodes deep q.tree = record { ruled = q.ruled; within = omega (arith, v.within); shallow = omega (arith, v.shallow, q.deep) } in
    (q.tree, ap₂ (reading nodes deep) k a ∙ passes nodes deep q.tree w, q.same)
  where
    nil_of : (l : List ℕ) → length l ≡ 0 → l ≡ []
    nil_of [] z = refl
    nil_of (x ∷ l) z = absurd (omega arith)
