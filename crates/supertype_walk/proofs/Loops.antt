-- The loops over fields: what each of them keeps. Assumes nothing.
use mathlib.Core.Path.{◌≡◌, refl, sym, ap, ap₂, ◌∙◌, subst}
use mathlib.Core.Bool.{true, false}
use mathlib.Core.List.{List, [], ◌∷◌, ◌++◌}
use Rattle.std.specs.Prelude.{Option, None, option_map}
use Prim.Native.Nat.{ℕ, suc, ◌+◌, ◌≤◌, ◌<◌}
use native.Mathlib.Omega.{arith}
use lib.ListN.{length, length-append}
use borrow.Author.Tests.{eq-eqb, ne_eqb}
use Rattle.flat.specs.Kind as kind
use Rattle.flat.specs.Tree.{DataType, struct, Fields, empty, field, append, count, size, sizes}
use Rattle.flat.specs.declared.Node.{Node}
use Rattle.supertype_answer.specs.Join.{node}
use Rattle.supertype_nested.specs.Nested.{SuperTypeOptions, TreeCall, Zip, names_differ}
use Rattle.supertype_nested.specs.Nested.{no_join, joined, zip_on, join_each}
use Rattle.supertype_nested.specs.Nested.{zip_fields}
use Rattle.supertype_nested.specs.Union.{named, last_or, join_named, seen, with_names, old_names, new_names, outside}
use Rattle.supertype_nested.proofs.Found.{if_told}
use Rattle.supertype_nested.proofs.Names.{out_same, outside_none}
use Rattle.supertype_nested.proofs.Smaller.{Below, tree_smaller}
use Rattle.supertype_place.specs.View.{most_nodes}
use Rattle.supertype_place.specs.Written.{nodes_of, Fits}
use Rattle.supertype_place.proofs.Writes.{size_nodes}
use Rattle.supertype_place.proofs.Repeats.{append_append, append_names, append_sizes}
use Rattle.supertype_walk.specs.Comes.{get_supertype, Joined, Filled, Zips}
use Rattle.supertype_walk.proofs.Going.{Going, zip_o, zip_none, zip_some, zip_before, going_start, going_next}
use Rattle.supertype_walk.proofs.Going.{going_nothing, going_apart, going_end, going_number}
use Rattle.supertype_walk.proofs.Told.{named_sizes, struct_wrote}
use Rattle.supertype_walk.proofs.Unions.{parted, last_sizes, some_sizes}

-- how many nodes were written
under_length : {n : Node} {q : Option DataType} {old new : List Node} (w : Joined (λ t. n ∷ nodes_of t) q old new)
    → length new ≡ length old + suc (size w.type)
under_length {n} {q} {old} w =
    let a = ap length w.wrote ∙ length-append old (n ∷ nodes_of w.type) in
    omega (arith, a, size_nodes w.type)

count_none : (fs : Fields) → count fs ≡ 0 → fs ≡ empty
unfolding count
count_none empty e = refl
count_none (field name t fs) e = absurd (omega arith)

-- ---- each field with one type

each_step : (c : TreeCall) (name : ℕ) (t : DataType) (fs : Fields) (r : DataType)
    → zip_o (join_each c (field name t fs) r) ≡ zip_on name (c t r) (zip_o (join_each c fs r))
unfolding join_each
each_step c name t fs r = zip_before name (c t r) (join_each c fs r)

each_empty : (c : TreeCall) (r : DataType) → zip_o (join_each c empty r) ≡ joined empty
unfolding join_each
each_empty c r = refl

-- Of the fields fs the loop has the fields `rest` to go.
pub record Eaching (i : SuperTypeOptions) (fs : Fields) (r : DataType) (begun : List Node) (rest : Fields)
    (out : List Node) : Type 0 where
  pub n : ℕ
  pub going : Going (zip_o (join_each (get_supertype i) fs r)) (zip_o (join_each (get_supertype i) rest r)) n begun out
  pub many : n + count rest ≡ count fs
  pub one : size r ≡ 1
  pub fewer : sizes rest ≤ sizes fs
  pub space : length out + (sizes rest + 1) ≤ most_nodes

pub each_start : (i : SuperTypeOptions) (fs : Fields) (r : DataType) (old : List Node) {begun : List Node} (n : Node)
    → begun ≡ old ++ n ∷ [] → size r ≡ 1 → Fits (suc (sizes fs + size r)) old → Eaching i fs r begun fs begun
each_start i fs r old {begun} n e one h =
    record {
      n = 0;
      going = going_start (zip_o (join_each (get_supertype i) fs r)) begun;
      many = omega arith;
      one = one;
      fewer = omega arith;
      space = omega (arith, h, one, ap length e, length-append old (n ∷ []));
    }

module _ {i : SuperTypeOptions} {fs : Fields} {r : DataType} {begun : List Node} {rest : Fields} {out : List Node}
    (s : Eaching i fs r begun rest out) where
  module _ {name : ℕ} {t : DataType} {others : Fields} (e : rest ≡ field name t others) where
    each_nodes : sizes rest ≡ suc (size t + sizes others)
    unfolding size
    each_nodes = ap sizes e

    pub each_room : Fits (suc (size t + size r)) out
    each_room = omega (arith, s.space, s.one, each_nodes)

    -- for the measure
    pub each_less : size t + size r < sizes fs + size r
    each_less = omega (arith, s.fewer, each_nodes)

    each_rest : zip_o (join_each (get_supertype i) rest r)
        ≡ zip_on name (get_supertype i t r) (zip_o (join_each (get_supertype i) others r))
    each_rest =
        ap (λ (fs : Fields). zip_o (join_each (get_supertype i) fs r)) e ∙ each_step (get_supertype i) name t others r

    -- its join is None
    pub each_nothing : get_supertype i t r ≡ None → join_each (get_supertype i) fs r ≡ None
    each_nothing h =
        zip_none _ (going_nothing s.going
        (each_rest ∙ ap (λ (q : Option DataType). zip_on name q (zip_o (join_each (get_supertype i) others r))) h))

    -- it is a type
    pub each_next : {new : List Node} → Joined (λ t. node kind.Field name ∷ nodes_of t) (get_supertype i t r) out new
        → Eaching i fs r begun others new
    unfolding count
    each_next w =
        let y : size w.type < size t + size r = if_told (Below (size t + size r)) (get_supertype i t r) w.type w.is
        (tree_smaller i i t r) in
        record {
          n = s.n + 1;
          going = going_next s.going name w.type (zip_o (join_each (get_supertype i) others r))
              (each_rest ∙ ap (λ (q : Option DataType). zip_on name q (zip_o (join_each (get_supertype i) others r)))
              w.is)
              w.wrote;
          many = omega (arith, s.many, ap count e);
          one = s.one;
          fewer = omega (arith, s.fewer, each_nodes);
          space = omega (arith, s.space, s.one, y, under_length w, each_nodes);
        }

  -- none is to go
  pub each_end : rest ≡ empty → (old : List Node) (n : Node) → begun ≡ old ++ n ∷ [] → n ≡ node kind.Struct (count fs)
      → Joined nodes_of (option_map struct (join_each (get_supertype i) fs r)) old out
  unfolding count
  each_end z old n e h =
      let d = going_end s.going (ap (λ (fs : Fields). zip_o (join_each (get_supertype i) fs r)) z ∙ each_empty
      (get_supertype i) r) in
      record {
        type = struct s.going.done;
        is = ap (option_map struct) (zip_some _ s.going.done d);
        wrote = struct_wrote old n s.going.done e
            (h ∙ ap (node kind.Struct) (let c : count fs ≡ count s.going.done = omega (
              arith,
              s.many,
              s.going.number,
              ap count z,
            ) in c))
            s.going.wrote;
      }

-- ---- the fields of both

zip_same : (c : TreeCall) (n m : ℕ) (t u : DataType) (fs gs : Fields) → n ≡ m
    → zip_fields c (field n t fs) (field m u gs) ≡ zip_on n (c t u) (zip_fields c fs gs)
unfolding zip_fields
zip_same c n m t u fs gs e = rw (eq-eqb n m e)

zip_no : (c : TreeCall) (n m : ℕ) (t u : DataType) (fs gs : Fields) → (n ≡ m → ⊥)
    → zip_fields c (field n t fs) (field m u gs) ≡ names_differ
unfolding zip_fields
zip_no c n m t u fs gs e = rw (ne_eqb n m e)

zip_empty : (c : TreeCall) (gs : Fields) → zip_fields c empty gs ≡ joined empty
unfolding zip_fields
zip_empty c gs = refl

-- Of the fields fs and gs the loop has `rest` and `left` to go.
pub record Zipping (i : SuperTypeOptions) (fs gs : Fields) (begun : List Node) (rest left : Fields) (out : List Node)
    : Type 0 where
  pub n : ℕ
  pub going : Going (zip_fields (get_supertype i) fs gs) (zip_fields (get_supertype i) rest left) n begun out
  pub many : n + count rest ≡ count fs
  pub even : count rest ≡ count left
  pub fewer : sizes rest + sizes left ≤ sizes fs + sizes gs
  pub space : length out + (sizes rest + sizes left) ≤ most_nodes

pub zip_start : (i : SuperTypeOptions) (fs gs : Fields) (old : List Node) {begun : List Node} (n : Node) → begun ≡ old
    ++ n ∷ []
    → count fs ≡ count gs → Fits (suc (sizes fs + sizes gs)) old → Zipping i fs gs begun fs gs begun
zip_start i fs gs old {begun} n e c h =
    record {
      n = 0;
      going = going_start (zip_fields (get_supertype i) fs gs) begun;
      many = omega arith;
      even = c;
      fewer = omega arith;
      space = omega (arith, h, ap length e, length-append old (n ∷ []));
    }

module _ {i : SuperTypeOptions} {fs gs : Fields} {begun : List Node} {rest left : Fields} {out : List Node}
    (s : Zipping i fs gs begun rest left out) where
  module _ {name other : ℕ} {t u : DataType} {others others' : Fields} (e : rest ≡ field name t others)
      (h : left ≡ field other u others') where
    zip_nodes : sizes rest + sizes left ≡ suc (size t + sizes others) + suc (size u + sizes others')
    unfolding size
    zip_nodes = ap₂ (λ (fs gs : Fields). sizes fs + sizes gs) e h

    pub zip_room : Fits (suc (size t + size u)) out
    zip_room = omega (arith, s.space, zip_nodes)

    -- for the measure
    pub zip_less : size t + size u < sizes fs + sizes gs
    zip_less = omega (arith, s.fewer, zip_nodes)

    both_are : zip_fields (get_supertype i) rest left
        ≡ zip_fields (get_supertype i) (field name t others) (field other u others')
    both_are = ap₂ (zip_fields (get_supertype i)) e h

    -- their names differ
    pub zip_apart : (name ≡ other → ⊥) → zip_fields (get_supertype i) fs gs ≡ names_differ
    zip_apart d = going_apart s.going (both_are ∙ zip_no (get_supertype i) name other t u others others' d)

    module _ (d : name ≡ other) where
      zip_rest : zip_fields (get_supertype i) rest left
          ≡ zip_on name (get_supertype i t u) (zip_fields (get_supertype i) others others')
      zip_rest = both_are ∙ zip_same (get_supertype i) name other t u others others' d

      -- their join is None
      pub zip_nothing : get_supertype i t u ≡ None → zip_fields (get_supertype i) fs gs ≡ no_join
      zip_nothing k =
          going_nothing s.going
          (zip_rest ∙ ap (λ (q : Option DataType). zip_on name q (zip_fields (get_supertype i) others others')) k
          ∙ nothing (zip_fields (get_supertype i) others others'))
        where
          nothing : (z : Zip) → zip_on name None z ≡ no_join
          nothing z = refl

      -- it is a type
      pub zip_next : {new : List Node} → Joined (λ t. node kind.Field name ∷ nodes_of t) (get_supertype i t u) out new
          → Zipping i fs gs begun others others' new
      unfolding count
      zip_next w =
          let y : size w.type < size t + size u = if_told (Below (size t + size u)) (get_supertype i t u) w.type w.is
          (tree_smaller i i t u) in
          record {
            n = s.n + 1;
            going = going_next s.going name w.type (zip_fields (get_supertype i) others others')
                (zip_rest ∙ ap (λ (q : Option DataType). zip_on name q (zip_fields (get_supertype i) others others'))
                w.is)
                w.wrote;
            many = omega (arith, s.many, ap count e);
            even = omega (arith, s.even, ap count e, ap count h);
            fewer = omega (arith, s.fewer, zip_nodes);
            space = omega (arith, s.space, y, under_length w, zip_nodes);
          }

  -- none is to go
  zip_over : rest ≡ empty → zip_fields (get_supertype i) fs gs ≡ joined s.going.done
  zip_over z =
      going_end s.going (ap (λ (fs : Fields). zip_fields (get_supertype i) fs left) z ∙ zip_empty (get_supertype i)
      left)

  -- of either
  pub rest_over : left ≡ empty → rest ≡ empty
  unfolding count
  rest_over z = count_none rest (s.even ∙ ap count z)

  pub zip_end : rest ≡ empty → (old : List Node) (n : Node) → begun ≡ old ++ n ∷ [] → n ≡ node kind.Struct (count fs)
      → Zips (zip_fields (get_supertype i) fs gs) old out
  unfolding count
  zip_end z old n e h =
      record {
        fields = s.going.done;
        is = zip_over z;
        wrote = struct_wrote old n s.going.done e
            (h ∙ ap (node kind.Struct) (let c : count fs ≡ count s.going.done = omega (
              arith,
              s.many,
              s.going.number,
              ap count z,
            ) in c))
            s.going.wrote;
      }

-- ---- the names of the longest

out_field : (ns : List ℕ) (name : ℕ) (t : DataType) (fs : Fields) → seen ns name ≡ false
    → sizes (outside ns (field name t fs)) ≡ suc (size t + sizes (outside ns fs))
unfolding outside size
out_field ns name t fs e = rw e

out_seen : (ns : List ℕ) (name : ℕ) (t : DataType) (fs : Fields) → seen ns name ≡ true
    → outside ns (field name t fs) ≡ outside (name ∷ ns) fs
unfolding outside
out_seen ns name t fs e = rw e (sym (out_same name ns fs e))

-- a field more before the rest
names_next : (done : Fields) (name : ℕ) (t : DataType) (ns : List ℕ)
    → with_names (append done (field name t empty)) ns ≡ name ∷ with_names done ns
unfolding with_names
names_next done name t ns = append_names done (field name t empty) ns

parts_next : {fs : Fields} (done : Fields) {rest : Fields} (name : ℕ) (t : DataType) (others : Fields)
    → fs ≡ append done rest → rest ≡ field name t others → fs ≡ append (append done (field name t empty)) others
unfolding append
parts_next done name t others p e = p ∙ ap (append done) e ∙ sym (append_append done (field name t empty) others)

module _ (c : TreeCall) (gs : Fields) where
  old_none : (ns : List ℕ) → zip_o (old_names c gs ns empty) ≡ joined empty
  unfolding old_names
  old_none ns = refl

  old_seen : (ns : List ℕ) (name : ℕ) (t : DataType) (fs : Fields) → seen ns name ≡ true
      → zip_o (old_names c gs ns (field name t fs)) ≡ zip_o (old_names c gs (name ∷ ns) fs)
  unfolding old_names
  old_seen ns name t fs e = rw e

  old_new : (ns : List ℕ) (name : ℕ) (t : DataType) (fs : Fields) → seen ns name ≡ false
      → zip_o (old_names c gs ns (field name t fs))
      ≡ zip_on name (join_named c name (last_or name t fs) gs) (zip_o (old_names c gs (name ∷ ns) fs))
  unfolding old_names
  old_new ns name t fs e = rw e (zip_before name (join_named c name (last_or name t fs) gs) (old_names c gs (name ∷
      ns) fs))

-- Of the fields fs the loop has `rest` to go, and has written `names` fields.
pub record Olding (i : SuperTypeOptions) (fs gs : Fields) (begun : List Node) (rest : Fields) (names : ℕ)
    (out : List Node) : Type 0 where
  pub done : Fields
  pub parts : fs ≡ append done rest
  pub going : Going (zip_o (old_names (get_supertype i) gs [] fs))
      (zip_o (old_names (get_supertype i) gs (with_names done []) rest)) names begun out
  pub space : length out
      + (sizes (outside (with_names done []) rest) + sizes (outside (with_names done []) gs)) ≤ most_nodes

pub old_start : (i : SuperTypeOptions) (fs gs : Fields) (out : List Node) → Fits (sizes fs + sizes gs) out
    → Olding i fs gs out fs 0 out
unfolding append with_names
old_start i fs gs out h =
    record {
      done = empty;
      parts = refl;
      going = going_start (zip_o (old_names (get_supertype i) gs [] fs)) out;
      space = omega (
        arith,
        h,
        ap sizes (outside_none (get_supertype i) fs),
        ap sizes (outside_none (get_supertype i) gs),
      );
    }

module _ {i : SuperTypeOptions} {fs gs : Fields} {begun : List Node} {rest : Fields} {names : ℕ} {out : List Node}
    (s : Olding i fs gs begun rest names out) where
  pub old_number : names ≤ most_nodes
  old_number = omega (arith, going_number s.going, s.space)

  pub old_end : rest ≡ empty → Filled (old_names (get_supertype i) gs [] fs) begun out names
  old_end z =
      record {
        fields = s.going.done;
        is = zip_some _ s.going.done (going_end s.going
            (ap (λ (fs : Fields). zip_o (old_names (get_supertype i) gs (with_names s.done []) fs)) z
            ∙ old_none (get_supertype i) gs (with_names s.done [])));
        number = s.going.number;
        wrote = s.going.wrote;
      }

  module _ {name : ℕ} {t : DataType} {others : Fields} (e : rest ≡ field name t others) where
    abbrev ns : List ℕ
    ns = with_names s.done []

    abbrev c : TreeCall
    c = get_supertype i

    pub old_parts : fs ≡ append s.done (field name t others)
    old_parts = s.parts ∙ ap (append s.done) e

    rest_nodes : sizes rest ≡ suc (size t + sizes others)
    unfolding size
    rest_nodes = ap sizes e

    -- the name was seen
    pub old_skip : seen (with_names s.done []) name ≡ true → Olding i fs gs begun others names out
    old_skip k =
        let n = names_next s.done name t [] in
        record {
          done = append s.done (field name t empty);
          parts = parts_next s.done name t others s.parts e;
          going =
              subst (λ (z : Zip). Going (zip_o (old_names c gs [] fs)) z names begun out)
              (ap (λ (fs : Fields). zip_o (old_names c gs ns fs)) e
              ∙ old_seen c gs ns name t others k
              ∙ ap (λ (l : List ℕ). zip_o (old_names c gs l others)) (sym n))
              s.going;
          space = omega (
            arith,
            s.space,
            ap sizes (ap (outside ns) e ∙ out_seen ns name t others k ∙ ap (λ (l : List ℕ). outside l others) (sym n)),
            ap sizes (sym (out_same name ns gs k) ∙ ap (λ (l : List ℕ). outside l gs) (sym n)),
          );
        }

    -- it is new, and u is its last type
    module _ (k : seen (with_names s.done []) name ≡ false) {u : DataType} (l : u ≡ last_or name t others) where
      old_space : size u + sizes (named name gs) + (sizes (outside (name ∷ ns) others) + sizes (outside (name ∷ ns)
          gs)) + 1
          ≤ sizes (outside ns rest) + sizes (outside ns gs)
      old_space =
          omega (
            arith,
            ap size l,
            last_sizes name t others,
            parted name ns others k,
            parted name ns gs k,
            ap (λ (fs : Fields). sizes (outside ns fs)) e,
            out_field ns name t others k,
          )

      pub old_room : Fits (suc (size u + sizes (named name gs))) out
      old_room = omega (arith, s.space, old_space)

      -- for the measure
      pub old_less : size u + sizes (named name gs) < sizes fs + sizes gs
      old_less =
          omega (
            arith,
            ap size l,
            last_sizes name t others,
            some_sizes name others,
            some_sizes name gs,
            rest_nodes,
            ap sizes s.parts,
            append_sizes s.done rest,
          )

      old_rest : zip_o (old_names c gs ns rest)
          ≡ zip_on name (join_named c name u gs) (zip_o (old_names c gs (name ∷ ns) others))
      old_rest =
          ap (λ (fs : Fields). zip_o (old_names c gs ns fs)) e
          ∙ old_new c gs ns name t others k
          ∙ ap (λ (u : DataType). zip_on name (join_named c name u gs) (zip_o (old_names c gs (name ∷ ns) others)))
          (sym l)

      -- its join is None
      pub old_nothing : join_named (get_supertype i) name u gs ≡ None → old_names (get_supertype i) gs [] fs ≡ None
      old_nothing h =
          zip_none _ (going_nothing s.going
          (old_rest ∙ ap (λ (q : Option DataType). zip_on name q (zip_o (old_names c gs (name ∷ ns) others))) h))

      -- it is a type
      pub old_next : {new : List Node}
          → Joined (λ t. node kind.Field name ∷ nodes_of t) (join_named (get_supertype i) name u gs) out new
          → Olding i fs gs begun others (names + 1) new
      old_next w =
          let n = names_next s.done name t [] in
          let y : size w.type ≤ size u + sizes (named name gs) = if_told (λ v. size v ≤ size u + sizes (named name
          gs)) (join_named c name u gs) w.type w.is (named_sizes i name u gs) in
          let out : (fs : Fields) → sizes (outside (with_names (append s.done (field name t empty)) []) fs) ≡ sizes
          (outside (name ∷ ns) fs) = λ fs. ap (λ (l : List ℕ). sizes (outside l fs)) n in
          record {
            done = append s.done (field name t empty);
            parts = parts_next s.done name t others s.parts e;
            going = going_next s.going name w.type (zip_o (old_names c gs (with_names (append s.done (field name t
                empty)) []) others))
                (old_rest
                ∙ ap₂ (λ (q : Option DataType) (l : List ℕ). zip_on name q (zip_o (old_names c gs l others))) w.is
                (sym n))
                w.wrote;
            space = omega (arith, s.space, old_space, y, under_length w, out others, out gs);
          }

-- ---- the new names of the shortest

module _ (c : TreeCall) where
  new_none : (ns : List ℕ) → zip_o (new_names c ns empty) ≡ joined empty
  unfolding new_names
  new_none _ = refl

  new_seen : (ns : List ℕ) (name : ℕ) (t : DataType) (gs : Fields) → seen ns name ≡ true
      → zip_o (new_names c ns (field name t gs)) ≡ zip_o (new_names c (name ∷ ns) gs)
  unfolding new_names
  new_seen ns name t gs e = rw e

  new_new : (ns : List ℕ) (name : ℕ) (t : DataType) (gs : Fields) → seen ns name ≡ false
      → zip_o (new_names c ns (field name t gs)) ≡ zip_on name (join_named c name t gs) (zip_o (new_names c (name ∷
      ns) gs))
  unfolding new_names
  new_new ns name t gs e = rw e (zip_before name (join_named c name t gs) (new_names c (name ∷ ns) gs))

-- Of the fields gs the loop has `rest` to go, and has written `names` fields. The names fs were there before.
pub record Newing (i : SuperTypeOptions) (fs gs : Fields) (begun : List Node) (rest : Fields) (names : ℕ)
    (out : List Node) : Type 0 where
  pub done : Fields
  pub parts : gs ≡ append done rest
  pub going : Going (zip_o (new_names (get_supertype i) (with_names fs []) gs))
      (zip_o (new_names (get_supertype i) (with_names done (with_names fs [])) rest)) names begun out
  pub space : length out + sizes (outside (with_names done (with_names fs [])) rest) ≤ most_nodes

pub new_start : (i : SuperTypeOptions) (fs gs : Fields) (out : List Node) → Fits (sizes (outside (with_names fs [])
    gs)) out
    → Newing i fs gs out gs 0 out
unfolding append with_names
new_start i fs gs out h =
    record {
      done = empty;
      parts = refl;
      going = going_start (zip_o (new_names (get_supertype i) (with_names fs []) gs)) out;
      space = h;
    }

module _ {i : SuperTypeOptions} {fs gs : Fields} {begun : List Node} {rest : Fields} {names : ℕ} {out : List Node}
    (s : Newing i fs gs begun rest names out) where
  pub new_number : names ≤ most_nodes
  new_number = omega (arith, going_number s.going, s.space)

  pub new_end : rest ≡ empty → Filled (new_names (get_supertype i) (with_names fs []) gs) begun out names
  new_end z =
      record {
        fields = s.going.done;
        is = zip_some _ s.going.done (going_end s.going
            (ap (λ (gs : Fields). zip_o (new_names (get_supertype i) (with_names s.done (with_names fs [])) gs)) z
            ∙ new_none (get_supertype i) (with_names s.done (with_names fs []))));
        number = s.going.number;
        wrote = s.going.wrote;
      }

  module _ {name : ℕ} {t : DataType} {others : Fields} (e : rest ≡ field name t others) where
    abbrev ns' : List ℕ
    ns' = with_names s.done (with_names fs [])

    abbrev c' : TreeCall
    c' = get_supertype i

    pub new_parts : gs ≡ append s.done (field name t others)
    new_parts = s.parts ∙ ap (append s.done) e

    new_nodes : sizes rest ≡ suc (size t + sizes others)
    unfolding size
    new_nodes = ap sizes e

    -- the name was seen
    pub new_skip : seen (with_names s.done (with_names fs [])) name ≡ true → Newing i fs gs begun others names out
    new_skip k =
        let n = names_next s.done name t (with_names fs []) in
        record {
          done = append s.done (field name t empty);
          parts = parts_next s.done name t others s.parts e;
          going =
              subst (λ (z : Zip). Going (zip_o (new_names c' (with_names fs []) gs)) z names begun out)
              (ap (λ (gs : Fields). zip_o (new_names c' ns' gs)) e
              ∙ new_seen c' ns' name t others k
              ∙ ap (λ (l : List ℕ). zip_o (new_names c' l others)) (sym n))
              s.going;
          space = omega (
            arith,
            s.space,
            ap sizes (ap (outside ns') e ∙ out_seen ns' name t others k ∙ ap (λ (l : List ℕ). outside l others) (sym
                n)),
          );
        }

    -- it is new
    module _ (k : seen (with_names s.done (with_names fs [])) name ≡ false) where
      new_space : size t + sizes (named name others) + sizes (outside (name ∷ ns') others) + 1 ≤ sizes (outside ns'
          rest)
      new_space =
          omega (
            arith,
            parted name ns' others k,
            ap (λ (gs : Fields). sizes (outside ns' gs)) e,
            out_field ns' name t others k,
          )

      pub new_room : Fits (suc (size t + sizes (named name others))) out
      new_room = omega (arith, s.space, new_space)

      -- for the measure
      pub new_less : size t + sizes (named name others) < sizes gs
      new_less = omega (arith, some_sizes name others, new_nodes, ap sizes s.parts, append_sizes s.done rest)

      new_rest : zip_o (new_names c' ns' rest)
          ≡ zip_on name (join_named c' name t others) (zip_o (new_names c' (name ∷ ns') others))
      new_rest = ap (λ (gs : Fields). zip_o (new_names c' ns' gs)) e ∙ new_new c' ns' name t others k

      -- its join is None
      pub new_nothing : join_named (get_supertype i) name t others ≡ None
          → new_names (get_supertype i) (with_names fs []) gs ≡ None
      new_nothing h =
          zip_none _ (going_nothing s.going
          (new_rest ∙ ap (λ (q : Option DataType). zip_on name q (zip_o (new_names c' (name ∷ ns') others))) h))

      -- it is a type
      pub new_next : {new : List Node}
          → Joined (λ t. node kind.Field name ∷ nodes_of t) (join_named (get_supertype i) name t others) out new
          → Newing i fs gs begun others (names + 1) new
      new_next w =
          let n = names_next s.done name t (with_names fs []) in
          let y : size w.type ≤ size t + sizes (named name others) = if_told (λ v. size v ≤ size t + sizes (named name
          others)) (join_named c' name t others) w.type w.is (named_sizes i name t others) in
          let out = ap (λ (l : List ℕ). sizes (outside l others)) n in
          record {
            done = append s.done (field name t empty);
            parts = parts_next s.done name t others s.parts e;
            going = going_next s.going name w.type (zip_o (new_names c' (with_names (append s.done (field name t
                empty)) (with_names fs [])) others))
                (new_rest
                ∙ ap₂ (λ (q : Option DataType) (l : List ℕ). zip_on name q (zip_o (new_names c' l others))) w.is (sym
                n))
                w.wrote;
            space = omega (arith, s.space, new_space, y, under_length w, out);
          }
