-- What `reading` means: it gives exactly the valid types, each from its own flat form and from nothing else. Assumes
-- nothing.
use mathlib.Core.Path.{◌≡◌, refl, sym, ap, ap₂, subst, ◌∙◌}
use mathlib.Core.Bool.{Bool, true, false, ◌&&◌}
use mathlib.Core.List.{List, [], ◌++◌, append_assoc, append-nil}
use Rattle.std.specs.Prelude.{Option, None, Some, Ok, Err}
use Prim.Native.Nat.{ℕ, ◌≤◌}
use native.Mathlib.Omega.{arith}
use borrow.Author.Tests.{le-leb, lt-ltb, eq-eqb, leb-true, eqb-true}
use lib.Dec.{leb, ltb, eqb}
use lib.ListN.{length, get_or, drop_of_length-le}
use Rattle.flat.specs.Kind
use Rattle.flat.specs.Argument.{argument_fits, argument_rule}
use Rattle.flat.specs.Tree.{DataType, leaf, list, array, struct, Fields, empty, field, size, depth, kinds_of}
use Rattle.flat.specs.Tree.{kinds_ofs, args_of, args_ofs, count, head_kind, head_arg}
use Rattle.flat.specs.Reader.{node_at}
use Rattle.flat.specs.Reading.{Reading, refused, type, unless, length_fits, kinds_fit, arguments_fit, shaped}
use Rattle.flat.specs.Reading.{reading, checked_of, Ruled, RuledFields, IsType}
use Rattle.flat.specs.Refusals.{FlatForm, NodesFit}
use Rattle.flat.specs.declared.error.Error.{Error}
use Rattle.flat.specs.declared.error.Error.TheVariants.{Length, Kind, Argument, Shape, Depth}
use Rattle.flat.specs.Walk.{Valid, type_at}
use Rattle.flat.proofs.Truths.{impossible, both_true}
use Rattle.flat.proofs.Sizes.{length_kinds, length_args, size_pos}
use Rattle.flat.proofs.Walks.{node_of, valid_of, type_is, type_kind, type_arg}
use Rattle.flat.proofs.ReadBack.{Good, Goods, read_back, Sound, sound}

-- ---- a valid type passes
mutual
  unfolding Ruled Good

  good : (t : DataType) → Ruled t → Good t
  good (leaf k a) r = r.0
  good (list t) r = good t r
  good (array w t) r = good t r
  good (struct fs) r = goods fs r.1

  goods : (fs : Fields) → RuledFields fs → Goods fs
  goods empty r = tt
  goods (field name t fs) r = (good t r.1, goods fs r.2)

mutual
  unfolding Ruled kinds_of kinds_fit

  kinds_fit_lem : (t : DataType) → Ruled t → (ks : List ℕ) → kinds_fit (kinds_of t ++ ks) ≡ kinds_fit ks
  kinds_fit_lem (leaf k a) r ks = rw (le-leb k Kind.Field (omega arith))
  kinds_fit_lem (list t) r ks = kinds_fit_lem t r ks
  kinds_fit_lem (array w t) r ks = kinds_fit_lem t r ks
  kinds_fit_lem (struct fs) r ks = kinds_fits fs r.1 ks

  kinds_fits : (fs : Fields) → RuledFields fs → (ks : List ℕ) → kinds_fit (kinds_ofs fs ++ ks) ≡ kinds_fit ks
  kinds_fits empty r ks = refl
  kinds_fits (field name t fs) r ks =
      ap kinds_fit (append_assoc (kinds_of t) (kinds_ofs fs) ks) ∙ kinds_fit_lem t r.1 (kinds_ofs fs ++ ks) ∙ kinds_fits fs
      r.2 ks

mutual
  unfolding Ruled kinds_of args_of arguments_fit argument_fits argument_rule

  arguments_fit_lem :
      (t : DataType) → Ruled t → (ks xs : List ℕ) → arguments_fit (kinds_of t ++ ks) (args_of t ++ xs) ≡ arguments_fit ks xs
  arguments_fit_lem (leaf k a) r ks xs = rw r.1
  arguments_fit_lem (list t) r ks xs = arguments_fit_lem t r ks xs
  arguments_fit_lem (array w t) r ks xs = arguments_fit_lem t r ks xs
  arguments_fit_lem (struct fs) r ks xs = rw r.0 (arguments_fits fs r.1 ks xs)

  arguments_fits :
      (fs : Fields) → RuledFields fs → (ks xs : List ℕ)
      → arguments_fit (kinds_ofs fs ++ ks) (args_ofs fs ++ xs) ≡ arguments_fit ks xs
  arguments_fits empty r ks xs = refl
  arguments_fits (field name t fs) r ks xs =
      rw r.0
      (ap₂ arguments_fit (append_assoc (kinds_of t) (kinds_ofs fs) ks) (append_assoc (args_of t) (args_ofs fs) xs)
      ∙ arguments_fit_lem t r.1 (kinds_ofs fs ++ ks) (args_ofs fs ++ xs) ∙ arguments_fits fs r.2 ks xs)

-- The flat form of a tree is read back, and none of 1 to 3 is given where it has not too many nodes.
module _ {ks xs : List ℕ} {t : DataType} (f : FlatForm ks xs t) where
  pub form_length : length ks ≡ size t
  form_length = ap length f.kinds ∙ length_kinds t

  pub form_even : length ks ≡ length xs
  form_even = form_length ∙ sym (ap length f.args ∙ length_args t)

  -- with nothing after it
  pub at_kinds : ks ≡ kinds_of t ++ []
  at_kinds = f.kinds ∙ sym (append-nil (kinds_of t))

  pub at_args : xs ≡ args_of t ++ []
  at_args = f.args ∙ sym (append-nil (args_of t))

  pub form_read : node_at ks xs ≡ Some t
  form_read = ap₂ node_at at_kinds at_args ∙ read_back t (good t f.ruled) [] []

  -- The type stands at the front, so a walk may start there.
  pub form_stands : Valid ks xs × (type_at ks xs ≡ t)
  form_stands = (valid_of (node_of ks xs t form_even form_read), type_is ks xs t form_read)

  pub form_fits : {nodes : ℕ} → size t ≤ nodes → NodesFit nodes ks xs
  unfolding length_fits kinds_fit arguments_fit
  form_fits {nodes} h =
      let l = form_length in
      let p = size_pos t in
      record {
        lengths = rw (eq-eqb (length ks) (length xs) form_even, lt-ltb 0 (length ks) (omega arith), le-leb (length ks) nodes (omega arith));
        kinds = ap kinds_fit at_kinds ∙ kinds_fit_lem t f.ruled [];
        args = ap₂ arguments_fit at_kinds at_args ∙ arguments_fit_lem t f.ruled [] [];
      }

pub own_form : (t : DataType) → Ruled t → FlatForm (kinds_of t) (args_of t) t
own_form t r = record { kinds = refl; args = refl; ruled = r }

-- where none of 1 to 3 is given, 4 and 5 are left
pub fit_reading :
    (nodes deep : ℕ) {ks xs : List ℕ} → NodesFit nodes ks xs
    → reading nodes deep ks xs ≡ shaped deep (length ks) (node_at ks xs)
unfolding reading
fit_reading nodes deep f = rw (f.lengths, f.kinds, f.args)

-- Everything that document 01 calls valid passes.
pub passes : (nodes deep : ℕ) (t : DataType) → IsType nodes deep t → reading nodes deep (kinds_of t) (args_of t) ≡ type t
passes nodes deep t v =
    let f = own_form t v.ruled in
    rw (fit_reading nodes deep (form_fits f v.within), form_read f, eq-eqb (size t) (length (kinds_of t)) (sym (form_length f)), le-leb (depth t) deep v.shallow)

-- ---- whatever passes is a valid type
mutual
  unfolding Ruled Good kinds_of args_of arguments_fit argument_fits argument_rule

  -- fitting arguments of a tree, and of what follows it
  ruled :
      (t : DataType) → Good t → (ks xs : List ℕ) → arguments_fit (kinds_of t ++ ks) (args_of t ++ xs) ≡ true
      → Ruled t × (arguments_fit ks xs ≡ true)
  ruled (leaf k a) g ks xs e = let s = both_true (argument_fits k a) (arguments_fit ks xs) e in ((g, s.0), s.1)
  ruled (list t) g ks xs e = ruled t g ks xs e
  ruled (array w t) g ks xs e = ruled t g ks xs e
  ruled (struct fs) g ks xs e =
      let s = both_true (argument_fits Kind.Struct (count fs)) (arguments_fit (kinds_ofs fs ++ ks) (args_ofs fs ++ xs)) e in
      let r = ruled_fields fs g ks xs s.1 in ((s.0, r.0), r.1)

  ruled_fields :
      (fs : Fields) → Goods fs → (ks xs : List ℕ) → arguments_fit (kinds_ofs fs ++ ks) (args_ofs fs ++ xs) ≡ true
      → RuledFields fs × (arguments_fit ks xs ≡ true)
  ruled_fields empty g ks xs e = (tt, e)
  ruled_fields (field name t fs) g ks xs e =
      let s = both_true (argument_fits Kind.Field name) (arguments_fit ((kinds_of t ++ kinds_ofs fs) ++ ks) ((args_of t ++ args_ofs fs) ++ xs)) e in
      let q = sym (ap₂ arguments_fit (append_assoc (kinds_of t) (kinds_ofs fs) ks) (append_assoc (args_of t) (args_ofs fs) xs)) ∙ s.1 in
      let r = ruled t g.0 (kinds_ofs fs ++ ks) (args_ofs fs ++ xs) q in
      let u = ruled_fields fs g.1 ks xs r.1 in ((s.0, r.0, u.0), u.1)

-- a test that was passed
passed : (b : Bool) (e : Error) (r : Reading) (t : DataType) → unless b e r ≡ type t → (b ≡ true) × (r ≡ type t)
passed true e r t q = (refl, q)
passed false e r t q = impossible cc

-- A tree that was read from all the nodes, whose arguments fit: the arrays are its flat form.
pub read_form :
    {ks xs : List ℕ} (t : DataType) → node_at ks xs ≡ Some t → size t ≡ length ks → length ks ≡ length xs
    → arguments_fit ks xs ≡ true → FlatForm ks xs t
read_form {ks} {xs} t q n e f =
    let o : Sound ks xs (Some t) = subst (λ (v : Option DataType). Sound ks xs v) q (sound ks xs) in
    let k : ks ≡ kinds_of t ++ [] = o.0 ∙ ap (λ (l : List ℕ). kinds_of t ++ l) (drop_of_length-le ks {i = size t} (omega arith)) in
    let a : xs ≡ args_of t ++ [] = o.1 ∙ ap (λ (l : List ℕ). args_of t ++ l) (drop_of_length-le xs {i = size t} (omega arith)) in
    record { kinds = k ∙ append-nil (kinds_of t); args = a ∙ append-nil (args_of t); ruled = (ruled t o.2 [] [] (sym (ap₂ arguments_fit k a) ∙ f)).0 }

-- What two arrays hold that pass: the flat form of the type, and nothing more.
pub record Holds (nodes deep : ℕ) (ks xs : List ℕ) (t : DataType) : Type 0 where
  pub kinds : ks ≡ kinds_of t
  pub args : xs ≡ args_of t
  pub is_type : IsType nodes deep t

pub holds_form : {nodes deep : ℕ} {ks xs : List ℕ} {t : DataType} → Holds nodes deep ks xs t → FlatForm ks xs t
holds_form h = record { kinds = h.kinds; args = h.args; ruled = h.is_type.ruled }

-- what the test of 1 says where it is passed
pub lengths_fit :
    (nodes : ℕ) (ks xs : List ℕ) → length_fits nodes ks xs ≡ true → (length ks ≡ length xs) × (length ks ≤ nodes)
unfolding length_fits
lengths_fit nodes ks xs e =
    let l = both_true (eqb (length ks) (length xs) && ltb 0 (length ks)) (leb (length ks) nodes) e in
    let m = both_true (eqb (length ks) (length xs)) (ltb 0 (length ks)) l.0 in
    (eqb-true (length ks) (length xs) m.0, leb-true (length ks) nodes l.1)

module _ (nodes deep : ℕ) (ks xs : List ℕ) (t : DataType) where
  one_type :
      NodesFit nodes ks xs → (p : Option DataType) → node_at ks xs ≡ p → shaped deep (length ks) p ≡ type t
      → Holds nodes deep ks xs t
  one_type f None q r = impossible cc
  one_type f (Some u) q r =
      let l = lengths_fit nodes ks xs f.lengths in
      let s = passed (eqb (size u) (length ks)) Shape (unless (leb (depth u) deep) Depth (type u)) t r in
      let w = passed (leb (depth u) deep) Depth (type u) t s.1 in
      let n : size u ≡ length ks = eqb-true (size u) (length ks) s.0 in
      let same : u ≡ t = let y = w.1 in cc in
      let o = read_form u q n l.0 f.args in
      subst (Holds nodes deep ks xs) same
      (record { kinds = o.kinds; args = o.args; is_type = record { ruled = o.ruled; within = omega arith; shallow = leb-true (depth u) deep w.0 } })

  -- Everything that passes is valid, and stands there whole; so the tree is unique.
  pub holds : reading nodes deep ks xs ≡ type t → Holds nodes deep ks xs t
  unfolding reading
  holds q =
      let one = passed (length_fits nodes ks xs) Length (unless (kinds_fit ks) Kind (unless (arguments_fit ks xs) Argument (shaped deep (length ks) (node_at ks xs)))) t q in
      let two = passed (kinds_fit ks) Kind (unless (arguments_fit ks xs) Argument (shaped deep (length ks) (node_at ks xs))) t one.1 in
      let three = passed (arguments_fit ks xs) Argument (shaped deep (length ks) (node_at ks xs)) t two.1 in
      one_type (record { lengths = one.0; kinds = two.0; args = three.0 }) (node_at ks xs) refl three.1

  pub stands : reading nodes deep ks xs ≡ type t → Valid ks xs × (type_at ks xs ≡ t)
  stands q = form_stands (holds_form (holds q))

-- What the check's answer tells of the reading.
pub checked_type : (r : Reading) → Ok tt ≡ checked_of r → (t : DataType) × (r ≡ type t)
checked_type (refused e) q = impossible cc
checked_type (type t) q = (t, refl)

pub checked_refused : (r : Reading) (e : Error) → Err e ≡ checked_of r → r ≡ refused e
checked_refused (refused d) e q = let y : d ≡ e = cc in ap refused y
checked_refused (type t) e q = impossible cc

-- What a check that passed tells of two arrays: they are the flat form of a type, which stands at their front.
pub record Passed (nodes deep : ℕ) (ks xs : List ℕ) : Type 0 where
  pub tree : DataType
  pub reads : reading nodes deep ks xs ≡ type tree
  pub form : Holds nodes deep ks xs tree
  pub even : length ks ≡ length xs
  pub whole : size tree ≡ length ks
  pub valid : Valid ks xs
  pub front : type_at ks xs ≡ tree

pub check_passed :
    {nodes deep : ℕ} {ks xs : List ℕ} → Ok tt ≡ checked_of (reading nodes deep ks xs) → Passed nodes deep ks xs
check_passed {nodes} {deep} {ks} {xs} e =
    let r = checked_type (reading nodes deep ks xs) e in
    let h = holds nodes deep ks xs r.0 r.1 in
    let f = holds_form h in
    let s = stands nodes deep ks xs r.0 r.1 in
    record { tree = r.0; reads = r.1; form = h; even = form_even f; whole = sym (form_length f); valid = s.0; front = s.1 }

-- The first node of arrays that passed is the type's root.
module _ {nodes deep : ℕ} {ks xs : List ℕ} (v : Passed nodes deep ks xs) where
  pub root_kind_lem : head_kind v.tree ≡ get_or ks 0 0
  root_kind_lem = ap head_kind (sym v.front) ∙ type_kind ks xs v.valid

  pub root_arg_lem : head_arg v.tree ≡ get_or xs 0 0
  root_arg_lem = ap head_arg (sym v.front) ∙ type_arg ks xs v.valid
