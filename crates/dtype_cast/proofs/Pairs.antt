-- The walk over two nodes: a record for each of its places, of what is known there, and a law for each of its answers.
-- Assumes nothing.
use mathlib.Core.Path.{◌≡◌, refl, sym, ap, ap₂, ◌∙◌}
use mathlib.Core.Bool.{Bool, true, false, cond}
use Rattle.std.specs.Prelude.{Option, None, Some, Ok, Err}
use mathlib.Core.List.{List}
use Prim.Native.Nat.{ℕ, suc, ◌+◌, ◌^◌, ◌≤◌, ◌<◌}
use native.Mathlib.Omega.{arith}
use lib.Dec.{eqb}
use lib.ListN.{length, get_or}
use borrow.Author.Tests.{eq-eqb, ne_eqb}
use Rattle.flat.proofs.Truths.{impossible}
use Rattle.flat.specs.Kind
use Rattle.flat.specs.Tree.{DataType, struct, Fields, empty, head_kind, head_arg, size, sizes}
use Rattle.flat.specs.Walk.{Valid, ValidRun, type_at, run_at}
use Rattle.flat.proofs.Walks.{from, length_from, shorter, AtNode, at_leaf, at_one, at_struct, at_node, run_end}
use Rattle.flat.proofs.Walks.{Unary, is_list, is_array, unary_size, type_kind, type_arg, type_leaf, type_one}
use Rattle.flat.proofs.Walks.{type_struct, one_valid, struct_valid, struct_count}
use Rattle.dtype_cast.specs.Cast.{can_cast_to, fields_cast}
use Rattle.dtype_cast.specs.Walk.{Cast, cast_with, cast_answer, fields_answer, early_of}
use Rattle.dtype_cast.specs.declared.walk.NotYes.{NotYes}
use Rattle.dtype_cast.specs.declared.walk.NotYes.TheVariants.{No, NoVerdict}
use Rattle.dtype_cast.proofs.Arms.{cast_arms, early_or, Rooted, roots_first, yes_leaf}
use Rattle.dtype_cast.proofs.Arms.{other_arms, one_arms, width_arms, struct_arms}

-- an answer moved behind n nodes on one side and m on the other
abbrev pub cast_after : ℕ → ℕ → Cast → Cast
cast_after n m (Ok p) = Ok (n + p.0, m + p.1)
cast_after n m (Err d) = Err d

pub same_yes : {n m i j : ℕ} → n ≡ i → m ≡ j → ◌≡◌ {A = Cast} (Ok (n, m)) (Ok (i, j))
same_yes p q = ap₂ (λ a b. Ok (a, b)) p q

one_more : (q : Option Bool) (n m : ℕ) → cast_after 1 1 (cast_with q n m) ≡ cast_with q (suc n) (suc m)
one_more None n m = refl
one_more (Some false) n m = refl
one_more (Some true) n m = same_yes (omega arith) (omega arith)

-- the numbers of a yes are those of the two types
pub yes_sizes : (q : Option Bool) (n m : ℕ) {p : ℕ × ℕ} → Ok p ≡ cast_with q n m → (p.0 ≡ n) × (p.1 ≡ m)
yes_sizes None n m e = impossible cc
yes_sizes (Some false) n m e = impossible cc
yes_sizes (Some true) n m {p} e = let f : p ≡ (n, m) = cc in (ap (λ x. x.0) f, ap (λ x. x.1) f)

-- ---- the walk's answers
-- the answer on the types at the front of two pairs of arrays, and on m fields there
abbrev pub cast_at : List ℕ → List ℕ → List ℕ → List ℕ → Cast
cast_at ks xs ls ys = cast_answer (type_at ks xs) (type_at ls ys)

abbrev pub fields_cast_at : ℕ → List ℕ → List ℕ → List ℕ → List ℕ → Cast
fields_cast_at m ks xs ls ys = fields_answer (run_at m ks xs) (run_at m ls ys)

-- what two roots decide
abbrev early_at : List ℕ → List ℕ → List ℕ → List ℕ → Option Bool
early_at ks xs ls ys = early_of (get_or ks 0 0) (get_or xs 0 0) (get_or ls 0 0) (get_or ys 0 0)

-- ---- the places of the walk
-- A call was made: the walk's measure is t, and the numbers of nodes are far from the largest number.
pub record Called (t : ℕ) (ks ls : List ℕ) : Type 0 where
  pub measure : length ks ≡ t
  pub short : length ks ≤ 2 ^ 63
  pub short_right : length ls ≤ 2 ^ 63

-- The roots of two types have told: a yes, a no, or that they leave it open.
pub record Roots (t : ℕ) (told : Option Bool) (ks xs ls ys : List ℕ) : Type 0 where
  pub called : Called t ks ls
  pub left : Valid ks xs
  pub right : Valid ls ys
  pub says : told ≡ early_at ks xs ls ys

-- Two types of one kind whose roots leave it open.
pub record SameKind (t : ℕ) (ks xs ls ys : List ℕ) : Type 0 where
  pub roots : Roots t None ks xs ls ys
  pub same_kind : get_or ks 0 0 ≡ get_or ls 0 0

-- Two Structs.
pub record TwoStructs (t : ℕ) (ks xs ls ys : List ℕ) : Type 0 where
  pub kinds : SameKind t ks xs ls ys
  pub is_struct : get_or ks 0 0 ≡ Kind.Struct

-- Two Structs with as many fields, and one at least.
pub record AsMany (t : ℕ) (ks xs ls ys : List ℕ) : Type 0 where
  pub structs : TwoStructs t ks xs ls ys
  pub some_field : get_or xs 0 0 ≡ 0 → ⊥
  pub same_count : get_or xs 0 0 ≡ get_or ys 0 0

-- Two Lists or two Arrays.
pub record TwoInner (t : ℕ) (ks xs ls ys : List ℕ) : Type 0 where
  pub kinds : SameKind t ks xs ls ys
  pub nested : Kind.List ≤ get_or ks 0 0
  pub no_struct : get_or ks 0 0 ≡ Kind.Struct → ⊥

-- ---- the laws: one for each answer
module _ {t : ℕ} {told : Option Bool} {ks xs ls ys : List ℕ} (r : Roots t told ks xs ls ys) where
  -- the left type is a leaf of a kind without children, or nested
  rooted : Rooted (type_at ks xs)
  rooted = go (type_at ks xs) (at_node ks xs (type_at ks xs) r.left)
    where
      one : {k a : ℕ} {f : DataType → DataType} → Unary k a f → (u : DataType) → Rooted (f u)
      one is_list u = tt
      one is_array u = tt

      go : (u : DataType) → AtNode ks xs u → Rooted u
      go u (at_leaf h) = h
      go u (at_one {u = v} o n) = one o v
      go u (at_struct e q) = tt

  heads : early_of (head_kind (type_at ks xs)) (head_arg (type_at ks xs)) (head_kind (type_at ls ys)) (head_arg (type_at ls ys))
      ≡ told
  heads =
      rw (type_kind ks xs r.left, type_arg ks xs r.left, type_kind ls ys r.right, type_arg ls ys r.right)
      (sym r.says)

  decides : can_cast_to (type_at ks xs) (type_at ls ys) ≡ early_or told (cast_arms (type_at ks xs) (type_at ls ys))
  decides =
      roots_first (type_at ks xs) (type_at ls ys) rooted
      ∙ ap (λ (z : Option Bool). early_or z (cast_arms (type_at ks xs) (type_at ls ys))) heads

-- an answer from the verdict, and from the numbers of nodes where it is yes
by_verdict : (t u : DataType) (q : Option Bool) → can_cast_to t u ≡ q → cast_with q (size t) (size u) ≡ cast_answer t u
unfolding cast_answer
by_verdict t u q e = ap (λ (z : Option Bool). cast_with z (size t) (size u)) (sym e)

by_yes : (t u : DataType) {n : ℕ} → size t ≡ 1 → n ≡ size u → can_cast_to t u ≡ Some true → Ok (1, n) ≡ cast_answer t u
by_yes t u s e q = same_yes (sym s) e ∙ by_verdict t u (Some true) q

module _ {t : ℕ} {ks xs ls ys : List ℕ} where
  pub roots_yes : Roots t (Some true) ks xs ls ys → {n : ℕ} → n ≡ size (type_at ls ys) → Ok (1, n) ≡ cast_at ks xs ls ys
  roots_yes r q = by_yes _ _ (yes_leaf (type_at ks xs) (type_at ls ys) (sym (heads r))) q (decides r)

  pub roots_no : Roots t (Some false) ks xs ls ys → Err No ≡ cast_at ks xs ls ys
  roots_no r = by_verdict _ _ (Some false) (decides r)

  pub other_kinds : Roots t None ks xs ls ys → (get_or ks 0 0 ≡ get_or ls 0 0 → ⊥) → Err NoVerdict ≡ cast_at ks xs ls ys
  other_kinds r f =
      let k = type_kind ks xs r.left in
      let l = type_kind ls ys r.right in
      by_verdict _ _ None (decides r ∙ other_arms (type_at ks xs) (type_at ls ys) (λ e. f (sym k ∙ e ∙ l)))

  pub two_leaves : SameKind t ks xs ls ys → get_or ks 0 0 < Kind.List → Err NoVerdict ≡ cast_at ks xs ls ys
  two_leaves u h =
      let r = u.roots in
      by_verdict _ _ None (decides r ∙ ap (λ (z : DataType). cast_arms z (type_at ls ys)) (type_leaf ks xs r.left h))

-- The walk under the roots has answered r: its answer under one node more on either side, for which there is room, is
-- that of the two types.
pub record Under (ks xs ls ys : List ℕ) (r : Cast) : Type 0 where
  pub says : cast_after 1 1 r ≡ cast_at ks xs ls ys
  pub room : {p : ℕ × ℕ} → Ok p ≡ r → (p.0 < length ks) × (p.1 < length ls)

-- The walk under the roots has a yes, with the numbers of nodes q.
pub record UnderYes (ks xs ls ys : List ℕ) (q : ℕ × ℕ) : Type 0 where
  pub says : Ok (1 + q.0, 1 + q.1) ≡ cast_at ks xs ls ys
  pub room : (q.0 < length ks) × (q.1 < length ls)

module _ {ks xs ls ys : List ℕ} {r : Cast} (u : Under ks xs ls ys r) where
  pub under_yes : {q : ℕ × ℕ} → r ≡ Ok q → UnderYes ks xs ls ys q
  under_yes e = record { says = ap (cast_after 1 1) (sym e) ∙ u.says; room = u.room (sym e) }

  pub under_no : {d : NotYes} → r ≡ Err d → Err d ≡ cast_at ks xs ls ys
  under_no e = ap (cast_after 1 1) (sym e) ∙ u.says

-- ---- two Structs
module _ {t : ℕ} {ks xs ls ys : List ℕ} (u : TwoStructs t ks xs ls ys) where
  right_struct : get_or ls 0 0 ≡ Kind.Struct
  right_struct = sym u.kinds.same_kind ∙ u.is_struct

  fields_left : type_at ks xs ≡ struct (run_at (get_or xs 0 0) (from 1 ks) (from 1 xs))
  fields_left = type_struct ks xs u.kinds.roots.left u.is_struct

  fields_right : type_at ls ys ≡ struct (run_at (get_or ys 0 0) (from 1 ls) (from 1 ys))
  fields_right = type_struct ls ys u.kinds.roots.right right_struct

  pub no_field : get_or xs 0 0 ≡ 0 → {n : ℕ} → n ≡ size (type_at ls ys) → Ok (1, n) ≡ cast_at ks xs ls ys
  unfolding size
  no_field z q =
      let e : type_at ks xs ≡ struct empty = fields_left ∙ ap struct (run_end (get_or xs 0 0) (from 1 ks) (from 1 xs) z) in
      by_yes _ _ (ap size e) q (decides u.kinds.roots ∙ ap₂ cast_arms e fields_right)

  -- where there is a field, their numbers are compared, then the fields
  by_fields : (get_or xs 0 0 ≡ 0 → ⊥)
      → can_cast_to (type_at ks xs) (type_at ls ys)
      ≡ cond (eqb (get_or xs 0 0) (get_or ys 0 0))
      (fields_cast (run_at (get_or xs 0 0) (from 1 ks) (from 1 xs)) (run_at (get_or ys 0 0) (from 1 ls) (from 1 ys)))
      (Some false)
  by_fields z =
      let n = struct_count ks xs u.kinds.roots.left u.is_struct in
      let m = struct_count ls ys u.kinds.roots.right right_struct in
      decides u.kinds.roots ∙ ap₂ cast_arms fields_left fields_right
      ∙ struct_arms _ _ (λ e. z (sym n ∙ e)) ∙ rw (n, m)

  pub other_count : (get_or xs 0 0 ≡ 0 → ⊥) → (get_or xs 0 0 ≡ get_or ys 0 0 → ⊥) → Err No ≡ cast_at ks xs ls ys
  other_count z q = by_verdict _ _ (Some false) (by_fields z ∙ rw (ne_eqb (get_or xs 0 0) (get_or ys 0 0) q))

module _ {t : ℕ} {ks xs ls ys : List ℕ} (u : AsMany t ks xs ls ys) where
  both_runs : ValidRun (get_or xs 0 0) (from 1 ks) (from 1 xs) × ValidRun (get_or xs 0 0) (from 1 ls) (from 1 ys)
  both_runs =
      let s = u.structs in
      let r = s.kinds.roots in
      (struct_valid ks xs r.left s.is_struct, rw u.same_count (struct_valid ls ys r.right (right_struct s)))

  pub fields_call : (length (from 1 ks) < t)
      × (ValidRun (get_or xs 0 0) (from 1 ks) (from 1 xs) × ValidRun (get_or xs 0 0) (from 1 ls) (from 1 ys))
  fields_call =
      let r = u.structs.kinds.roots in
      (shorter ks 0 t r.called.measure (omega (arith, r.left)), both_runs)

  module _ {r : Cast} (e : r ≡ fields_cast_at (get_or xs 0 0) (from 1 ks) (from 1 xs) (from 1 ls) (from 1 ys)) where
    fields_room : {p : ℕ × ℕ} → Ok p ≡ r → (p.0 < length ks) × (p.1 < length ls)
    unfolding fields_answer
    fields_room q =
        let s = yes_sizes _ _ _ (q ∙ e) in
        let v = u.structs.kinds.roots in (
          omega (arith, s.0, both_runs.0.within, length_from 1 ks, v.left),
          omega (arith, s.1, both_runs.1.within, length_from 1 ls, v.right),
        )

    fields_say : cast_after 1 1 r ≡ cast_at ks xs ls ys
    unfolding fields_answer size
    fields_say =
        let s = u.structs in
        let fs : Fields = run_at (get_or xs 0 0) (from 1 ks) (from 1 xs) in
        let gs : Fields = run_at (get_or ys 0 0) (from 1 ls) (from 1 ys) in
        ap (cast_after 1 1) (e ∙ ap (λ (m : ℕ). fields_answer fs (run_at m (from 1 ls) (from 1 ys))) u.same_count)
        ∙ one_more (fields_cast fs gs) (sizes fs) (sizes gs)
        ∙ ap₂ (cast_with (fields_cast fs gs)) (sym (ap size (fields_left s))) (sym (ap size (fields_right s)))
        ∙ by_verdict _ _ (fields_cast fs gs)
        (by_fields s u.some_field ∙ rw (eq-eqb (get_or xs 0 0) (get_or ys 0 0) u.same_count))

    pub fields_under : Under ks xs ls ys r
    fields_under = record { says = fields_say; room = fields_room }

-- ---- two Lists or two Arrays
module _ {t : ℕ} {ks xs ls ys : List ℕ} (u : TwoInner t ks xs ls ys) where
  nested_right : Kind.List ≤ get_or ls 0 0
  nested_right = omega (arith, u.kinds.same_kind, u.nested)

  no_struct_right : get_or ls 0 0 ≡ Kind.Struct → ⊥
  no_struct_right e = u.no_struct (u.kinds.same_kind ∙ e)

  inner_left : (f : DataType → DataType)
      × Unary (get_or ks 0 0) (get_or xs 0 0) f
      × (type_at ks xs ≡ f (type_at (from 1 ks) (from 1 xs)))
  inner_left = type_one ks xs u.kinds.roots.left u.nested u.no_struct

  inner_right : (f : DataType → DataType)
      × Unary (get_or ls 0 0) (get_or ys 0 0) f
      × (type_at ls ys ≡ f (type_at (from 1 ls) (from 1 ys)))
  inner_right = type_one ls ys u.kinds.roots.right nested_right no_struct_right

  inner_arms : can_cast_to (type_at ks xs) (type_at ls ys)
      ≡ cast_arms (inner_left.0 (type_at (from 1 ks) (from 1 xs))) (inner_right.0 (type_at (from 1 ls) (from 1 ys)))
  inner_arms = decides u.kinds.roots ∙ ap₂ cast_arms inner_left.2 inner_right.2

  pub other_width : (get_or ys 0 0 ≡ get_or xs 0 0 → ⊥) → Err No ≡ cast_at ks xs ls ys
  other_width q =
      by_verdict _ _ (Some false) (inner_arms ∙ width_arms inner_left.1 inner_right.1 u.kinds.same_kind q _ _)

  both_inner : Valid (from 1 ks) (from 1 xs) × Valid (from 1 ls) (from 1 ys)
  both_inner =
      let r = u.kinds.roots in
      (one_valid ks xs r.left u.nested u.no_struct, one_valid ls ys r.right nested_right no_struct_right)

  pub inner_call : (length (from 1 ks) < t) × (Valid (from 1 ks) (from 1 xs) × Valid (from 1 ls) (from 1 ys))
  inner_call = let r = u.kinds.roots in (shorter ks 0 t r.called.measure (omega (arith, r.left)), both_inner)

  module _ {r : Cast} (e : r ≡ cast_at (from 1 ks) (from 1 xs) (from 1 ls) (from 1 ys)) where
    inner_room : {p : ℕ × ℕ} → Ok p ≡ r → (p.0 < length ks) × (p.1 < length ls)
    unfolding cast_answer
    inner_room q =
        let s = yes_sizes _ _ _ (q ∙ e) in
        let v = u.kinds.roots in (
          omega (arith, s.0, both_inner.0.within, length_from 1 ks, v.left),
          omega (arith, s.1, both_inner.1.within, length_from 1 ls, v.right),
        )

    inner_say : get_or ys 0 0 ≡ get_or xs 0 0 → cast_after 1 1 r ≡ cast_at ks xs ls ys
    unfolding cast_answer
    inner_say q =
        let v : DataType = type_at (from 1 ks) (from 1 xs) in
        let w : DataType = type_at (from 1 ls) (from 1 ys) in
        ap (cast_after 1 1) e ∙ one_more (can_cast_to v w) (size v) (size w)
        ∙ ap₂ (cast_with (can_cast_to v w))
        (sym (ap size inner_left.2 ∙ unary_size inner_left.1 v))
        (sym (ap size inner_right.2 ∙ unary_size inner_right.1 w))
        ∙ by_verdict _ _ (can_cast_to v w)
        (inner_arms ∙ one_arms inner_left.1 inner_right.1 u.kinds.same_kind q v w)

    pub inner_under : get_or ys 0 0 ≡ get_or xs 0 0 → Under ks xs ls ys r
    inner_under q = record { says = inner_say q; room = inner_room }
