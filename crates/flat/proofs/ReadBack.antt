-- The reader and the flat form: what is written is read back from the front of any longer lists, and whatever is read
-- is exactly what stood there. Assumes nothing.
use mathlib.Core.Path.{◌≡◌, refl, sym, ap, ap₂, ◌∙◌, subst}
use mathlib.Core.Bool.{Bool, true, false, cond}
use mathlib.Core.List.{List, [], ◌∷◌, ◌++◌, append_assoc}
use Rattle.std.specs.Prelude.{Option, None, Some}
use Rattle.std.specs.Prelude.{option_map, option_and_then}
use Prim.Native.Nat.{ℕ, zero, suc, ◌+◌, ◌≤◌}
use native.Mathlib.Omega.{arith}
use lib.Dec.{leb, eqb}
use lib.ListN.{length, drop, length-append}
use lib.Seq.{drop_at, drop-drop}
use borrow.Author.Tests.{le-leb, leb-true, eqb-true}
use Rattle.flat.specs.Kind
use Rattle.flat.specs.Tree.{DataType, leaf, list, array, struct, Fields, empty, field, size, sizes, count}
use Rattle.flat.specs.Tree.{kinds_of, kinds_ofs, args_of, args_ofs}
use Rattle.flat.specs.Reader.{Children, no_child, under_list, under_array, fields, no_type, children}
use Rattle.flat.specs.Reader.{Reads, under_node, step_node, under_field, step_fields, never, node_in, fields_in}
use Rattle.flat.specs.Reader.{node_at, fields_at}
use Rattle.flat.proofs.Sizes.{length_kinds, length_kindss, length_args, count_le}

-- each leaf has a leaf's kind
unfoldable mutual
  pub Good : DataType → Type 0
  Good (leaf k a) = k ≤ Kind.UnknownIntNeg
  Good (list t) = Good t
  Good (array w t) = Good t
  Good (struct fs) = Goods fs

  pub Goods : Fields → Type 0
  Goods empty = Unit {0}
  Goods (field name t fs) = Good t × Goods fs

-- What is written is read back.
mutual
  unfolding size kinds_of args_of Good node_in children count

  pub read_in :
      (t : DataType) → Good t → (n : ℕ) (ks xs : List ℕ) → size t ≤ n
      → node_in n (kinds_of t ++ ks) (args_of t ++ xs) ≡ Some t
  read_in (leaf k a) g zero ks xs h = absurd (omega arith)
  read_in (leaf k a) g (suc n) ks xs h = rw (le-leb k Kind.UnknownIntNeg g)
  read_in (list t) g zero ks xs h = absurd (omega arith)
  read_in (list t) g (suc n) ks xs h = ap (option_map list) (read_in t g n ks xs (omega arith))
  read_in (array w t) g zero ks xs h = absurd (omega arith)
  read_in (array w t) g (suc n) ks xs h = ap (option_map (array w)) (read_in t g n ks xs (omega arith))
  read_in (struct fs) g zero ks xs h = absurd (omega arith)
  read_in (struct fs) g (suc n) ks xs h = ap (option_map struct) (reads_in fs g n ks xs (omega arith))

  pub reads_in :
      (fs : Fields) → Goods fs → (n : ℕ) (ks xs : List ℕ) → sizes fs ≤ n
      → fields_in n (count fs) (kinds_ofs fs ++ ks) (args_ofs fs ++ xs) ≡ Some fs
  reads_in empty g zero ks xs h = refl
  reads_in empty g (suc n) ks xs h = refl
  reads_in (field name t fs) g zero ks xs h = absurd (omega arith)
  reads_in (field name t fs) g (suc n) ks xs h =
      rw (
        append_assoc (kinds_of t) (kinds_ofs fs) ks,
        append_assoc (args_of t) (args_ofs fs) xs,
        read_in t g.0 n (kinds_ofs fs ++ ks) (args_ofs fs ++ xs) (omega arith),
        drop_at (kinds_of t) (kinds_ofs fs ++ ks) (size t) (length_kinds t),
        drop_at (args_of t) (args_ofs fs ++ xs) (size t) (length_args t),
        reads_in fs g.1 n ks xs (omega arith),
      )

-- what `children` says of a kind and its argument
pub data View : ℕ → ℕ → Children → Type 0 where
  is_leaf : {k a : ℕ} → k ≤ Kind.UnknownIntNeg → View k a no_child
  is_list : View Kind.List 0 under_list
  is_array : {a : ℕ} → View Kind.Array a under_array
  is_struct : {a : ℕ} → View Kind.Struct a fields
  is_other : {k a : ℕ} → View k a no_type

pub view : (k a : ℕ) → View k a (children k a)
unfolding children
view k a = by_leaf (leb k Kind.UnknownIntNeg) refl
  where
    by_zero : k ≡ Kind.List → (b : Bool) → eqb a 0 ≡ b → View k a (cond b under_list no_type)
    by_zero e true p =
        subst (λ (j : ℕ). View j a under_list) (sym e)
        (subst (λ (j : ℕ). View Kind.List j under_list) (sym (eqb-true a 0 p)) is_list)
    by_zero e false p = is_other

    by_struct : (b : Bool) → eqb k Kind.Struct ≡ b → View k a (cond b fields no_type)
    by_struct true p = subst (λ (j : ℕ). View j a fields) (sym (eqb-true k Kind.Struct p)) is_struct
    by_struct false p = is_other

    by_array :
        (b : Bool) → eqb k Kind.Array ≡ b → View k a (cond b under_array (cond (eqb k Kind.Struct) fields no_type))
    by_array true p = subst (λ (j : ℕ). View j a under_array) (sym (eqb-true k Kind.Array p)) is_array
    by_array false p = by_struct (eqb k Kind.Struct) refl

    by_list : (b : Bool) → eqb k Kind.List ≡ b → View k a (cond b (cond (eqb a 0) under_list no_type) (cond (eqb k Kind.Array) under_array (cond (eqb k Kind.Struct) fields no_type)))
    by_list true p = by_zero (eqb-true k Kind.List p) (eqb a 0) refl
    by_list false p = by_array (eqb k Kind.Array) refl

    by_leaf : (b : Bool) → leb k Kind.UnknownIntNeg ≡ b → View k a (cond b no_child (cond (eqb k Kind.List) (cond (eqb a 0) under_list no_type) (cond (eqb k Kind.Array) under_array (cond (eqb k Kind.Struct) fields no_type))))
    by_leaf true p = is_leaf (leb-true k Kind.UnknownIntNeg p)
    by_leaf false p = by_list (eqb k Kind.List) refl

joined :
    (l A B : List ℕ) (n m : ℕ) → l ≡ A ++ drop n l → drop n l ≡ B ++ drop m (drop n l) → l ≡ (A ++ B) ++ drop (n + m) l
joined l A B n m p q =
    p ∙ ap (λ (x : List ℕ). A ++ x) (q ∙ ap (λ (x : List ℕ). B ++ x) (drop-drop m n l)) ∙ sym
    (append_assoc A B (drop (n + m) l))

-- What is read is good, and its flat form stands at the front.
abbrev pub Sound : List ℕ → List ℕ → Option DataType → Type 0
Sound ks xs None = Unit {0}
Sound ks xs (Some t) = (ks ≡ kinds_of t ++ drop (size t) ks) × (xs ≡ args_of t ++ drop (size t) xs) × Good t

abbrev pub Sounds : ℕ → List ℕ → List ℕ → Option Fields → Type 0
Sounds m ks xs None = Unit {0}
Sounds m ks xs (Some fs) =
    (ks ≡ kinds_ofs fs ++ drop (sizes fs) ks) × (xs ≡ args_ofs fs ++ drop (sizes fs) xs) × Goods fs × (count fs ≡ m)

sound_list : (ks xs : List ℕ) (r : Option DataType) → Sound ks xs r → Sound (Kind.List ∷ ks) (0 ∷ xs) (option_map list r)
unfolding size kinds_of args_of Good
sound_list ks xs None h = tt
sound_list ks xs (Some t) h = (ap (λ (l : List ℕ). Kind.List ∷ l) h.0, ap (λ (l : List ℕ). 0 ∷ l) h.1, h.2)

sound_array :
    (a : ℕ) (ks xs : List ℕ) (r : Option DataType) → Sound ks xs r → Sound (Kind.Array ∷ ks) (a ∷ xs) (option_map (array a) r)
unfolding size kinds_of args_of Good
sound_array a ks xs None h = tt
sound_array a ks xs (Some t) h = (ap (λ (l : List ℕ). Kind.Array ∷ l) h.0, ap (λ (l : List ℕ). a ∷ l) h.1, h.2)

sound_struct :
    (a : ℕ) (ks xs : List ℕ) (r : Option Fields) → Sounds a ks xs r → Sound (Kind.Struct ∷ ks) (a ∷ xs) (option_map struct r)
unfolding size kinds_of args_of Good
sound_struct a ks xs None h = tt
sound_struct a ks xs (Some fs) h = (ap (λ (l : List ℕ). Kind.Struct ∷ l) h.0, ap₂ ◌∷◌ (sym h.3) h.1, h.2)

module _ (node : Reads DataType) (fs : ℕ → Reads Fields) (node-sound : (ks xs : List ℕ) → Sound ks xs (node ks xs)) (fs-sound : (m : ℕ) (ks xs : List ℕ) → Sounds m ks xs (fs m ks xs)) where
  under_sound :
      {k a : ℕ} (s : Children) → View k a s → (ks xs : List ℕ) → Sound (k ∷ ks) (a ∷ xs) (under_node node fs s k a ks xs)
  unfolding size kinds_of args_of Good
  under_sound no_child (is_leaf h) ks xs = (refl, refl, h)
  under_sound under_list is_list ks xs = sound_list ks xs (node ks xs) (node-sound ks xs)
  under_sound under_array (is_array {a}) ks xs = sound_array a ks xs (node ks xs) (node-sound ks xs)
  under_sound fields (is_struct {a}) ks xs = sound_struct a ks xs (fs a ks xs) (fs-sound a ks xs)
  under_sound no_type is_other ks xs = tt

  step_sound : (ks xs : List ℕ) → Sound ks xs (step_node node fs ks xs)
  step_sound [] xs = tt
  step_sound (k ∷ ks) [] = tt
  step_sound (k ∷ ks) (a ∷ xs) = under_sound (children k a) (view k a) ks xs

  sound_field :
      (m k a : ℕ) → k ≡ Kind.Field → (ks xs : List ℕ) (t : DataType) → Sound ks xs (Some t) → (r : Option Fields)
      → Sounds m (drop (size t) ks) (drop (size t) xs) r → Sounds (suc m) (k ∷ ks) (a ∷ xs) (option_map (field a t) r)
  unfolding size kinds_of args_of Good count
  sound_field m k a e ks xs t h None g = tt
  sound_field m k a e ks xs t h (Some f) g =
      (ap₂ ◌∷◌ e (joined ks (kinds_of t) (kinds_ofs f) (size t) (sizes f) h.0 g.0), ap (λ (l : List ℕ). a ∷ l) (joined xs (args_of t) (args_ofs f) (size t) (sizes f) h.1 g.1), (h.2, g.2), ap suc g.3)

  under_field_sound :
      (m k a : ℕ) (b : Bool) → eqb k Kind.Field ≡ b → (ks xs : List ℕ)
      → Sounds (suc m) (k ∷ ks) (a ∷ xs) (under_field node fs b m a ks xs)
  under_field_sound m k a false e ks xs = tt
  under_field_sound m k a true e ks xs = go (node ks xs) (node-sound ks xs)
    where
      go : (r : Option DataType) → Sound ks xs r → Sounds (suc m) (k ∷ ks) (a ∷ xs) (option_and_then (λ t. option_map (field a t) (fs m (drop (size t) ks) (drop (size t) xs))) r)
      go None h = tt
      go (Some t) h =
          sound_field m k a (eqb-true k Kind.Field e) ks xs t h (fs m (drop (size t) ks) (drop (size t) xs))
          (fs-sound m (drop (size t) ks) (drop (size t) xs))

  steps_sound : (m : ℕ) (ks xs : List ℕ) → Sounds m ks xs (step_fields node fs m ks xs)
  unfolding size kinds_of args_of Good count
  steps_sound zero ks xs = (refl, refl, tt, refl)
  steps_sound (suc m) [] xs = tt
  steps_sound (suc m) (k ∷ ks) [] = tt
  steps_sound (suc m) (k ∷ ks) (a ∷ xs) = under_field_sound m k a (eqb k Kind.Field) refl ks xs

mutual
  unfolding node_in

  pub sound_in : (n : ℕ) (ks xs : List ℕ) → Sound ks xs (node_in n ks xs)
  sound_in zero = step_sound never (λ m. never) (λ ks xs. tt) (λ m ks xs. tt)
  sound_in (suc n) = step_sound (node_in n) (fields_in n) (sound_in n) (sounds_in n)

  pub sounds_in : (n m : ℕ) (ks xs : List ℕ) → Sounds m ks xs (fields_in n m ks xs)
  sounds_in zero = steps_sound never (λ m. never) (λ ks xs. tt) (λ m ks xs. tt)
  sounds_in (suc n) = steps_sound (node_in n) (fields_in n) (sound_in n) (sounds_in n)

-- ---- the readers without a bound
pub read_back : (t : DataType) → Good t → (ks xs : List ℕ) → node_at (kinds_of t ++ ks) (args_of t ++ xs) ≡ Some t
unfolding node_at
read_back t g ks xs = read_in t g (length (kinds_of t ++ ks)) ks xs (simp (length-append, length_kinds) (omega arith))

pub sound : (ks xs : List ℕ) → Sound ks xs (node_at ks xs)
unfolding node_at
sound ks xs = sound_in (length ks) ks xs

pub sounds : (m : ℕ) (ks xs : List ℕ) → Sounds m ks xs (fields_at m ks xs)
unfolding fields_at
sounds m ks xs = sounds_in (length ks) m ks xs

-- A type that was read has as many nodes as stand there, at most.
pub bounded : (ks xs : List ℕ) (t : DataType) → node_at ks xs ≡ Some t → size t ≤ length ks
bounded ks xs t e =
    let s : Sound ks xs (Some t) = subst (λ (r : Option DataType). Sound ks xs r) e (sound ks xs) in
    omega (arith, simp (length-append, length_kinds) at (ap length s.0))

pub bounds : (m : ℕ) (ks xs : List ℕ) (fs : Fields) → fields_at m ks xs ≡ Some fs → sizes fs ≤ length ks
bounds m ks xs fs e =
    let s : Sounds m ks xs (Some fs) = subst (λ (r : Option Fields). Sounds m ks xs r) e (sounds m ks xs) in
    omega (arith, simp (length-append, length_kindss) at (ap length s.0))

pub count_is : (m : ℕ) (ks xs : List ℕ) (fs : Fields) → fields_at m ks xs ≡ Some fs → count fs ≡ m
count_is m ks xs fs e =
    let s : Sounds m ks xs (Some fs) = subst (λ (r : Option Fields). Sounds m ks xs r) e (sounds m ks xs) in s.3

pub count_read : (m : ℕ) (ks xs : List ℕ) (fs : Fields) → fields_at m ks xs ≡ Some fs → m ≤ sizes fs
count_read m ks xs fs e =
    let s : Sounds m ks xs (Some fs) = subst (λ (r : Option Fields). Sounds m ks xs r) e (sounds m ks xs) in
    let h = count_le fs in
    omega (arith, s.3)
