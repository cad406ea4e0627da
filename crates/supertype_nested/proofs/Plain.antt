-- Two Structs of which neither repeats a name: their union is None in one order where it is in the other, and where the
-- loop over both comes to None. Assumes nothing.
use Rattle.std.specs.Option.{option_or}
use mathlib.Core.Path.{◌≡◌, refl, sym, ap, ap₂, ◌∙◌, subst}
use mathlib.Core.Bool.{Bool, true, false, cond, ◌&&◌, ◌||◌}
use mathlib.Core.List.{List, [], ◌∷◌}
use Rattle.std.specs.Prelude.{Option, None, Some}
use Rattle.std.specs.Prelude.{option_map, option_and_then}
use Prim.Native.Nat.{ℕ}
use lib.Dec.{eqb}
use borrow.Author.Tests.{eqb-true, eq-eqb}
use Rattle.flat.specs.Tree.{DataType, struct, Fields, empty, field, count}
use Rattle.flat.proofs.Truths.{impossible, never}
use Rattle.dtype.specs.Equality.{equal}
use Rattle.supertype_nested.specs.Nested.{SuperTypeOptions, TreeCall, from_iter, join_held, enter_all, union_fields}
use Rattle.supertype_nested.specs.Nested.{Zip, names_differ, no_join, joined, zip_on, zip_fields, supertype_tree_with}
use Rattle.supertype_nested.specs.Union.{last_or, join_named, seen}
use Rattle.supertype_nested.specs.Step.{Fair, zip_either, in_place, repeats}
use Rattle.supertype_nested.proofs.Found.{no_some, map_none}
use Rattle.supertype_nested.proofs.Union.{turned_false}
use Rattle.supertype_nested.proofs.Names.{without, nothing_after, old_name, new_name, one_seen}
use Rattle.supertype_nested.proofs.Steps.{same_count}

-- ---- names

-- no field has the name
abbrev pub Missing : ℕ → Fields → Type 0
Missing name empty = Unit {0}
Missing name (field other t fs) = (eqb name other ≡ false) × Missing name fs

-- no name is repeated
abbrev pub Distinct : Fields → Type 0
Distinct empty = Unit {0}
Distinct (field name t fs) = Missing name fs × Distinct fs

pub none_of : (a b : Bool) → (a || b) ≡ false → (a ≡ false) × (b ≡ false)
none_of true b e = never (sym e)
none_of false b e = (refl, e)

-- a name that is seen is missing where the test finds no repeated one
unseen : (n : ℕ) (ns : List ℕ) (fs : Fields) → seen ns n ≡ true → repeats ns fs ≡ false → Missing n fs
unfolding repeats seen
unseen n ns empty s e = tt
unseen n ns (field m t fs) s e =
    let both = none_of (seen ns m) (repeats (m ∷ ns) fs) e in
    (other (eqb n m) refl both.0, unseen n (m ∷ ns) fs (or_seen (eqb m n)) both.1)
  where
    other : (b : Bool) → eqb n m ≡ b → seen ns m ≡ false → eqb n m ≡ false
    other true q e = never (sym e ∙ sym (one_seen ns n m q) ∙ s)
    other false q e = q

    or_seen : (b : Bool) → (b || seen ns n) ≡ true
    or_seen true = refl
    or_seen false = s

distinct_of : (ns : List ℕ) (fs : Fields) → repeats ns fs ≡ false → Distinct fs
unfolding repeats seen
distinct_of ns empty e = tt
distinct_of ns (field n t fs) e =
    let rest = (none_of (seen ns n) (repeats (n ∷ ns) fs) e).1 in
    (unseen n (n ∷ ns) fs (ap (λ (b : Bool). b || seen ns n) (eq-eqb n n refl)) rest, distinct_of (n ∷ ns) fs rest)

-- The test by the names before, which a loop over the fields makes, tells that no name is repeated.
pub distinct : (fs : Fields) → repeats [] fs ≡ false → Distinct fs
distinct = distinct_of []

-- a field of the name and the type
data Has (name : ℕ) (t : DataType) : Fields → Type 0 where
  here : {fs : Fields} → Has name t (field name t fs)
  there : {other : ℕ} {u : DataType} {fs : Fields} → Has name t fs → Has name t (field other u fs)

-- a name that is missing is another than one that is there
other_name : (n m : ℕ) (t : DataType) (fs : Fields) → Missing n fs → Has m t fs → eqb n m ≡ false
other_name n m t empty d h = elim h [ ]
other_name n m t (field other u fs) d here = d.0
other_name n m t (field other u fs) d (there h) = other_name n m t fs d.1 h

last_missing : (n : ℕ) (t : DataType) (fs : Fields) → Missing n fs → last_or n t fs ≡ t
unfolding last_or
last_missing n t empty d = refl
last_missing n t (field other u fs) d =
    ap (λ (b : Bool). cond b (last_or n u fs) (last_or n t fs)) d.0 ∙ last_missing n t fs d.1

without_missing : (n : ℕ) (fs : Fields) → Missing n fs → without n fs ≡ fs
unfolding without
without_missing n empty d = refl
without_missing n (field other u fs) d =
    ap (λ (b : Bool). cond b (without n fs) (field other u (without n fs))) d.0
    ∙ ap (field other u) (without_missing n fs d.1)

-- taking a name out keeps what is missing, that no name is repeated, and what is there under another name
missing_without : (n m : ℕ) (fs : Fields) → Missing n fs → Missing n (without m fs)
unfolding without
missing_without n m empty d = tt
missing_without n m (field other u fs) d = go (eqb m other) (missing_without n m fs d.1)
  where
    go : (b : Bool) → Missing n (without m fs) → Missing n (cond b (without m fs) (field other u (without m fs)))
    go true h = h
    go false h = (d.0, h)

distinct_without : (m : ℕ) (fs : Fields) → Distinct fs → Distinct (without m fs)
unfolding without
distinct_without m empty d = tt
distinct_without m (field other u fs) d = go (eqb m other) (distinct_without m fs d.1)
  where
    go : (b : Bool) → Distinct (without m fs) → Distinct (cond b (without m fs) (field other u (without m fs)))
    go true h = h
    go false h = (missing_without other m fs d.0, h)

has_without : (n m : ℕ) (t : DataType) (fs : Fields) → eqb m n ≡ false → Has n t fs → Has n t (without m fs)
unfolding without
has_without n m t empty d h = elim h [ ]
has_without n m t (field other u fs) d here =
    subst (λ (b : Bool). Has n t (cond b (without m fs) (field n t (without m fs)))) (sym d) here
has_without n m t (field other u fs) d (there h) = go (eqb m other) (has_without n m t fs d h)
  where
    go : (b : Bool) → Has n t (without m fs) → Has n t (cond b (without m fs) (field other u (without m fs)))
    go true g = g
    go false g = there g

-- and what is there without it was there
push : (n : ℕ) (t : DataType) (other : ℕ) (u : DataType) (gs fs : Fields) → Has n t (field other u gs)
    → (Has n t gs → Has n t fs) → Has n t (field other u fs)
push n t other u gs fs here g = here
push n t other u gs fs (there h) g = there (g h)

had : (n m : ℕ) (t : DataType) (fs : Fields) → Has n t (without m fs) → Has n t fs
unfolding without
had n m t empty h = h
had n m t (field other u fs) h = go (eqb m other) h (had n m t fs)
  where
    go : (b : Bool) → Has n t (cond b (without m fs) (field other u (without m fs)))
        → (Has n t (without m fs) → Has n t fs) → Has n t (field other u fs)
    go true h g = there (g h)
    go false h g = push n t other u (without m fs) fs h g

module _ (c : TreeCall) (fair : Fair c) where
  -- ---- one name

  held_none : (t u : DataType) → join_held c t u ≡ None → c t u ≡ None
  held_none t u = go (equal t u)
    where
      go : (b : Bool) → cond b (Some u) (c t u) ≡ None → c t u ≡ None
      go true e = no_some e
      go false e = e

  none_held : (t u : DataType) → c t u ≡ None → join_held c t u ≡ None
  none_held t u e = go (equal t u) refl
    where
      go : (b : Bool) → equal t u ≡ b → cond b (Some u) (c t u) ≡ None
      go true q = no_some (sym (fair.same t u q) ∙ e)
      go false q = e

  named_missing : (n : ℕ) (u : DataType) (fs : Fields) → Missing n fs → join_named c n u fs ≡ Some u
  unfolding join_named
  named_missing n u empty d = refl
  named_missing n u (field other t fs) d =
      ap (λ (b : Bool). cond b (option_and_then (λ st. join_named c n st fs) (join_held c t u)) (join_named c n u fs)) d.0
      ∙ named_missing n u fs d.1

  -- a held type has no join with the one field of its name
  named_has : (n : ℕ) (u t : DataType) (fs : Fields) → Distinct fs → Has n t fs → c t u ≡ None
      → join_named c n u fs ≡ None
  unfolding join_named
  named_has n u t empty d h e = elim h [ ]
  named_has n u t (field other v fs) d here e =
      ap (λ (b : Bool). cond b (option_and_then (λ st. join_named c n st fs) (join_held c t u)) (join_named c n u fs))
      (eq-eqb n n refl)
      ∙ ap (λ (q : Option DataType). option_and_then (λ st. join_named c n st fs) q) (none_held t u e)
  named_has n u t (field other v fs) d (there h) e =
      ap (λ (b : Bool). cond b (option_and_then (λ st. join_named c n st fs) (join_held c v u)) (join_named c n u fs))
      (turned_false other n (other_name other n t fs d.0 h))
      ∙ named_has n u t fs d.1 h e

  -- and where it has none, there is such a field
  named_clash : (n : ℕ) (u : DataType) (fs : Fields) → Distinct fs → join_named c n u fs ≡ None
      → (t : DataType) × Has n t fs × (c t u ≡ None)
  unfolding join_named
  named_clash n u empty d e = no_some e
  named_clash n u (field other t fs) d e = go (eqb n other) refl e (named_clash n u fs d.1)
    where
      one : (q : Option DataType) → join_held c t u ≡ q → n ≡ other → option_and_then (λ st. join_named c n st fs) q ≡ None
          → (v : DataType) × Has n v (field other t fs) × (c v u ≡ None)
      one None h b e = (t, subst (λ (m : ℕ). Has m t (field other t fs)) (sym b) here, held_none t u h)
      one (Some v) h b e =
          no_some (sym (named_missing n v fs (subst (λ (m : ℕ). Missing m fs) (sym b) d.0)) ∙ e)

      go : (b : Bool) → eqb n other ≡ b
          → cond b (option_and_then (λ st. join_named c n st fs) (join_held c t u)) (join_named c n u fs) ≡ None
          → (join_named c n u fs ≡ None → (v : DataType) × Has n v fs × (c v u ≡ None))
          → (v : DataType) × Has n v (field other t fs) × (c v u ≡ None)
      go true b e h = one (join_held c t u) refl (eqb-true n other b) e
      go false b e h = let r = h e in (r.0, there r.1, r.2)

  -- ---- the union

  -- the first name of the longest, then the others
  first_name : (n : ℕ) (t : DataType) (fs gs : Fields) → Missing n fs
      → union_fields c (field n t fs) gs
      ≡ option_and_then (λ v. option_map (field n v) (union_fields c fs (without n gs))) (join_named c n t gs)
  unfolding union_fields
  first_name n t fs gs d =
      old_name c n t fs gs
      ∙ ap₂
      (λ (u : DataType) (hs : Fields).
      option_and_then (λ v. option_map (field n v) (enter_all c (from_iter empty hs) (without n gs))) (join_named c n u gs))
      (last_missing n t fs d) (without_missing n fs d)

  -- two Structs clash: a name of both whose types have no supertype
  abbrev Clash : Fields → Fields → Type 0
  Clash fs gs = (n : ℕ) × (t : DataType) × (u : DataType) × Has n t fs × Has n u gs × (c u t ≡ None)

  clash_turn : (fs gs : Fields) → Clash fs gs → Clash gs fs
  clash_turn fs gs k = (k.0, k.2, k.1, k.4, k.3, fair.turn k.2 k.1 k.5)

  -- then the union is None
  clash_none : (fs gs : Fields) → Distinct fs → Distinct gs → Clash fs gs → union_fields c fs gs ≡ None
  clash_none empty gs d e k = let h = k.3 in elim h [ ]
  clash_none (field m v fs) gs d e (n, t, u, here, g, q) =
      first_name n t fs gs d.0
      ∙ ap (λ (z : Option DataType). option_and_then (λ v. option_map (field n v) (union_fields c fs (without n gs))) z)
      (named_has n t u gs e g q)
  clash_none (field m v fs) gs d e (n, t, u, there h, g, q) =
      first_name m v fs gs d.0
      ∙ ap (λ (z : Option Fields). option_and_then (λ v. option_map (field m v) z) (join_named c m v gs))
      (clash_none fs (without m gs) d.1 (distinct_without m gs e)
      (n, t, u, h, has_without n m u gs (other_name m n t fs d.0 h) g, q))
      ∙ nothing_after c (join_named c m v gs)

  -- new names have no clash
  new_some : (gs : Fields) → Distinct gs → union_fields c empty gs ≡ Some gs
  unfolding union_fields from_iter enter_all
  new_some empty d = refl
  new_some (field n t gs) d =
      new_name c n t gs
      ∙ ap₂ (λ (p : Option DataType) (q : Option Fields). option_and_then (λ v. option_map (field n v) q) p)
      (named_missing n t gs d.0)
      (ap (λ (z : Fields). enter_all c empty z) (without_missing n gs d.0) ∙ new_some gs d.1)

  -- and it is None for no other reason
  none_clash : (fs gs : Fields) → Distinct fs → Distinct gs → union_fields c fs gs ≡ None → Clash fs gs
  none_clash empty gs d e q = no_some (sym (new_some gs e) ∙ q)
  none_clash (field n t fs) gs d e q =
      go (join_named c n t gs) refl (sym (first_name n t fs gs d.0) ∙ q)
      (none_clash fs (without n gs) d.1 (distinct_without n gs e))
    where
      go : (p : Option DataType) → join_named c n t gs ≡ p
          → option_and_then (λ v. option_map (field n v) (union_fields c fs (without n gs))) p ≡ None
          → (union_fields c fs (without n gs) ≡ None → Clash fs (without n gs)) → Clash (field n t fs) gs
      go None h q r = let s = named_clash n t gs e h in (n, t, s.0, here, s.1, s.2)
      go (Some v) h q r =
          let s = r (map_none (field n v) (union_fields c fs (without n gs)) q) in
          (s.0, s.1, s.2, there s.3, had s.0 n s.2 gs s.4, s.5)

  -- The order of two Structs without repeated names does not count for None.
  pub union_turn : (fs gs : Fields) → Distinct fs → Distinct gs → union_fields c fs gs ≡ None
      → union_fields c gs fs ≡ None
  union_turn fs gs d e q = clash_none gs fs e d (clash_turn fs gs (none_clash fs gs d e q))

  -- ---- the loop over both

  zip_clash : (fs gs : Fields) → zip_fields c fs gs ≡ no_join → Clash fs gs
  unfolding zip_fields
  zip_clash empty gs e = impossible cc
  zip_clash (field n t fs) empty e = impossible cc
  zip_clash (field n t fs) (field m u gs) e = go (eqb n m) refl e (zip_clash fs gs)
    where
      on : (q : Option DataType) (z : Zip) → c t u ≡ q → zip_fields c fs gs ≡ z → n ≡ m → zip_on n q z ≡ no_join
          → (zip_fields c fs gs ≡ no_join → Clash fs gs) → Clash (field n t fs) (field m u gs)
      on None z h k b e r =
          (n, t, u, here, subst (λ (j : ℕ). Has j u (field m u gs)) (sym b) here, fair.turn t u h)
      on (Some v) names_differ h k b e r = impossible cc
      on (Some v) no_join h k b e r = let s = r k in (s.0, s.1, s.2, there s.3, there s.4, s.5)
      on (Some v) (joined hs) h k b e r = impossible cc

      go : (b : Bool) → eqb n m ≡ b → cond b (zip_on n (c t u) (zip_fields c fs gs)) names_differ ≡ no_join
          → (zip_fields c fs gs ≡ no_join → Clash fs gs) → Clash (field n t fs) (field m u gs)
      go true b e r = on (c t u) (zip_fields c fs gs) refl refl (eqb-true n m b) e r
      go false b e r = impossible cc

  -- Where it comes to None, so does the union, without repeated names.
  pub zip_union : (fs gs : Fields) → Distinct fs → Distinct gs → zip_fields c fs gs ≡ no_join → union_fields c fs gs ≡ None
  zip_union fs gs d e q = clash_none fs gs d e (zip_clash fs gs q)

  -- Where a name is out of place it does not come to all the joins.
  out_of_place : (fs gs hs : Fields) → in_place fs gs ≡ false → zip_fields c fs gs ≡ joined hs → ⊥
  unfolding zip_fields in_place
  out_of_place empty gs hs p e = never (sym p)
  out_of_place (field n t fs) empty hs p e = never (sym p)
  out_of_place (field n t fs) (field m u gs) hs p e = go (eqb n m) p e (out_of_place fs gs)
    where
      on : (q : Option DataType) (z : Zip) → zip_fields c fs gs ≡ z → zip_on n q z ≡ joined hs
          → ((hs : Fields) → zip_fields c fs gs ≡ joined hs → ⊥) → ⊥
      on None z h e r = impossible cc
      on (Some v) names_differ h e r = impossible cc
      on (Some v) no_join h e r = impossible cc
      on (Some v) (joined js) h e r = r js h

      go : (b : Bool) → (b && in_place fs gs) ≡ false
          → cond b (zip_on n (c t u) (zip_fields c fs gs)) names_differ ≡ joined hs
          → ((hs : Fields) → in_place fs gs ≡ false → zip_fields c fs gs ≡ joined hs → ⊥) → ⊥
      go true p e r = on (c t u) (zip_fields c fs gs) refl e (λ hs. r hs p)
      go false p e r = impossible cc

  -- Where none is, it does not break off at two names.
  pub in_place_lem : (fs gs : Fields) → in_place fs gs ≡ true → zip_fields c fs gs ≡ names_differ → ⊥
  unfolding zip_fields in_place
  in_place_lem empty gs p e = impossible cc
  in_place_lem (field n t fs) empty p e = impossible cc
  in_place_lem (field n t fs) (field m u gs) p e = go (eqb n m) p e (in_place_lem fs gs)
    where
      on : (q : Option DataType) (z : Zip) → zip_fields c fs gs ≡ z → zip_on n q z ≡ names_differ
          → (zip_fields c fs gs ≡ names_differ → ⊥) → ⊥
      on None z h e r = impossible cc
      on (Some v) names_differ h e r = r h
      on (Some v) no_join h e r = impossible cc
      on (Some v) (joined js) h e r = impossible cc

      go : (b : Bool) → (b && in_place fs gs) ≡ true
          → cond b (zip_on n (c t u) (zip_fields c fs gs)) names_differ ≡ names_differ
          → (in_place fs gs ≡ true → zip_fields c fs gs ≡ names_differ → ⊥) → ⊥
      go true p e r = on (c t u) (zip_fields c fs gs) refl e (r p)
      go false p e r = never p

  -- So where a name is out of place and none is repeated, the left one's union decides: neither the loop over both nor
  -- the other order needs a look, and the joins of each field are made once.
  pub plain_union : (fs gs : Fields) → Distinct fs → Distinct gs → in_place fs gs ≡ false
      → zip_either (union_fields c fs gs) (union_fields c gs fs) (zip_fields c fs gs) ≡ union_fields c fs gs
  plain_union fs gs d e p = go (zip_fields c fs gs) refl
    where
      or : (q : Option Fields) → (q ≡ None → union_fields c gs fs ≡ None) → option_or q (union_fields c gs fs) ≡ q
      or None h = h refl
      or (Some hs) h = refl

      go : (z : Zip) → zip_fields c fs gs ≡ z
          → zip_either (union_fields c fs gs) (union_fields c gs fs) z ≡ union_fields c fs gs
      go names_differ q = or (union_fields c fs gs) (union_turn fs gs d e)
      go no_join q = sym (zip_union fs gs d e q)
      go (joined hs) q = absurd (out_of_place fs gs hs p q)

  -- As an answer for the two Structs, with as many fields.
  pub plain_structs : (o : SuperTypeOptions) (fs gs : Fields) → count fs ≡ count gs → Distinct fs → Distinct gs
      → in_place fs gs ≡ false → supertype_tree_with c o (struct fs) (struct gs) ≡ option_map struct (union_fields c fs gs)
  plain_structs o fs gs n d e p = same_count c fair o fs gs n ∙ ap (option_map struct) (plain_union fs gs d e p)
