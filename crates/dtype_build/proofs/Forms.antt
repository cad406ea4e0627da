-- What the walk builds: the physical form of a type, and its known form where it has one. Both have the type's shape, and
-- are valid types where it is one. Assumes nothing.
use mathlib.Core.Path.{◌≡◌, refl, sym, ap, ap₂, subst, ◌∙◌}
use mathlib.Core.Bool.{Bool, true, false, cond, not, ◌&&◌, ◌||◌, or_assoc}
use mathlib.Core.List.{List, [], ◌∷◌, ◌++◌}
use Rattle.std.specs.Prelude.{Option, None, Some}
use Rattle.std.specs.Prelude.{option_map, option_and_then}
use Prim.Native.Nat.{ℕ, suc, ◌+◌, max}
use lib.Dec.{eqb}
use borrow.Author.Tests.{eqb-true}
use Rattle.std.specs.List.{list_any}
use Rattle.flat.specs.Kind
use Rattle.flat.specs.Tree.{DataType, leaf, list, array, struct, Fields, empty, field, size, sizes, depth, depths, count, kinds_of, kinds_ofs}
use Rattle.flat.specs.Reading.{Ruled, RuledFields, IsType}
use Rattle.flat.specs.Walk.{with_default}
use Rattle.dtype.specs.Match.{among}
use Rattle.dtype.specs.Predicate.{is_unknown, is_unknown_int}
use Rattle.dtype_build.specs.Materialize.{materialize_unknown, materialize_fields, materialize, or_kept}
use Rattle.dtype.specs.Physical.{to_physical, physical_fields, physical_leaf}
use Rattle.dtype_build.specs.Leaf.{materialized_leaf, physical_in, materialized_in, leaf_with, map_leaves, map_fields, has_any}
use Rattle.dtype_build.proofs.Leaves.{physical_rule, materialized_rule, physical_ruled, materialized_ruled}

-- ---- the physical form
mutual
  unfolding map_leaves to_physical

  by_leaves : (t : DataType) → map_leaves physical_leaf t ≡ to_physical t
  by_leaves (leaf k a) = refl
  by_leaves (list t) = ap list (by_leaves t)
  by_leaves (array w t) = ap (array w) (by_leaves t)
  by_leaves (struct fs) = ap struct (fields_by_leaves fs)

  fields_by_leaves : (fs : Fields) → map_fields physical_leaf fs ≡ physical_fields fs
  fields_by_leaves empty = refl
  fields_by_leaves (field name t fs) = ap₂ (field name) (by_leaves t) (fields_by_leaves fs)

pub physical_is : (t : DataType) → map_leaves (leaf_with physical_in) t ≡ to_physical t
physical_is t = ap (λ rule. map_leaves rule t) (sym physical_rule) ∙ by_leaves t

-- ---- the known form, where any is allowed or doesn't stand in the type
-- none where the test holds, else x
abbrev pub none_if : {A : Type 0} → Bool → A → Option A
none_if true x = None
none_if false x = Some x

any_append : (p : ℕ → Bool) (ks ls : List ℕ) → list_any p (ks ++ ls) ≡ (list_any p ks || list_any p ls)
any_append p [] ls = refl
any_append p (k ∷ ks) ls = ap (λ (b : Bool). p k || b) (any_append p ks ls) ∙ sym (or_assoc (p k) (list_any p ks) (list_any p ls))

map_none : {A B : Type 0} (f : A → B) (b : Bool) (x : A) → option_map f (none_if b x) ≡ none_if b (f x)
map_none f true x = refl
map_none f false x = refl

bind_none : {A B C : Type 0} (f : A → B → C) (b c d : Bool) (x : A) (y : B) → option_and_then (λ u. option_map (f u) (none_if (c && d) y)) (none_if (b && d) x) ≡ none_if ((b || c) && d) (f x y)
bind_none f true c true x y = refl
bind_none f false true true x y = refl
bind_none f false false true x y = refl
bind_none f true true false x y = refl
bind_none f true false false x y = refl
bind_none f false true false x y = refl
bind_none f false false false x y = refl

-- a leaf
known_leaf : (allow : Bool) (k a : ℕ) → materialize_unknown allow (leaf k a) ≡ none_if (has_any (k ∷ []) && not allow) (materialized_leaf k a)
unfolding materialize_unknown materialized_leaf materialize is_unknown is_unknown_int among
known_leaf allow k a = by_any (eqb k Kind.UnknownAny) refl
  where
    any : (allow : Bool) → materialize_unknown allow (leaf Kind.UnknownAny a) ≡ none_if (has_any (Kind.UnknownAny ∷ []) && not allow) (materialized_leaf Kind.UnknownAny a)
    any true = refl
    any false = refl

    other : (str float int neg : Bool) (i f s : DataType) → cond ((str || (float || false)) || (int || (neg || false))) (or_kept allow (leaf k a) (cond (int || (neg || false)) (Some i) (cond float (Some f) (cond str (Some s) None)))) (Some (leaf k a)) ≡ Some (with_default (leaf k a) (cond (int || (neg || false)) (Some i) (cond float (Some f) (cond str (Some s) None))))
    other true float true neg i f s = refl
    other true float false true i f s = refl
    other true true false false i f s = refl
    other true false false false i f s = refl
    other false true true neg i f s = refl
    other false true false true i f s = refl
    other false true false false i f s = refl
    other false false true neg i f s = refl
    other false false false true i f s = refl
    other false false false false i f s = refl

    by_any : (b : Bool) → eqb k Kind.UnknownAny ≡ b → materialize_unknown allow (leaf k a) ≡ none_if (has_any (k ∷ []) && not allow) (materialized_leaf k a)
    by_any true e = rw (eqb-true k Kind.UnknownAny e) (any allow)
    by_any false e = rw e (other (eqb k Kind.UnknownStr) (eqb k Kind.UnknownFloat) (eqb k Kind.UnknownIntPos) (eqb k Kind.UnknownIntNeg) _ _ _)

mutual
  unfolding map_leaves materialize_unknown kinds_of

  known_by_leaves : (allow : Bool) (t : DataType) → materialize_unknown allow t ≡ none_if (has_any (kinds_of t) && not allow) (map_leaves materialized_leaf t)
  known_by_leaves allow (leaf k a) = known_leaf allow k a
  known_by_leaves allow (list t) = ap (option_map list) (known_by_leaves allow t) ∙ map_none list (has_any (kinds_of t) && not allow) (map_leaves materialized_leaf t)
  known_by_leaves allow (array w t) = ap (option_map (array w)) (known_by_leaves allow t) ∙ map_none (array w) (has_any (kinds_of t) && not allow) (map_leaves materialized_leaf t)
  known_by_leaves allow (struct fs) = ap (option_map struct) (knowns_are allow fs) ∙ map_none struct (has_any (kinds_ofs fs) && not allow) (map_fields materialized_leaf fs)

  knowns_are : (allow : Bool) (fs : Fields) → materialize_fields allow fs ≡ none_if (has_any (kinds_ofs fs) && not allow) (map_fields materialized_leaf fs)
  knowns_are allow empty = refl
  knowns_are allow (field name t fs) =
      rw (known_by_leaves allow t, knowns_are allow fs, any_append (λ j. eqb j Kind.UnknownAny) (kinds_of t) (kinds_ofs fs))
      (bind_none (field name) (has_any (kinds_of t)) (has_any (kinds_ofs fs)) (not allow) (map_leaves materialized_leaf t) (map_fields materialized_leaf fs))

-- the whole call is refused where any stands in the type and isn't allowed
pub known_is :
    (allow : Bool) (t : DataType)
    → materialize_unknown allow t ≡ none_if (has_any (kinds_of t) && not allow) (map_leaves (leaf_with materialized_in) t)
known_is allow t =
    known_by_leaves allow t
    ∙ ap (λ rule. none_if (has_any (kinds_of t) && not allow) (map_leaves rule t)) materialized_rule

-- ---- the shape stays
pub count_map : (rule : ℕ → ℕ → DataType) (fs : Fields) → count (map_fields rule fs) ≡ count fs
unfolding count map_leaves
count_map rule empty = refl
count_map rule (field name t fs) = ap suc (count_map rule fs)

module _ (f : ℕ → ℕ → ℕ) where
  mutual
    unfolding size map_leaves

    pub size_map : (t : DataType) → size (map_leaves (leaf_with f) t) ≡ size t
    size_map (leaf k a) = refl
    size_map (list t) = ap suc (size_map t)
    size_map (array w t) = ap suc (size_map t)
    size_map (struct fs) = ap suc (sizes_map fs)

    pub sizes_map : (fs : Fields) → sizes (map_fields (leaf_with f) fs) ≡ sizes fs
    sizes_map empty = refl
    sizes_map (field name t fs) = ap suc (ap₂ ◌+◌ (size_map t) (sizes_map fs))

  mutual
    unfolding depth map_leaves

    depth_map : (t : DataType) → depth (map_leaves (leaf_with f) t) ≡ depth t
    depth_map (leaf k a) = refl
    depth_map (list t) = ap suc (depth_map t)
    depth_map (array w t) = ap suc (depth_map t)
    depth_map (struct fs) = depths_map fs

    depths_map : (fs : Fields) → depths (map_fields (leaf_with f) fs) ≡ depths fs
    depths_map empty = refl
    depths_map (field name t fs) = ap₂ (λ (d : ℕ). max (suc (suc d))) (depth_map t) (depths_map fs)

  -- what is built anew of a valid type is a valid type, where that holds of a leaf
  module _ (ruled_leaf : (k a : ℕ) → Ruled (leaf k a) → Ruled (leaf_with f k a)) where
    mutual
      unfolding Ruled map_leaves

      ruled_map : (t : DataType) → Ruled t → Ruled (map_leaves (leaf_with f) t)
      ruled_map (leaf k a) r = ruled_leaf k a r
      ruled_map (list t) r = ruled_map t r
      ruled_map (array w t) r = ruled_map t r
      ruled_map (struct fs) r = (rw (count_map (leaf_with f) fs) r.0, ruled_fields fs r.1)

      ruled_fields : (fs : Fields) → RuledFields fs → RuledFields (map_fields (leaf_with f) fs)
      ruled_fields empty r = tt
      ruled_fields (field name t fs) r = (r.0, ruled_map t r.1, ruled_fields fs r.2)

    is_type : {nodes deep : ℕ} {t : DataType} → IsType nodes deep t → IsType nodes deep (map_leaves (leaf_with f) t)
    is_type {nodes} {deep} {t} v = record { ruled = ruled_map t v.ruled; within = rw size_map v.within; shallow = rw depth_map v.shallow }

module _ {nodes deep : ℕ} {t : DataType} (v : IsType nodes deep t) where
  abbrev KeepsRules : (ℕ → ℕ → DataType) → Type 0
  KeepsRules rule = (k a : ℕ) → Ruled (leaf k a) → Ruled (rule k a)

  pub physical_valid : IsType nodes deep (map_leaves (leaf_with physical_in) t)
  physical_valid = is_type _ (subst KeepsRules physical_rule physical_ruled) v

  pub materialized_valid : IsType nodes deep (map_leaves (leaf_with materialized_in) t)
  materialized_valid = is_type _ (subst KeepsRules materialized_rule materialized_ruled) v
