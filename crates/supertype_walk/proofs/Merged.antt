-- The union of two Structs' fields: the longest's names, then the new ones of the shortest. Assumes nothing.
use mathlib.Core.Path.{◌≡◌, refl, sym, ap, ap₂, ◌∙◌}
use mathlib.Core.List.{List, [], ◌∷◌, ◌++◌, append_assoc}
use Rattle.std.specs.Prelude.{Option, None, Some, option_map, option_and_then}
use Prim.Native.Nat.{ℕ, ◌+◌, ◌≤◌}
use native.Mathlib.Omega.{arith}
use lib.ListN.{length, set, length-append}
use Rattle.flat.specs.Kind as kind
use Rattle.flat.specs.Tree.{struct, Fields, append, count, sizes}
use Rattle.flat.specs.declared.Node.{Node}
use Rattle.flat.proofs.Sizes.{count_le}
use Rattle.supertype_answer.specs.Join.{node}
use Rattle.supertype_nested.specs.Nested.{SuperTypeOptions, union_fields}
use Rattle.supertype_nested.specs.Union.{old_names, new_names, by_names, with_names, outside}
use Rattle.supertype_nested.proofs.Found.{if_told}
use Rattle.supertype_nested.proofs.Names.{by_names_lem, outside_none}
use Rattle.supertype_place.specs.View.{most_nodes}
use Rattle.supertype_place.specs.Written.{nodes_of, nodes_ofs, Fits}
use Rattle.supertype_place.proofs.Writes.{nodes_ofs_append, sizes_nodes}
use Rattle.supertype_place.proofs.Repeats.{count_append}
use Rattle.supertype_walk.specs.Comes.{get_supertype, Joined, Fails, Filled}
use Rattle.supertype_walk.proofs.Told.{kept_on, struct_closed}
use Rattle.supertype_walk.proofs.Unions.{old_sizes, new_sizes}

-- fields, then others
abbrev followed : Option Fields → Option Fields → Option Fields
followed p q = option_and_then (λ old. option_map (append old) q) p

module _ (i : SuperTypeOptions) (fs gs : Fields) where
  abbrev olds : Option Fields
  olds = old_names (get_supertype i) gs [] fs

  abbrev news : Option Fields
  news = new_names (get_supertype i) (with_names fs []) gs

  -- the union by what both come to
  both_are : (p q : Option Fields) → olds ≡ p → news ≡ q → union_fields (get_supertype i) fs gs ≡ followed p q
  unfolding by_names
  both_are p q e h = by_names_lem (get_supertype i) fs gs ∙ ap₂ followed e h

  module _ (old : List Node) {begun : List Node} (n : Node) (e : begun ≡ old ++ n ∷ []) where
    -- the longest's names come to None
    pub old_nothing : (out : List Node) → Fails (old_names (get_supertype i) gs [] fs) begun out
        → Fails (option_map struct (union_fields (get_supertype i) fs gs)) old out
    old_nothing out w =
        record {
          none = ap (option_map struct) (both_are None news w.none refl);
          kept = kept_on old (n ∷ []) out e w.kept;
        }

    module _ {mid : List Node} {a : ℕ} (w : Filled (old_names (get_supertype i) gs [] fs) begun mid a)
        (m : Fits (sizes fs + sizes gs) begun) where
      bound : sizes w.fields + sizes (outside (with_names fs []) gs) ≤ sizes fs + sizes gs
      bound =
          let y = if_told (λ hs. sizes hs + sizes (outside (with_names fs []) gs) ≤ sizes (outside [] fs) + sizes
          (outside [] gs)) olds w.fields w.is (old_sizes i gs [] fs) in
          omega (arith, y, ap sizes (outside_none (get_supertype i) fs), ap sizes (outside_none (get_supertype i) gs))

      mid_length : length mid ≡ length begun + sizes w.fields
      mid_length =
          let x = ap length w.wrote ∙ length-append begun (nodes_ofs w.fields) in omega (arith, x, sizes_nodes w.fields)

      -- room for the new names
      pub new_room : Fits (sizes (outside (with_names fs []) gs)) mid
      new_room = omega (arith, m, bound, mid_length)

      -- the new names come to None
      pub new_nothing : (out : List Node) → Fails (new_names (get_supertype i) (with_names fs []) gs) mid out
          → Fails (option_map struct (union_fields (get_supertype i) fs gs)) old out
      new_nothing out v =
          record {
            none = ap (option_map struct) (both_are (Some w.fields) None w.is v.none);
            kept = kept_on old (n ∷ []) out e (kept_on begun (nodes_ofs w.fields) out w.wrote v.kept);
          }

      -- both are fields
      module _ {out : List Node} {b : ℕ} (v : Filled (new_names (get_supertype i) (with_names fs []) gs) mid out b)
        where
          -- the number of names
          pub merged_names : a + b ≤ most_nodes
          merged_names =
              let y = if_told (λ (hs : Fields). sizes hs ≤ sizes (outside (with_names fs []) gs)) news v.fields v.is
              (new_sizes i (with_names fs []) gs) in
              omega (arith, y, m, bound, w.number, v.number, count_le w.fields, count_le v.fields)

          all_wrote : out ≡ begun ++ nodes_ofs (append w.fields v.fields)
          all_wrote =
              v.wrote ∙ ap (λ (l : List Node). l ++ nodes_ofs v.fields) w.wrote
              ∙ append_assoc begun (nodes_ofs w.fields) (nodes_ofs v.fields)
              ∙ ap (λ (l : List Node). begun ++ l) (sym (nodes_ofs_append w.fields v.fields))

          pub merged : {mark names : ℕ} → mark ≡ length old → names ≡ a + b
              → Joined nodes_of (option_map struct (union_fields (get_supertype i) fs gs)) old
              (set out mark (node kind.Struct names))
          merged {mark} {names} h c =
              record {
                type = struct (append w.fields v.fields);
                is = ap (option_map struct) (both_are (Some w.fields) (Some v.fields) w.is v.is);
                wrote = struct_closed old n (append w.fields v.fields) e all_wrote h
                    (let x : names ≡ count (append w.fields v.fields) = omega (
                      arith,
                      c,
                      w.number,
                      v.number,
                      count_append w.fields v.fields,
                    ) in x);
              }
