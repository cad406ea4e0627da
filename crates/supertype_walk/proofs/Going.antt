-- Fields written one after the other: what all the loops over fields keep. Assumes nothing.
use mathlib.Core.Path.{◌≡◌, refl, sym, ap, ◌∙◌}
use mathlib.Core.List.{List, ◌∷◌, ◌++◌, append_assoc, append-nil}
use Rattle.std.specs.Prelude.{Option, None, Some, option_map, option_and_then}
use Prim.Native.Nat.{ℕ, ◌+◌, ◌≤◌}
use native.Mathlib.Omega.{arith}
use lib.ListN.{length, take, length-append}
use Rattle.flat.specs.Kind as kind
use Rattle.flat.specs.Tree.{DataType, Fields, empty, field, append, count, sizes}
use Rattle.flat.specs.declared.Node.{Node}
use Rattle.flat.proofs.Sizes.{count_le}
use Rattle.flat.proofs.Truths.{impossible}
use Rattle.supertype_answer.specs.Join.{node}
use Rattle.supertype_nested.specs.Nested.{Zip, names_differ, no_join, joined, zip_on}
use Rattle.supertype_place.specs.Written.{nodes_of, nodes_ofs}
use Rattle.supertype_place.proofs.Writes.{nodes_ofs_append, sizes_nodes}
use Rattle.supertype_place.proofs.Repeats.{append_append, append_none, count_append}
use Rattle.supertype_walk.proofs.Told.{kept_on}

-- fields before what a loop comes to
abbrev pub behind : Fields → Zip → Zip
behind done names_differ = names_differ
behind done no_join = no_join
behind done (joined fs) = joined (append done fs)

-- fields, or None, as what a loop comes to
abbrev pub zip_o : Option Fields → Zip
zip_o None = no_join
zip_o (Some fs) = joined fs

pub zip_none : (q : Option Fields) → zip_o q ≡ no_join → q ≡ None
zip_none None e = refl
zip_none (Some fs) e = impossible cc

pub zip_some : (q : Option Fields) (fs : Fields) → zip_o q ≡ joined fs → q ≡ Some fs
zip_some None fs e = impossible cc
zip_some (Some gs) fs e = cc

-- a field before fields, as what a loop comes to
pub zip_before : (name : ℕ) (p : Option DataType) (q : Option Fields)
    → zip_o (option_and_then (λ st. option_map (field name st) q) p) ≡ zip_on name p (zip_o q)
zip_before name None q = refl
zip_before name (Some st) None = refl
zip_before name (Some st) (Some fs) = refl

-- Of the whole n fields are written; `rest` is to come.
pub record Going (whole rest : Zip) (n : ℕ) (old new : List Node) : Type 0 where
  pub done : Fields
  pub same : whole ≡ behind done rest
  pub number : n ≡ count done
  pub wrote : new ≡ old ++ nodes_ofs done

behind_append : (fs gs : Fields) (z : Zip) → behind fs (behind gs z) ≡ behind (append fs gs) z
behind_append fs gs names_differ = refl
behind_append fs gs no_join = refl
behind_append fs gs (joined hs) = ap joined (sym (append_append fs gs hs))

behind_none : (z : Zip) → z ≡ behind empty z
unfolding append
behind_none names_differ = refl
behind_none no_join = refl
behind_none (joined fs) = refl

behind_one : (name : ℕ) (t : DataType) (z : Zip) → zip_on name (Some t) z ≡ behind (field name t empty) z
unfolding append
behind_one name t names_differ = refl
behind_one name t no_join = refl
behind_one name t (joined fs) = refl

pub going_start : (z : Zip) (old : List Node) → Going z z 0 old old
unfolding count nodes_of
going_start z old =
    record { done = empty; same = behind_none z; number = refl; wrote = sym (append-nil old) }

module _ {whole rest : Zip} {n : ℕ} {old new : List Node} (g : Going whole rest n old new) where
  -- one field more
  pub going_next : (name : ℕ) (t : DataType) (z : Zip) → rest ≡ zip_on name (Some t) z → {last : List Node}
      → last ≡ new ++ (node kind.Field name ∷ nodes_of t) → Going whole z (n + 1) old last
  unfolding count nodes_of
  going_next name t z e h =
      record {
        done = append g.done (field name t empty);
        same = g.same ∙ ap (behind g.done) (e ∙ behind_one name t z) ∙ behind_append g.done (field name t empty) z;
        number = omega (arith, g.number, count_append g.done (field name t empty));
        wrote = h ∙ ap (λ (l : List Node). l ++ (node kind.Field name ∷ nodes_of t)) g.wrote
            ∙ append_assoc old (nodes_ofs g.done) _
            ∙ ap (λ (l : List Node). old ++ l)
            (ap (λ (l : List Node). nodes_ofs g.done ++ (node kind.Field name ∷ l)) (sym (append-nil (nodes_of t)))
            ∙ sym (nodes_ofs_append g.done (field name t empty)));
      }

  -- the rest comes to nothing, or names differ
  pub going_nothing : rest ≡ no_join → whole ≡ no_join
  going_nothing e = g.same ∙ ap (behind g.done) e

  pub going_apart : rest ≡ names_differ → whole ≡ names_differ
  going_apart e = g.same ∙ ap (behind g.done) e

  -- nothing is to come
  pub going_end : rest ≡ joined empty → whole ≡ joined g.done
  going_end e = g.same ∙ ap (behind g.done) e ∙ ap joined (append_none g.done)

  -- what stood before the loop
  pub going_kept : (last : List Node) → take (length new) last ≡ new → take (length old) last ≡ old
  going_kept last h = kept_on old (nodes_ofs g.done) last g.wrote h

  -- so many nodes are written
  pub going_length : length new ≡ length old + sizes g.done
  going_length = ap length g.wrote ∙ length-append old (nodes_ofs g.done) ∙ ap (λ (k : ℕ). length old + k)
      (sizes_nodes g.done)

  -- no more fields than nodes
  pub going_number : n ≤ length new
  going_number = omega (arith, g.number, going_length, count_le g.done)
