-- What a check and the number of nodes come to: the answer, and the ends of the two arrays. Assumes nothing.
use mathlib.Core.Path.{◌≡◌, refl, sym, ap, ◌∙◌}
use mathlib.Core.List.{List}
use Rattle.std.specs.Prelude.{Option, None, Some, Ok, unwrap_or}
use Rattle.std.specs.Prelude.{option_map}
use Prim.Native.Nat.{ℕ, ◌-◌}
use denote.Ref.{Bor}
use lib.ListN.{length, drop}
use Rattle.flat.specs.Tree.{DataType, size}
use Rattle.flat.specs.Reading.{Reading, refused, type, reading}
use Rattle.flat.proofs.Meaning.{Passed, holds}
use Rattle.flat.specs.Output.{optional_of}
use Rattle.dtype_inner.specs.Part.{found, inner_of, nodes_told, part_kinds, part_args, Last, EndOf}
use Rattle.dtype_inner.specs.Laws.{AtEnd, PartLaws}
use Rattle.dtype_inner.proofs.Endings.{Finds, last_none, finds_inner, finds_leaf, finds_array_leaf}

-- the number of nodes of what was found
found_nodes : (o : Option DataType) → Ok (option_map size o) ≡ optional_of (option_map type o)
found_nodes None = refl
found_nodes (Some t) = refl

told_nodes : (o : Option DataType) → nodes_told (optional_of (option_map type o)) ≡ unwrap_or (option_map size o) 0
told_nodes None = refl
told_nodes (Some t) = refl

module _ {f : DataType → Option DataType} {g : List ℕ → Option ℕ} (law : Finds f g) (nodes deep : ℕ) (ks xs : List ℕ) where
  -- the answer where they are a type
  pub answers : Passed nodes deep ks xs → {n : Option ℕ} → n ≡ g ks → Ok n ≡ inner_of f (reading nodes deep ks xs)
  answers v q =
      ap Ok (q ∙ ap g v.form.kinds ∙ (law.finds v.tree v.form.is_type.ruled).nodes) ∙ found_nodes (f v.tree)
      ∙ ap (inner_of f) (sym v.reads)

  -- the ends of the two arrays that go with an answer
  module _ {n : ℕ} (e : n ≡ nodes_told (inner_of f (reading nodes deep ks xs))) where
    lasts : let o = found f (reading nodes deep ks xs) in Last n ks (part_kinds o) × Last n xs (part_args o)
    lasts = rw e (go (reading nodes deep ks xs) refl)
      where
        go : (r : Reading) → reading nodes deep ks xs ≡ r
            → let n = nodes_told (inner_of f r) in Last n ks (part_kinds (found f r)) × Last n xs (part_args (found f r))
        go (refused e) q = (last_none ks, last_none xs)
        go (type t) q =
            let h = holds nodes deep ks xs t q in
            let d = law.finds t h.is_type.ruled in
            rw (h.kinds, h.args, told_nodes, ← d.nodes) (d.kinds, d.args)

    pub kinds_last : Last n ks (part_kinds (found f (reading nodes deep ks xs)))
    kinds_last = lasts.0

    pub args_last : Last n xs (part_args (found f (reading nodes deep ks xs)))
    args_last = lasts.1

-- the part of a slice that holds its last n elements
pub end_shows : {n bytes : ℕ} {these : List ℕ} {whole r : Bor (List ℕ)} → Last n whole.now these
    → EndOf bytes (drop (length whole.now - n) whole.now) whole r → EndOf bytes these whole r
end_shows l e = rw l.shows at e

-- where each part stands
at_end : {f : DataType → Option DataType} {g : List ℕ → Option ℕ} → Finds f g → AtEnd f
at_end law = record {
  kinds = λ nodes deep ks xs. kinds_last law nodes deep ks xs refl;
  args = λ nodes deep ks xs. args_last law nodes deep ks xs refl;
}

pub part_laws : PartLaws
part_laws = record { inner = at_end finds_inner; leaf = at_end finds_leaf; array_leaf = at_end finds_array_leaf }
