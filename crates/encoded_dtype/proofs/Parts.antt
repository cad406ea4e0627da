-- The parts of an encoded type, at the end of its kinds and of its arguments, and its shape, at their front. Assumes
-- nothing.
use mathlib.Core.Path.{◌≡◌, refl, sym, ap, ap₂, ◌∙◌}
use mathlib.Core.List.{List}
use Rattle.std.specs.Prelude.{Option, None, Some, Result, Ok, Err}
use Rattle.std.specs.Prelude.{option_map}
use Prim.Native.Nat.{ℕ, ◌-◌, ◌≤◌}
use native.Mathlib.Omega.{arith}
use lib.ListN.{length, drop}
use Rattle.flat.specs.Tree.{DataType}
use Rattle.flat.specs.Reading.{Reading, type}
use Rattle.flat.specs.declared.error.Error.{Error}
use Rattle.flat.proofs.Truths.{impossible}
use Rattle.flat.proofs.Positions.{rest}
use Rattle.flat.proofs.Walks.{from, length_from}
use Rattle.encoded.specs.Encoding.{decoding}
use Rattle.encoded.specs.Answer.{fitting_bytes, Encodes, Puts}
use Rattle.encoded.specs.Found.{fitting_found_bytes, EncodesFound}
use Rattle.encoded.proofs.Answers.{puts_type}
use Rattle.encoded.proofs.Finding.{encodes_found, encodes_refusal}
use Rattle.encoded.proofs.Opening.{OpenedAs}
use Rattle.dtype_inner.specs.Part.{part_reading, Last}
use Rattle.dtype_inner.specs.Shape.{shape, shape_of, arrays_at, widths_at}
use Rattle.dtype_inner.proofs.Endings.{Finds}
use Rattle.dtype_inner.proofs.Shapes.{arrays_fit, shape_at}
use Rattle.encoded_dtype.specs.Parts.{LastOf, TellsPart}

-- ---- the kinds tell how many of the last nodes the part has
pub tells_part :
    {part : DataType → Option DataType} {told : List ℕ → Option ℕ} → Finds part told → {ks : List ℕ} {m : Option ℕ}
    → m ≡ told ks → TellsPart part ks m
tells_part law q = λ t r k.
    let d = law.finds t r in
    rw (q, k) (record { count = d.nodes; kinds = d.kinds; args = d.args })

-- ---- an opened type, of the kinds ks and the arguments xs

-- the last m elements of a list
last_part : {m at : ℕ} {l whole these : List ℕ} → l ≡ whole → at ≡ length l - m → Last m whole these → from at l ≡ these
last_part {m} {at} {l} e i last = rest l at ∙ ap (λ (j : ℕ). drop j l) i ∙ (rw (← e) at last.shows)

module _ {w nodes deep : ℕ} {s ks xs : List ℕ} (o : OpenedAs w nodes deep s ks xs) (part : DataType → Option DataType) {m : Option ℕ} (h : TellsPart part ks m) where
  last_of : LastOf o.arrays.tree (part o.arrays.tree) m
  last_of = h o.arrays.tree o.arrays.form.is_type.ruled o.arrays.form.kinds

  -- there is none
  pub part_none :
      {out : List ℕ} → m ≡ None
      → EncodesFound w (fitting_found_bytes w (length out) (part_reading part (decoding w nodes deep s))) out out (Ok None)
  part_none {out} q = rw o.reads (go (part o.arrays.tree) (rw q at last_of))
    where
      go : (u : Option DataType) → LastOf o.arrays.tree u None
          → EncodesFound w (fitting_found_bytes w (length out) (option_map type u)) out out (Ok None)
      go None f = record { answers = refl; bytes = refl }
      go (Some u) f = let c = f.count in impossible cc

  -- there are m nodes
  module _ {n : ℕ} (q : m ≡ Some n) where
    some_last : LastOf o.arrays.tree (part o.arrays.tree) (Some n)
    some_last = rw q at last_of

    pub part_within : n ≤ length ks
    part_within = rw (← o.arrays.form.kinds) at some_last.kinds.within

    -- the two ends are as long as each other
    pub part_puts :
        (at : ℕ) → (length (from at ks) ≡ length (from at xs)) × (length (from at ks) ≤ nodes)
    part_puts at =
        let k = length_from at ks in
        let x = length_from at xs in
        (omega (arith, o.arrays.even), omega (arith, o.few))

    -- they were put, with the answer d
    module _ {at : ℕ} {out out' : List ℕ} {d : Result ℕ Error} (i : at ≡ length ks - n) (p : Puts w (from at ks) (from at xs) out out' d) where
      part_encodes :
          (r : Reading) × (part_reading part (decoding w nodes deep s) ≡ Some r)
          × Encodes w (fitting_bytes w (length out) r) out out' d
      part_encodes = rw o.reads (go (part o.arrays.tree) some_last)
        where
          go : (u : Option DataType) → LastOf o.arrays.tree u (Some n)
              → (r : Reading) × (option_map type u ≡ Some r) × Encodes w (fitting_bytes w (length out) r) out out' d
          go None f = let c = f.count in impossible cc
          go (Some u) f =
              let even = o.arrays.even in
              let xs_at : at ≡ length xs - n = i ∙ ap (λ (j : ℕ). j - n) even in
              (type u, refl, puts_type u (last_part o.arrays.form.kinds i f.kinds) (last_part o.arrays.form.args xs_at f.args) p)

      pub part_some : {k : ℕ} → d ≡ Ok k
          → EncodesFound w (fitting_found_bytes w (length out) (part_reading part (decoding w nodes deep s))) out out' (Ok (Some k))
      part_some q = let e = part_encodes in rw e.1 (encodes_found e.2 q)

      pub part_refused : {e : Error} → d ≡ Err e
          → EncodesFound w (fitting_found_bytes w (length out) (part_reading part (decoding w nodes deep s))) out out' (Err e)
      part_refused q = let e = part_encodes in rw e.1 (encodes_refusal e.2 q)

-- ---- the widths of the Arrays at the front
module _ {w nodes deep : ℕ} {s ks xs : List ℕ} (o : OpenedAs w nodes deep s ks xs) where
  pub arrays_few : arrays_at ks ≤ deep
  arrays_few = rw o.arrays.form.kinds (arrays_fit o.arrays.form.is_type)

  pub opened_shape : Ok (shape deep (widths_at ks xs)) ≡ shape_of deep (decoding w nodes deep s)
  opened_shape =
      ap Ok (ap (shape deep) (ap₂ widths_at o.arrays.form.kinds o.arrays.form.args) ∙ shape_at o.arrays.form.is_type)
      ∙ ap (shape_of deep) (sym o.reads)
