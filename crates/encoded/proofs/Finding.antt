-- What a call comes to that may find a type, and encodes it: None and a refusal leave all as it was. Assumes nothing.
use mathlib.Core.Path.{◌≡◌, refl, sym, ap, ◌∙◌}
use mathlib.Core.List.{List}
use Rattle.std.specs.Prelude.{Option, Some, Result, Ok, Err}
use Prim.Native.Nat.{ℕ}
use Rattle.flat.specs.Reading.{Reading, refused, type}
use Rattle.flat.specs.declared.error.Error.{Error}
use Rattle.flat.specs.Tree.{size}
use Rattle.flat.proofs.Truths.{impossible}
use Rattle.encoded.specs.Encoding.{encoded_size}
use Rattle.encoded.specs.Answer.{fitting_bytes, bytes_over, encoded_of, Encodes}
use Rattle.encoded.specs.Found.{fitting_found_bytes, optional_bytes, EncodesFound}

-- a refusal is given whatever room there is
pub refusal_found : (w m : ℕ) {found : Option Reading} {e : Error} {out : List ℕ} → found ≡ Some (refused e)
    → EncodesFound w (fitting_found_bytes w m found) out out (Err e)
unfolding fitting_bytes bytes_over
refusal_found w m h = rw h (record { answers = refl; bytes = refl })

some_bytes : (w : ℕ) (r : Reading) {n : ℕ} → Ok n ≡ encoded_of w r → Ok (Some n) ≡ optional_bytes w (Some r)
some_bytes w (refused e) q = impossible cc
some_bytes w (type t) {n} q = let m : n ≡ encoded_size w (size t) = cc in ap (λ (k : ℕ). Ok (Some k)) m

refused_bytes : (w : ℕ) (r : Reading) {e : Error} → Err e ≡ encoded_of w r → Err e ≡ optional_bytes w (Some r)
refused_bytes w (refused d) {e} q = let y : e ≡ d = cc in ap Err y
refused_bytes w (type t) q = impossible cc

-- what was found is encoded, or is refused
module _ {w : ℕ} {r : Reading} {out out' : List ℕ} {d : Result ℕ Error} (f : Encodes w r out out' d) where
  pub encodes_found : {n : ℕ} → d ≡ Ok n → EncodesFound w (Some r) out out' (Ok (Some n))
  encodes_found q = record { answers = some_bytes w r (sym q ∙ f.answers); bytes = f.bytes }

  pub encodes_refusal : {e : Error} → d ≡ Err e → EncodesFound w (Some r) out out' (Err e)
  encodes_refusal q = record { answers = refused_bytes w r (sym q ∙ f.answers); bytes = f.bytes }
