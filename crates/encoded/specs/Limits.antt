-- Encoded types at the code's own limits, with its own width of an argument. Assumes nothing: these are definitions.
use Rattle.std.specs.Prelude.{◌≡◌, List, ℕ, Option, Result, Ok, length}
use Rattle.flat.specs.Reading.{Reading, reading, checked_of}
use Rattle.flat.specs.declared.TheConstants.Flat.{MAX_NODES, MAX_DEPTH}
use Rattle.flat.specs.declared.error.Error.{Error}
use Rattle.encoded.specs.declared.TheConstants.Encoding.{ARGUMENT_BYTES}
use Rattle.encoded.specs.Encoding.{decoding}
use Rattle.encoded.specs.Answer.{nodes_in, fitting_bytes, Encodes}
use Rattle.encoded.specs.Found.{fitting_found_bytes, EncodesFound}
use Rattle.encoded.specs.RoundTrip.{ReadsBack}

-- what bytes are
abbrev pub decoded : List ℕ → Reading
decoded = decoding ARGUMENT_BYTES MAX_NODES MAX_DEPTH

-- how many nodes bytes of the right length hold
abbrev pub counted : List ℕ → Option ℕ
counted = nodes_in ARGUMENT_BYTES MAX_NODES

-- two arrays that are a type
abbrev pub Checked : (ks xs : List ℕ) → Type 0
Checked ks xs = Ok tt ≡ checked_of (reading MAX_NODES MAX_DEPTH ks xs)

-- What a call comes to that encodes r: its answer, and the lent bytes, out before the call and out' after it.
abbrev pub PutsType : Reading → (out out' : List ℕ) → Result ℕ Error → Type 0
PutsType r out out' = Encodes ARGUMENT_BYTES (fitting_bytes ARGUMENT_BYTES (length out) r) out out'

-- What a call comes to that encodes what was found, if something was.
abbrev pub PutsFound : Option Reading → (out out' : List ℕ) → Result (Option ℕ) Error → Type 0
PutsFound found out out' = EncodesFound ARGUMENT_BYTES (fitting_found_bytes ARGUMENT_BYTES (length out) found) out out'

-- a stored type reads back as written
abbrev pub StoredReadsBack : Type 0
StoredReadsBack = ReadsBack ARGUMENT_BYTES MAX_NODES MAX_DEPTH
