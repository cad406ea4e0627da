-- An answer within the code's own limits is a valid type: its limit of nodes lets no Struct have too many fields.
-- Assumes nothing.
use lib.Dec.{lit≤}
use Rattle.flat.specs.declared.TheConstants.Flat.{MAX_NODES, MAX_DEPTH}
use Rattle.supertype_nested.specs.Laws.{AnswersValid}
use Rattle.supertype_nested.proofs.Valid.{few_fields}
use Rattle.supertype_nested.proofs.Hold.{nested_laws}

pub answers_valid : AnswersValid MAX_NODES MAX_DEPTH
answers_valid = nested_laws.valid _ _ (few_fields (lit≤ tt))
