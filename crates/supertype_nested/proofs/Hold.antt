-- The laws hold. Assumes nothing.
use Rattle.flat.specs.Tree.{size}
use Prim.Native.Nat.{◌+◌}
use Rattle.supertype_nested.specs.Nested.{supertype_tree}
use Rattle.supertype_nested.specs.Laws.{NestedLaws}
use Rattle.supertype_nested.proofs.Found.{if_told}
use Rattle.supertype_nested.proofs.Smaller.{Below, tree_smaller}
use Rattle.supertype_nested.proofs.Recursive.{recursive, none_symmetric}
use Rattle.supertype_nested.proofs.Leaves.{leaf_law}
use Rattle.supertype_nested.proofs.Union.{alone}
use Rattle.supertype_nested.proofs.Names.{left_longest, right_longest, by_names_lem}
use Rattle.supertype_nested.proofs.Valid.{leaves_fit, valid}

pub nested_laws : NestedLaws
nested_laws =
    record {
      recursive = recursive;
      smaller = λ o i l r t e. if_told (Below (size l + size r)) (supertype_tree o i l r) t e (tree_smaller o i l r);
      none_symmetric = none_symmetric;
      leaves = leaf_law;
      fits = leaves_fit;
      valid = valid;
      union =
          record {
            left_longest = left_longest;
            right_longest = right_longest;
            by_names_lem = by_names_lem;
            alone = alone;
          };
    }
