-- The sizes of a tree and of its flat form. Assumes nothing.
use mathlib.Core.Path.{◌≡◌, refl, ap, ap₂, ◌∙◌}
use Prim.Native.Nat.{suc, ◌+◌, ◌≤◌, ◌<◌}
use native.Mathlib.Omega.{arith}
use lib.ListN.{length, length-append}
use Rattle.flat.specs.Tree.{DataType, leaf, list, array, struct, Fields, empty, field, size, sizes, depth, depths}
use Rattle.flat.specs.Tree.{count, kinds_of, kinds_ofs, args_of, args_ofs}

mutual
  unfolding size kinds_of

  pub length_kinds : (t : DataType) → length (kinds_of t) ≡ size t
  length_kinds (leaf k a) = refl
  length_kinds (list t) = ap suc (length_kinds t)
  length_kinds (array w t) = ap suc (length_kinds t)
  length_kinds (struct fs) = ap suc (length_kindss fs)

  pub length_kindss : (fs : Fields) → length (kinds_ofs fs) ≡ sizes fs
  length_kindss empty = refl
  length_kindss (field name t fs) =
      ap suc (length-append (kinds_of t) (kinds_ofs fs) ∙ ap₂ ◌+◌ (length_kinds t) (length_kindss fs))

mutual
  unfolding size args_of

  pub length_args : (t : DataType) → length (args_of t) ≡ size t
  length_args (leaf k a) = refl
  length_args (list t) = ap suc (length_args t)
  length_args (array w t) = ap suc (length_args t)
  length_args (struct fs) = ap suc (length_argss fs)

  pub length_argss : (fs : Fields) → length (args_ofs fs) ≡ sizes fs
  length_argss empty = refl
  length_argss (field name t fs) =
      ap suc (length-append (args_of t) (args_ofs fs) ∙ ap₂ ◌+◌ (length_args t) (length_argss fs))

mutual
  unfolding size depth

  pub depth_lt : (t : DataType) → depth t < size t
  depth_lt (leaf k a) = omega arith
  depth_lt (list t) = let h = depth_lt t in omega arith
  depth_lt (array w t) = let h = depth_lt t in omega arith
  depth_lt (struct fs) = let h = depths_le fs in omega arith

  pub depths_le : (fs : Fields) → depths fs ≤ sizes fs
  depths_le empty = omega arith
  depths_le (field name t fs) = let h = depth_lt t in let g = depths_le fs in omega arith

pub size_pos : (t : DataType) → 1 ≤ size t
unfolding size
size_pos (leaf k a) = omega arith
size_pos (list t) = omega arith
size_pos (array w t) = omega arith
size_pos (struct fs) = omega arith

pub count_le : (fs : Fields) → count fs ≤ sizes fs
unfolding size count
count_le empty = omega arith
count_le (field name t fs) = let h = count_le fs in omega arith
