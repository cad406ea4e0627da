-- `supertype_place::view::FlatType::root` meets its contract. Assumes nothing.
use mathlib.Core.Path.{sym, ap₂}
use native.Mathlib.Omega.{arith}
use Rattle.supertype_answer.specs.Join.{node}
use Rattle.supertype_place.proofs.Views.{type_front, root_kind, root_arg}
use Rattle.supertype_place.proofs.view.FlatType.root.Goals as goal

pub bounds-self-0 : goal.bounds-self-0
bounds-self-0 c = let v = type_front c.args.self.stands in omega (arith, v.pos, v.kinds)

pub bounds-self-0-2 : goal.bounds-self-0-2
bounds-self-0-2 c = let v = type_front c.args.self.stands in omega (arith, v.pos, v.args)

pub returns : goal.returns
returns c = let v = type_front c.args.self.stands in ap₂ node (sym (root_kind v)) (sym (root_arg v))
