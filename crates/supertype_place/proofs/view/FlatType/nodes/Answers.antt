-- `supertype_place::view::FlatType::nodes` meets its contract. Assumes nothing.
use mathlib.Core.Path.{refl, sym, ◌∙◌}
use native.Mathlib.Omega.{arith}
use Rattle.supertype_place.proofs.Views.{type_front, leaf_one, span_is}
use Rattle.supertype_place.proofs.view.FlatType.nodes.Goals as goal

pub bounds-self-0 : goal.bounds-self-0
bounds-self-0 c = let v = type_front c.args.self.stands in omega (arith, v.pos, v.kinds)

pub returns-then-self-lt-LIST : goal.returns-then-self-lt-LIST
returns-then-self-lt-LIST c = sym (leaf_one (type_front c.args.self.stands) c.if-self-lt-LIST.true)

pub node_span-requires : goal.node_span-requires
node_span-requires c = (type_front c.args.self.stands).valid

pub unwrap-requires : goal.unwrap-requires
unwrap-requires c = rw (c.node_span.ensures ∙ span_is (type_front c.args.self.stands)) refl

pub returns : goal.returns
returns c = let e = sym c.unwrap.ensures ∙ c.node_span.ensures ∙ span_is (type_front c.args.self.stands) in cc
