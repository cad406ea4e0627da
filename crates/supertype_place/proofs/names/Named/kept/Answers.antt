-- `supertype_place::names::Named::kept` meets its contract. Assumes nothing.
use mathlib.Core.Path.{ap, subst}
use Rattle.std.specs.Prelude.{option_map}
use Rattle.flat.specs.Tree.{Fields}
use Rattle.supertype_place.specs.Names.{KeptFieldOr}
use Rattle.supertype_place.specs.Viewed.{viewed_run}
use Rattle.supertype_place.proofs.Tables.{before_is, kept_once, there_is, told_distinct}
use Rattle.supertype_place.proofs.names.Named.kept.Goals as goal

pub returns-then-is_some : goal.returns-then-is_some
returns-then-is_some c =
    let x = there_is _ c.if-is_some.ensures in
    kept_once c.args.field c.args.rest (told_distinct c.args.self.fields c.args.self.tells (ap (option_map (λ t.
    t.now)) x.1))

pub returns : goal.returns
returns c =
    λ done e. subst (λ (fs : Fields). KeptFieldOr fs c.args.field (viewed_run c.args.rest) c.keep.result)
    (before_is c.args.self.fields c.args.field c.args.rest e c.up_to.ensures) c.keep.ensures
