-- `supertype_place::names::Named::knows` meets its contract. Assumes nothing.
use mathlib.Core.List.{[]}
use mathlib.Core.Path.{sym, ap, ◌∙◌}
use Rattle.std.specs.Prelude.{option_map}
use Rattle.flat.specs.Tree.{Fields}
use Rattle.supertype_nested.specs.Step.{repeats}
use Rattle.supertype_nested.specs.Union.{seen, with_names}
use Rattle.supertype_place.specs.Viewed.{viewed_run}
use Rattle.supertype_place.proofs.Repeats.{not_among, once_new}
use Rattle.supertype_place.proofs.Tables.{before_is, there_is, told_distinct}
use Rattle.supertype_place.proofs.names.Named.knows.Goals as goal

pub returns-then-is_some : goal.returns-then-is_some
returns-then-is_some c =
    λ done e.
    let x = there_is _ c.if-is_some.ensures in
    let d = told_distinct c.args.shortest.fields c.args.shortest.tells (ap (option_map (λ t. t.now)) x.1) in
    c.has.ensures ∙ sym (not_among _ done _ (once_new _ _ _ _ (ap (repeats _) (sym e) ∙ d)))

pub returns : goal.returns
returns c =
    λ done e. c.known.ensures
    ∙ ap (λ (fs : Fields). seen (with_names fs (with_names (viewed_run c.args.self.fields) [])) c.args.field.name)
    (before_is c.args.shortest.fields c.args.field c.args.rest e c.up_to.ensures)
